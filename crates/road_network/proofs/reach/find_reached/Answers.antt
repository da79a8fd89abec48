use Rattle.std.proofs.Common.{◌≡◌, ◌+◌, ◌-◌, ◌<◌, ◌≤◌, length, take, drop, get_or, ap, sym, subst, ◌∙◌, arith}
use Rattle.std.proofs.lemmas.List.{get_or_read}
use Rattle.std.proofs.lemmas.List.Sums.{count_by-le-length}
use Rattle.carp_base.specs.Problem.{IsReached, IsVertex}
use Rattle.road_network.specs.Incidence.{incident}
use Rattle.road_network.proofs.Searching.{marked_reached, all_closed, closed_more, path_marked}
use Rattle.road_network.proofs.reach.find_reached.Goals as goal

pub find_neighbours-requires-clause-edges : goal.find_neighbours-requires-clause-edges
find_neighbours-requires-clause-edges c =
    let found = c.loop-next.invariant.found in
    let starts = c.args.starts.now in
    let v = c.index-v.result.now in
    let below : c.loop-next.next < length c.loop-next.found.items = omega arith in
    let is = get_or_read c.loop-next.found.items c.loop-next.next v below c.index-v.ensures 0 in
    let small : v ≤ c.args.inst.now.vertices = omega (arith, is, (found.vertices c.loop-next.next below).in_range) in
    let long : get_or starts (v + 1) 0 - get_or starts v 0 ≡ length (incident c.args.inst.now v) = omega (arith, c.requires.next v small) in
    ap (λ n. take n (drop (get_or starts v 0) c.args.incident.now)) long ∙ c.requires.lists v small

pub find_neighbours-requires-clause-vertex : goal.find_neighbours-requires-clause-vertex
find_neighbours-requires-clause-vertex c =
    let below : c.loop-next.next < length c.loop-next.found.items = omega arith in
    let is = get_or_read c.loop-next.found.items c.loop-next.next c.index-v.result.now below c.index-v.ensures 0 in
    subst (IsVertex c.args.inst.now) (sym is) (c.loop-next.invariant.found.vertices c.loop-next.next below)

pub find_neighbours-requires-clause-from : goal.find_neighbours-requires-clause-from
find_neighbours-requires-clause-from c =
    let below : c.loop-next.next < length c.loop-next.found.items = omega arith in
    let is = get_or_read c.loop-next.found.items c.loop-next.next c.index-v.result.now below c.index-v.ensures 0 in
    subst (IsReached c.args.inst.now) (sym is) (c.loop-next.invariant.found.sound c.loop-next.next below)

pub loop-next-preserved : goal.loop-next-preserved
loop-next-preserved c =
    let p = c.args.inst.now in
    let loop = c.loop-next.invariant in
    let on = c.in_ok-find_neighbours.ensures in
    let below : c.loop-next.next < length c.loop-next.found.items = omega arith in
    let is = get_or_read c.loop-next.found.items c.loop-next.next c.index-v.result.now below c.index-v.ensures 0 in
    record {
      valid = loop.valid;
      found = on.found;
      depot = on.grows.marks p.depot loop.depot;
      within = omega (arith, on.grows.longer, below);
      closed = closed_more p c.loop-next.reached.items c.loop-next.found.items c.find_neighbours.new.reached.items c.find_neighbours.new.found.items c.loop-next.next c.index-v.result.now
          on.grows below is on.all loop.closed;
    }

pub loop-next-smaller : goal.loop-next-smaller
loop-next-smaller c =
    let n = c.args.inst.now.vertices in
    let found = c.loop-next.invariant.found in
    let less : n + 1 - (c.loop-next.next + 1) < n + 1 - c.loop-next.next = omega (arith, found.counted, found.long, count_by-le-length (λ b. b) c.loop-next.reached.items) in
    less

pub returns-clause-reaches : goal.returns-clause-reaches
returns-clause-reaches c =
    let p = c.args.inst.now in
    let loop = c.loop-next.invariant in
    let reached = c.loop-next.reached.items in
    let found = c.loop-next.found.items in
    λ v vertex. (
      λ marked. marked_reached p reached found loop.found v marked,
      λ is. path_marked p reached (all_closed p reached found c.loop-next.next loop.found (omega arith) loop.closed) p.depot is.path v is.leads loop.depot,
    )
