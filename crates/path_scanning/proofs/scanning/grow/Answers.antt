use Rattle.std.proofs.Common.{◌≡◌, ◌+◌, ◌-◌, ◌≤◌, length, [], ◌∷◌, ◌++◌, true, sym, ap, ◌∙◌, subst, arith, refl}
use Rattle.std.proofs.Math.ListN.{set, length-set}
use Rattle.std.proofs.lemmas.List.{length_push}
use Rattle.carp_base.specs.declared.edge.Task.{Task}
use Rattle.carp_base.specs.Problem.{IsRequired, edge_at}
use Rattle.path_scanning.specs.Choosing.{TasksTaken, open_count}
use Rattle.path_scanning.specs.Scans.{ScanMoment, tour_start}
use Rattle.path_scanning.proofs.Taking.{taken_more, taken_whole, taken_served, fewer_open, moment_is, mark_is, all_more}
use Rattle.path_scanning.proofs.scanning.grow.Goals as goal

pub loop-next-smaller : goal.loop-next-smaller
loop-next-smaller c =
    let fits = c.in-Some.ensures.can.fits in
    let served = c.loop-next.served in
    let e = c.in-Some.next.task.edge in
    let below : e ≤ length served = omega (arith, fits.required.in_range, c.loop-next.invariant.long) in
    omega (arith, fewer_open served e fits.required.from_one below fits.unserved, ap open_count (mark_is served e fits.required.from_one))

pub loop-next-preserved : goal.loop-next-preserved
loop-next-preserved c =
    let p = c.args.inst.now in
    let served = c.loop-next.served in
    let loop = c.loop-next.invariant in
    let t = c.in-Some.next.task in
    let fits = c.in-Some.ensures.can.fits in
    let from_one = fits.required.from_one in
    let m : ScanMoment = record { served = served; at = c.loop-next.at; load = c.loop-next.load } in
    let below : t.edge ≤ length served = omega (arith, fits.required.in_range, loop.long) in
    let load_is : c.loop-next.load + c.in-Some.next.demand ≡ c.loop-next.load + (edge_at p t.edge).demand = ap (λ x. c.loop-next.load + x) c.in-Some.ensures.can.measured.demand in
    let served_is = mark_is served t.edge from_one in
    let items = c.in_ok-push.ensures.items in
    let more = taken_more p c.args.rule (tour_start p c.args.served.now) m c.loop-next.tasks.items t loop.taken (record { taken = c.in-Some.next; task = refl; first = c.in-Some.ensures }) in
    let room = fits.room in
    let some = (c.depot-at.ensures.valid.tasks t.edge fits.required).some_demand in
    let longer = length_push c.loop-next.tasks.items t in
    record {
      long = length-set served (t.edge - 1) true ∙ loop.long;
      stand = c.ends-at.ensures.head_stands;
      within = omega (arith, room, load_is);
      few = omega (arith, load_is, some, ap (length {A = Task}) items, longer, loop.few);
      required = rw items (all_more (λ (u : Task). IsRequired p u.edge) c.loop-next.tasks.items t loop.required fits.required);
      taken = rw items
          (subst (TasksTaken p c.args.rule (tour_start p c.args.served.now) (c.loop-next.tasks.items ++ t ∷ [])) (sym (moment_is p m t (set served (t.edge - 1) true) c.ends-at.result.1 (c.loop-next.load + c.in-Some.next.demand) served_is c.ends-at.ensures.head load_is)) more);
      fewer = omega (arith, loop.fewer, ap (length {A = Task}) items, longer, fewer_open served t.edge from_one below fits.unserved, ap open_count served_is);
    }

pub returns : goal.returns
returns c =
    let p = c.args.inst.now in
    let loop = c.loop-next.invariant in
    let m : ScanMoment = record { served = c.loop-next.served; at = c.loop-next.at; load = c.loop-next.load } in
    let start = tour_start p c.args.served.now in
    record {
      takes = taken_whole p c.args.rule start m c.loop-next.tasks.items loop.taken c.in_default.ensures;
      served = taken_served p c.args.rule start m c.loop-next.tasks.items loop.taken;
      required = loop.required;
      few = omega (arith, loop.few, loop.within, c.depot-at.ensures.valid.capacity_in);
      fewer = loop.fewer;
    }
