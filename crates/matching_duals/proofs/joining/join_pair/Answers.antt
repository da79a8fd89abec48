use Rattle.std.proofs.Common.{◌≡◌, ◌<◌, ◌+◌, ◌-◌, ℕ, length, get_or, refl, ap, sym, ◌∙◌, subst, arith}
use Rattle.std.proofs.lemmas.List.{get_or_default}
use Rattle.carp_base.specs.Problem.{IsVertex}
use Rattle.deadhead_paths.specs.Prices.{NoneLead}
use Rattle.blossom_match.specs.Answer.{mate_in}
use Rattle.matching_duals.specs.OddSets.{is_odd}
use Rattle.matching_duals.proofs.Places.{odd_places}
use Rattle.matching_duals.proofs.Degrees.{odd_are_linked}
use Rattle.matching_duals.proofs.Joined.{on_edges, path_of, paired_more, paired_skip}
use Rattle.matching_duals.proofs.joining.join_pair.Goals as goal

pub follow-requires-clause-from : goal.follow-requires-clause-from
follow-requires-clause-from c =
    let p = c.args.inst.now in
    let odd = c.args.ground.now.odd.items in
    let places = odd_places c.vertices_are_listed.ensures p odd c.validity.ensures c.requires.odd in
    let at : c.index.result.now ≡ get_or odd c.args.i 0 = c.index.ensures ∙ get_or_default odd c.args.i c.index.result.now 0 c.requires.place in
    subst (λ q. IsVertex q c.index.result.now) (sym c.requires.problem) (subst (IsVertex p) (sym at) (places.vertex c.args.i c.requires.place))

mate_is : (mate : ℕ → ℕ) (i k : ℕ) → k ≡ mate (i + 1 - 1) + 1 → k - 1 ≡ mate i
mate_is mate i k is = let e : i + 1 - 1 ≡ i = omega arith in omega (arith, is, ap mate e)

pub follow-requires-clause-to : goal.follow-requires-clause-to
follow-requires-clause-to c =
    let p = c.args.inst.now in
    let odd = c.args.ground.now.odd.items in
    let places = odd_places c.vertices_are_listed.ensures p odd c.validity.ensures c.requires.odd in
    let m = c.args.matching.now in
    let mate = mate_is (mate_in m) c.args.i c.mate.result c.mate.ensures in
    let below : c.mate.result - 1 < length odd = omega (arith, mate, c.requires.made.mates_in c.args.i (omega (arith, c.requires.place, c.requires.size)), c.requires.size) in
    let to = c.index-then-i-mate.result.now in
    let at : to ≡ get_or odd (c.mate.result - 1) 0 = c.index-then-i-mate.ensures ∙ get_or_default odd (c.mate.result - 1) to 0 below in
    subst (λ q. IsVertex q to) (sym c.requires.problem) (subst (IsVertex p) (sym at) (places.vertex (c.mate.result - 1) below))

pub follow-requires-clause-linked : goal.follow-requires-clause-linked
follow-requires-clause-linked c =
    let p = c.args.inst.now in
    let odd = c.args.ground.now.odd.items in
    let places = odd_places c.vertices_are_listed.ensures p odd c.validity.ensures c.requires.odd in
    let m = c.args.matching.now in
    let mate = mate_is (mate_in m) c.args.i c.mate.result c.mate.ensures in
    let below : c.mate.result - 1 < length odd = omega (arith, mate, c.requires.made.mates_in c.args.i (omega (arith, c.requires.place, c.requires.size)), c.requires.size) in
    let from = c.index.result.now in
    let to = c.index-then-i-mate.result.now in
    let from_at : from ≡ get_or odd c.args.i 0 = c.index.ensures ∙ get_or_default odd c.args.i from 0 c.requires.place in
    let to_at : to ≡ get_or odd (c.mate.result - 1) 0 = c.index-then-i-mate.ensures ∙ get_or_default odd (c.mate.result - 1) to 0 below in
    λ none. odd_are_linked p from to c.validity.ensures (ap (is_odd p) from_at ∙ places.odd_at c.args.i c.requires.place)
    (ap (is_odd p) to_at ∙ places.odd_at (c.mate.result - 1) below) (subst (λ q. NoneLead q from to) c.requires.problem none)

pub toggle-requires-clause-edges : goal.toggle-requires-clause-edges
toggle-requires-clause-edges c =
    let p = c.args.inst.now in
    let from = c.index.result.now in
    let to = c.index-then-i-mate.result.now in
    let path = path_of p c.args.dist.now from to from to c.new-walk.result c.follow.new.walk c.requires.problem c.requires.costs refl refl c.new-walk.ensures c.in_ok-follow.ensures in
    on_edges p from to c.follow.new.walk path.deadheads.leads

pub returns-in_ok-follow : goal.returns-in_ok-follow
returns-in_ok-follow c =
    let p = c.args.inst.now in
    let odd = c.args.ground.now.odd.items in
    let places = odd_places c.vertices_are_listed.ensures p odd c.validity.ensures c.requires.odd in
    let m = c.args.matching.now in
    let i = c.args.i in
    let mate : c.mate.result - 1 ≡ mate_in m i = mate_is (mate_in m) i c.mate.result c.mate.ensures in
    let below : mate_in m i < length odd = omega (arith, c.requires.made.mates_in i (omega (arith, c.requires.place, c.requires.size)), c.requires.size) in
    let from = c.index.result.now in
    let to = c.index-then-i-mate.result.now in
    let from_at : from ≡ get_or odd i 0 = c.index.ensures ∙ get_or_default odd i from 0 c.requires.place in
    let to_at : to ≡ get_or odd (mate_in m i) 0 =
    c.index-then-i-mate.ensures ∙ ap (λ k. get_or odd k to) mate ∙ get_or_default odd (mate_in m i) to 0 below in
    let path = path_of p c.args.dist.now from to (get_or odd i 0) (get_or odd (mate_in m i) 0) c.new-walk.result c.follow.new.walk c.requires.problem c.requires.costs from_at to_at
    c.new-walk.ensures c.in_ok-follow.ensures in
    paired_more p odd c.args.ground.now.table.items (mate_in m) c.requires.reaches i c.args.counts.now c.toggle.new.counts c.follow.new.walk
    (omega (arith, c.if-i-mate.true, mate)) (places.vertex i c.requires.place) (places.vertex (mate_in m i) below) path c.toggle.auto.counts c.toggle.ensures.parities
    c.toggle.ensures.bits c.requires.paired

pub returns-else-i-mate : goal.returns-else-i-mate
returns-else-i-mate c =
    let m = c.args.matching.now in
    let mate : c.mate.result - 1 ≡ mate_in m c.args.i = mate_is (mate_in m) c.args.i c.mate.result c.mate.ensures in
    paired_skip c.args.inst.now c.args.ground.now.odd.items c.args.ground.now.table.items (mate_in m) c.args.i c.args.counts.now (omega (arith, c.if-i-mate.false, mate)) c.requires.paired
