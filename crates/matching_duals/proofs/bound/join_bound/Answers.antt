use Rattle.std.proofs.Common.{ap, ◌∙◌}
use Rattle.matching_duals.specs.Joins.{join_cost}
use Rattle.matching_duals.proofs.Distances.{reaches_are_distances}
use Rattle.matching_duals.proofs.Places.{odd_places}
use Rattle.matching_duals.proofs.Costing.{asked}
use Rattle.matching_duals.proofs.Shown.{sets_are, shown}
use Rattle.matching_duals.proofs.bound.join_bound.Goals as goal

pub match_least-requires : goal.match_least-requires
match_least-requires c =
    let p = c.args.inst.now in
    let odd = c.in_ok-ground.ground.odd.items in
    let table = c.in_ok-ground.ground.table.items in
    asked p odd table (reaches_are_distances p table c.validity.ensures c.in_ok-ground.ensures.table)
    (odd_places c.vertices_are_listed.ensures p odd c.validity.ensures c.in_ok-ground.ensures.odd) c.in_ok-costs.costs c.in_ok-costs.ensures

pub lay_sets-requires-clause-sets : goal.lay_sets-requires-clause-sets
lay_sets-requires-clause-sets c =
    sets_are c.vertices_are_listed.ensures c.args.inst.now c.in_ok-ground.ground.odd.items c.in_ok-ground.ground.table.items c.in_ok-costs.costs c.in_ok-matching.matching
    c.validity.ensures c.in_ok-ground.ensures.table c.in_ok-ground.ensures.odd c.in_ok-costs.ensures c.in_ok-matching.ensures

pub returns : goal.returns
returns c =
    let p = c.args.inst.now in
    shown c.vertices_are_listed.ensures p c.in_ok-ground.ground.odd.items c.in_ok-ground.ground.table.items c.in_ok-costs.costs c.in_ok-matching.matching
    c.validity.ensures c.in_ok-ground.ensures.table c.in_ok-ground.ensures.odd c.in_ok-costs.ensures c.in_ok-matching.ensures c.in_ok-deadheads.deadheads.items
    c.in_ok-laying.laying.enclosing.items c.in_ok-laying.laying.shores.items c.in_ok-deadheads.ensures c.in_ok-laying.ensures c.cost_of-value.result
    (c.cost_of-value.ensures ∙ ap (join_cost p) c.deref.ensures.value)
