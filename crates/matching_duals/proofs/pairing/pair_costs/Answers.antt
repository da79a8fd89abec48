use Rattle.std.proofs.Common.{◌≡◌, length, subst, arith}
use Rattle.matching_duals.specs.Sets.{HasRows}
use Rattle.matching_duals.proofs.Places.{odd_places}
use Rattle.matching_duals.proofs.Distances.{reaches_are_distances}
use Rattle.matching_duals.proofs.Costing.{are_costs}
use Rattle.matching_duals.proofs.pairing.pair_costs.Goals as goal

pub overflow_cast-len : goal.overflow_cast-len
overflow_cast-len c =
    let places = odd_places c.vertices_are_listed.ensures c.args.inst.now c.args.ground.now.odd.items c.validity.ensures c.requires.odd in
    omega (arith, places.few, c.validity.ensures.few_vertices, c.len.ensures, c.args.ground.now.odd.ok.0)

pub new-requires : goal.new-requires
new-requires c =
    let places = odd_places c.vertices_are_listed.ensures c.args.inst.now c.args.ground.now.odd.items c.validity.ensures c.requires.odd in
    record { few = omega (arith, places.few, c.validity.ensures.few_vertices, c.len.ensures, c.args.ground.now.odd.ok.0) }

pub returns : goal.returns
returns c =
    let p = c.args.inst.now in
    let odd = c.args.ground.now.odd.items in
    let table = c.args.ground.now.table.items in
    let places = odd_places c.vertices_are_listed.ensures p odd c.validity.ensures c.requires.odd in
    let distances = reaches_are_distances p table c.validity.ensures c.requires.reaches in
    let all : c.loop-a.a ≡ length odd = omega (arith, c.loop-a-test.false, c.loop-a.auto.a-end, c.len-a-end.ensures, c.args.ground.now.odd.ok.0) in
    are_costs p odd table distances places c.loop-a.costs (subst (λ k. HasRows p odd table k c.loop-a.costs) all c.loop-a.invariant)
