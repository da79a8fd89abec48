use Rattle.std.proofs.Common.{◌≡◌, ◌+◌, ◌-◌, subst, arith}
use Rattle.blossom_match.specs.Table.{IsWritten}
use Rattle.matching_duals.proofs.Places.{odd_places}
use Rattle.matching_duals.proofs.Costing.{cells_more, cell_in, cell_is, cell_small}
use Rattle.matching_duals.proofs.pairing.set_row.Goals as goal

pub index-requires-in-loop-b-2 : goal.index-requires-in-loop-b-2
index-requires-in-loop-b-2 c =
    let p = c.args.inst.now in
    let odd = c.args.ground.now.odd.items in
    let places = odd_places c.vertices_are_listed.ensures p odd c.vertices.ensures.valid c.requires.odd in
    let there = cell_in p odd c.args.ground.now.table.items c.requires.reaches places c.args.a c.loop-b.b c.index-in-loop-b.result.now c.index.result.now c.vertices.result
    c.requires.place (omega (arith, c.loop-b-test.true, c.requires.place)) c.index-in-loop-b.ensures c.index.ensures c.vertices.ensures.value in
    omega (arith, there, c.args.ground.now.table.ok.0)

pub set-requires-clause-small : goal.set-requires-clause-small
set-requires-clause-small c =
    let p = c.args.inst.now in
    let odd = c.args.ground.now.odd.items in
    let places = odd_places c.vertices_are_listed.ensures p odd c.vertices.ensures.valid c.requires.odd in
    let small = cell_small p odd c.args.ground.now.table.items c.requires.reaches places c.args.a c.loop-b.b c.index-in-loop-b.result.now c.index.result.now c.vertices.result
    c.requires.place (omega (arith, c.loop-b-test.true, c.requires.place)) c.index-in-loop-b.ensures c.index.ensures c.vertices.ensures.value c.index-in-loop-b-2.result.now
    c.index-in-loop-b-2.ensures in
    omega (arith, small)

pub loop-b-preserved : goal.loop-b-preserved
loop-b-preserved c =
    let p = c.args.inst.now in
    let odd = c.args.ground.now.odd.items in
    let table = c.args.ground.now.table.items in
    let a = c.args.a in
    let b = c.loop-b.b in
    let n = c.index-in-loop-b-2.result.now in
    let places = odd_places c.vertices_are_listed.ensures p odd c.vertices.ensures.valid c.requires.odd in
    let value = cell_is p odd table c.requires.reaches places a b c.index-in-loop-b.result.now c.index.result.now c.vertices.result
    c.requires.place (omega (arith, c.loop-b-test.true, c.requires.place)) c.index-in-loop-b.ensures c.index.ensures c.vertices.ensures.value n c.index-in-loop-b-2.ensures in
    let a_is : a + 1 - 1 ≡ a = omega arith in
    let b_is : b + 1 - 1 ≡ b = omega arith in
    let written = subst (λ k. IsWritten c.loop-b.costs c.set.new.self k b n) a_is (subst (λ k. IsWritten c.loop-b.costs c.set.new.self (a + 1 - 1) k n) b_is c.set.ensures.written) in
    cells_more p odd table a b n c.loop-b.costs c.set.new.self c.loop-b.invariant c.loop-b-test.true c.requires.place c.set.ensures.table written value
