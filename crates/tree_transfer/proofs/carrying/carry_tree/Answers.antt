use Rattle.std.proofs.Common.{ap, arith, ◌∙◌, []}
use Rattle.tree_transfer.proofs.Moving.{all_carried, all_inside, carries_none}
use Rattle.tree_transfer.proofs.carrying.carry_tree.Goals as goal

pub loop-place-init : goal.loop-place-init
loop-place-init c = carries_none c.args.inst.now c.args.pool.now c.args.tree.now.nodes c.new-path.result c.in_ok-carried.carried c.requires c.new-path.ensures.path (c.new-path.ensures.inside _)
    c.new-path.ensures.waits (c.in_ok-carried.ensures ∙ ap (λ n. record { nodes = []; room = n }) c.len.ensures)

pub returns-clause-carried : goal.returns-clause-carried
returns-clause-carried c = all_carried c.args.inst.now c.args.pool.now c.args.tree.now.nodes c.loop-place.place c.loop-place.path c.loop-place.carried c.loop-place.invariant
    (omega (arith, c.loop-place-test.false, c.len-in-loop-place.ensures))

pub returns-clause-inside : goal.returns-clause-inside
returns-clause-inside c = all_inside c.args.inst.now c.args.pool.now c.args.tree.now.nodes c.loop-place.place c.loop-place.path c.loop-place.carried c.loop-place.invariant
    (omega (arith, c.loop-place-test.false, c.len-in-loop-place.ensures))
