use Rattle.std.proofs.Common.{ℕ, ◌+◌, List, get_or, min, take, arith, subst, sym}
use Rattle.grown_trees.specs.Blocks.{IsLeast, joined}
use Rattle.grown_trees.specs.declared.growing.GrowingNode.{GrowingNode}
use Rattle.grown_trees.proofs.Joining.{joined_more}
use Rattle.grown_trees.proofs.Leasts.{least_joined}
use Rattle.grown_trees.proofs.blocks.least_of.Goals as goal

pub loop-block-preserved : goal.loop-block-preserved
loop-block-preserved c =
    let blocks = c.args.blocks.now in
    let i = c.loop-block.block-index in
    let x = c.block-item.result in
    let here : IsLeast 18446744073709551615 (get_or blocks i x) c.least.result = subst (λ (es : List GrowingNode). IsLeast 18446744073709551615 es c.least.result) c.block-item.is c.least.ensures in
    subst (λ (n : ℕ). IsLeast c.args.cost (joined (take (i + 1) blocks)) n) (sym c.min-least.ensures)
    (subst (λ (es : List GrowingNode). IsLeast c.args.cost es (min c.loop-block.least c.least.result)) (sym (joined_more blocks i x c.loop-block-test.true))
    (least_joined c.args.cost 18446744073709551615 c.loop-block.least c.least.result (joined (take i blocks)) (get_or blocks i x) (omega (arith, c.ranges.cost.fits)) c.loop-block.invariant here))
