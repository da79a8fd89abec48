use Rattle.std.proofs.Common.{subst, sym}
use Rattle.std.proofs.Common.{take, ◌+◌}
use Rattle.grown_trees.specs.Blocks.{IsLeast}
use Rattle.grown_trees.proofs.Leasts.{least_more}
use Rattle.grown_trees.proofs.block.least_shown.Goals as goal

pub loop-entry-preserved : goal.loop-entry-preserved
loop-entry-preserved c =
    subst (IsLeast c.args.cost (take (c.loop-entry.entry-index + 1) c.args.nodes.now)) (sym c.min-least.ensures)
    (least_more c.args.cost c.loop-entry.least c.args.nodes.now c.loop-entry.entry-index _ c.loop-entry-test.true c.loop-entry.invariant)
