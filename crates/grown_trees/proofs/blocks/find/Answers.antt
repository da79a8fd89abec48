use Rattle.std.proofs.Common.{length, ap, arith}
use Rattle.grown_trees.proofs.Joining.{more_long, spot_here}
use Rattle.grown_trees.proofs.blocks.find.Goals as goal

pub returns-then-inner-len : goal.returns-then-inner-len
returns-then-inner-len c =
    spot_here c.args.blocks.now c.loop-block.block c.index-blocks-block.result c.loop-block-test.true c.args.place c.loop-block.inner
    (omega (arith, c.if-inner-len.true, c.len-len.ensures, ap length c.index-blocks-block.is)) c.loop-block.invariant

pub loop-block-preserved : goal.loop-block-preserved
loop-block-preserved c =
    omega (
      arith,
      c.loop-block.invariant,
      more_long c.args.blocks.now c.loop-block.block c.index-blocks-block.result c.loop-block-test.true,
      ap length c.index-blocks-block.is,
      c.len-len.ensures,
      c.if-inner-len.false,
    )
