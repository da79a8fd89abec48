use Rattle.std.proofs.Common.{ap, arith, drop, map, length-drop}
use Rattle.std.proofs.lemmas.List.{length-map}
use Rattle.grown_trees.specs.declared.block.Skip.{Skip}
use Rattle.grown_trees.specs.declared.growing.GrowingNode.{GrowingNode}
use Rattle.grown_trees.proofs.Skipping.{skip_long}
use Rattle.grown_trees.proofs.block.skip_of.Goals as goal

pub read-requires : goal.read-requires
read-requires c =
    let rest = drop c.loop-i.i c.args.nodes.now in
    omega (
      arith,
      ap (λ (s : Skip). s.leaves) c.loop-i.invariant,
      ap (λ (s : Skip). s.inner) c.loop-i.invariant,
      skip_long (map (λ (entry : GrowingNode). entry.node) rest),
      length-map rest (λ (entry : GrowingNode). entry.node),
      length-drop c.loop-i.i c.args.nodes.now,
      c.loop-i-test.true,
      c.loop-i.auto.i,
      c.requires,
    )
