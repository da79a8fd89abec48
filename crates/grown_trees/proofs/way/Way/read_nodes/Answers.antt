use Rattle.std.proofs.Common.{ap, arith, drop, map, length-drop}
use Rattle.std.proofs.lemmas.List.{length-map}
use Rattle.grown_trees.specs.Backward.{Found, found_by}
use Rattle.grown_trees.specs.declared.growing.GrowingNode.{GrowingNode}
use Rattle.grown_trees.proofs.Reading.{read_few}
use Rattle.grown_trees.proofs.way.Way.read_nodes.Goals as goal

pub read-requires : goal.read-requires
read-requires c =
    let rest = drop c.loop-i.i c.args.nodes.now in
    omega (
      arith,
      ap (λ (f : Found). f.whole) c.loop-i.invariant,
      read_few (found_by c.args.self.now) (map (λ (entry : GrowingNode). entry.node) rest),
      length-map rest (λ (entry : GrowingNode). entry.node),
      length-drop c.loop-i.i c.args.nodes.now,
      c.loop-i-test.true,
      c.loop-i.auto.i,
      c.requires,
    )
