use Rattle.std.proofs.Common.{map, arith}
use Rattle.std.proofs.lemmas.List.{length-map}
use Rattle.grown_trees.specs.Backward.{found_by}
use Rattle.grown_trees.proofs.Joining.{node_of}
use Rattle.grown_trees.proofs.Skipping.{skip_few, skip_fits, skipped}
use Rattle.grown_trees.proofs.way.Way.read_block.Goals as goal

pub overflow_add-self : goal.overflow_add-self
overflow_add-self c =
    omega (
      arith,
      skip_few (found_by c.args.self.now) (map node_of c.args.block.now) c.skip-skip.result c.skip-skip.ensures (omega (arith, c.if-self-skip.false)),
      length-map c.args.block.now node_of,
      c.requires,
    )

pub overflow_sub-self : goal.overflow_sub-self
overflow_sub-self c = skip_fits (found_by c.args.self.now) (map node_of c.args.block.now) c.skip-skip.result c.skip-skip.ensures (omega (arith, c.if-self-skip.false))

pub returns : goal.returns
returns c = skipped (found_by c.args.self.now) (map node_of c.args.block.now) c.skip-skip.result c.skip-skip.ensures (omega (arith, c.if-self-skip.false))
