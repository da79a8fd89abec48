use Rattle.std.proofs.Common.{◌≡◌, drop, map}
use Rattle.grown_trees.specs.Blocks.{skip_of}
use Rattle.grown_trees.proofs.block.skip_of.Given as goal

abbrev pub invariant-loop-i : goal.invariant-loop-i
invariant-loop-i l = l.skip ≡ skip_of (map (λ entry. entry.node) (drop l.i l.nodes))
