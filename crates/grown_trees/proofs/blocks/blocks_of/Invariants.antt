use Rattle.std.proofs.Common.{◌≡◌, ◌<◌, ◌≤◌, ◌++◌, length, vec_capacity}
use Rattle.grown_trees.specs.Blocks.{joined, lacking}
use Rattle.grown_trees.proofs.blocks.blocks_of.Given as goal

abbrev pub invariant-loop-rest : goal.invariant-loop-rest
invariant-loop-rest l = (joined l.blocks.items ++ l.rest ≡ l.fn.nodes) × ((lacking l.blocks.items ≤ 511) × ((0 < length l.rest → lacking l.blocks.items ≡ 0) × (l.fn.most ≤ vec_capacity l.blocks)))

abbrev pub decreases-loop-rest : goal.decreases-loop-rest
decreases-loop-rest l = length l.rest
