use Rattle.std.proofs.Common.{◌≡◌, drop, map}
use Rattle.grown_trees.specs.Backward.{found_by, read_from}
use Rattle.grown_trees.specs.Blocks.{joined}
use Rattle.grown_trees.proofs.way.Way.read_blocks.Given as goal

abbrev pub invariant-loop-i : goal.invariant-loop-i
invariant-loop-i l = found_by l.self ≡ read_from (found_by l.fn.self) (map (λ entry. entry.node) (joined (drop l.i l.blocks)))
