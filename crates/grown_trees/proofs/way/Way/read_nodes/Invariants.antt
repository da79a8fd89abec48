use Rattle.std.proofs.Common.{◌≡◌, drop, map}
use Rattle.grown_trees.specs.Backward.{found_by, read_from}
use Rattle.grown_trees.proofs.way.Way.read_nodes.Given as goal

abbrev pub invariant-loop-i : goal.invariant-loop-i
invariant-loop-i l = found_by l.self ≡ read_from (found_by l.fn.self) (map (λ entry. entry.node) (drop l.i l.nodes))
