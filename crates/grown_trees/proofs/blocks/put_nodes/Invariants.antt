use Rattle.std.proofs.Common.{◌≡◌, ◌++◌, map, take}
use Rattle.grown_trees.proofs.blocks.put_nodes.Given as goal

abbrev pub invariant-loop-entry : goal.invariant-loop-entry
invariant-loop-entry l = l.tree ≡ record { nodes = l.fn.tree.nodes ++ map (λ entry. entry.node) (take l.entry-index l.nodes); room = l.fn.tree.room }
