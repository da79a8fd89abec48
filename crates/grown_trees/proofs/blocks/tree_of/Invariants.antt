use Rattle.std.proofs.Common.{◌≡◌, map, take}
use Rattle.grown_trees.specs.Blocks.{joined}
use Rattle.grown_trees.proofs.blocks.tree_of.Given as goal

abbrev pub invariant-loop-block : goal.invariant-loop-block
invariant-loop-block l = l.tree ≡ record { nodes = map (λ entry. entry.node) (joined (take l.block-index l.blocks)); room = l.fn.len }
