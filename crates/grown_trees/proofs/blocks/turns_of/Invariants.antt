use Rattle.std.proofs.Common.{◌≡◌, take}
use Rattle.grown_trees.specs.Blocks.{joined}
use Rattle.grown_trees.specs.Growth.{turns_in}
use Rattle.grown_trees.proofs.blocks.turns_of.Given as goal

abbrev pub invariant-loop-i : goal.invariant-loop-i
invariant-loop-i l = (l.blocks.items ≡ l.fn.blocks.items) × (l.turns ≡ turns_in l.fn.cost (joined (take l.i l.fn.blocks.items)))
