use Rattle.std.proofs.Common.{◌≡◌, ◌++◌, drop, map, take}
use Rattle.tree_transfer.specs.Named.{renumbered_entry}
use Rattle.tree_transfer.specs.Naming.{number_in}
use Rattle.tree_transfer.proofs.naming.renumber.Given as goal

abbrev pub invariant-loop-entry : goal.invariant-loop-entry
invariant-loop-entry l = l.nodes ≡ map (renumbered_entry (number_in l.numbers)) (take l.entry-index l.fn.nodes) ++ drop l.entry-index l.fn.nodes
