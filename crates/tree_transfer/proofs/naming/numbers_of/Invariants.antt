use Rattle.std.proofs.Common.{◌≡◌, ◌+◌, length, slice_index}
use Rattle.std.specs.Prelude.{EachIndex}
use Rattle.tree_transfer.specs.Naming.{marked_to}
use Rattle.tree_transfer.proofs.naming.numbers_of.Given as goal

abbrev pub invariant-loop-is_named : goal.invariant-loop-is_named
invariant-loop-is_named l = record {
  one_each : length l.numbers.items ≡ l.is_named-index;
  number : l.number ≡ marked_to l.marks l.is_named-index;
  counted : EachIndex l.numbers.items (λ place. slice_index l.numbers.items place ≡ marked_to l.marks (place + 1));
}
