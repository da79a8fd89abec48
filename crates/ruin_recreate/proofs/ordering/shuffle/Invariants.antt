use Rattle.std.specs.List.Sorted.{IsPermutation}
use Rattle.ruin_recreate.proofs.ordering.shuffle.Given as goal

abbrev pub invariant-loop-i : goal.invariant-loop-i
invariant-loop-i l = IsPermutation l.fn.removed l.removed
