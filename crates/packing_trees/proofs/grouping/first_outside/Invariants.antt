use Rattle.std.proofs.Common.{ℕ, ◌<◌, slice_index}
use Rattle.carp_base.specs.Packings.{IsGroup}
use Rattle.packing_trees.proofs.grouping.first_outside.Given as goal

abbrev pub invariant-loop-i : goal.invariant-loop-i
invariant-loop-i l = (k : ℕ) → k < l.i → IsGroup l.count (slice_index l.groups k)
