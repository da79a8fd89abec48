use Rattle.std.proofs.Common.{◌≡◌, ◌<◌, ℕ, length}
use Rattle.augment_merge.specs.Merging.{nth_tour}
use Rattle.augment_merge.specs.Outlines.{IsOutlineOf, nth_outline}
use Rattle.augment_merge.proofs.merging.outlines_of.Given as goal

abbrev pub invariant-loop-tour : goal.invariant-loop-tour
invariant-loop-tour l = record {
  long : length l.outlines.items ≡ l.tour-index;
  each : (k : ℕ) → k < l.tour-index → IsOutlineOf l.inst (nth_tour l.tours k) (nth_outline l.outlines.items k);
}
