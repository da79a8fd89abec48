use Rattle.std.proofs.Common.{◌≡◌, ℕ, ◌*◌, ◌<◌, ◌≤◌, length, slice_index, slice_index_or, pos, ◌+ℤ◌}
use Rattle.route_pricing.specs.Partial.{base}
use Rattle.route_pricing.proofs.charging.raise.Given as goal

abbrev pub invariant-loop-place : goal.invariant-loop-place
invariant-loop-place l = record {
  long : length l.raised ≡ length l.surcharges;
  value : (i : ℕ) → i < l.place → pos (slice_index l.raised i) ≡ slice_index_or l.surcharges i (pos 0) +ℤ pos base;
  small : (i : ℕ) → i < l.place → slice_index l.raised i ≤ 2 * base;
}
