use Rattle.std.proofs.Common.{◌≡◌, ℕ, ◌<◌, length, slice_index_or}
use Rattle.route_pricing.specs.declared.charging.Charge.TheVariants.{Free}
use Rattle.route_pricing.specs.Charging.{HoldsOfRow}
use Rattle.route_pricing.proofs.charging.list_charges.Given as goal

abbrev pub invariant-loop-row : goal.invariant-loop-row
invariant-loop-row l = record {
  long : length l.charges ≡ l.required;
  each : (f : ℕ) → f < l.row → HoldsOfRow l.surcharges l.required f l.required (slice_index_or l.charges f Free);
}
