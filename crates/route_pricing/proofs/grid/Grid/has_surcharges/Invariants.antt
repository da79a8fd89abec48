use Rattle.std.proofs.Common.{◌≡◌, ℕ, ◌<◌, slice_index_or}
use Rattle.route_pricing.specs.declared.charging.Charge.TheVariants.{Free}
use Rattle.route_pricing.proofs.grid.Grid.has_surcharges.Given as goal

abbrev pub invariant-loop-place : goal.invariant-loop-place
invariant-loop-place l = (i : ℕ) → i < l.place → slice_index_or l.self.charges.items i Free ≡ Free
