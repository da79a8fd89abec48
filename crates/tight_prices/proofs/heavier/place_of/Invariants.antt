use Rattle.std.proofs.Common.{ℕ, ◌<◌}
use Rattle.std.specs.Prelude.{slice_index_or}
use Rattle.branch_rules.specs.Prices.{no_weight}
use Rattle.tight_prices.proofs.heavier.place_of.Given as goal

abbrev pub invariant-loop-place : goal.invariant-loop-place
invariant-loop-place l = (k : ℕ) → k < l.place → (slice_index_or l.all k no_weight).shore < l.shore
