-- The places of bundles among all bundles. No public contract speaks of this.
use Rattle.std.specs.Prelude.{ℕ, ◌==◌, List, if◌then◌else◌, slice_index}
use Rattle.plan_model.specs.Sums.{sum_to}

-- how many bundles have a number from 1 to this one
abbrev pub rank : List ℕ → ℕ → ℕ
rank labels k = sum_to k (λ e. if slice_index labels e == e then 1 else 0)
