use Rattle.std.proofs.Common.{◌≡◌, ℕ, ◌<◌, get_or}
use Rattle.cut_pool.specs.declared.shore.Weighted.{Weighted}
use Rattle.matching_duals.proofs.merging.find_equal.Given as goal

abbrev pub invariant-loop-i : goal.invariant-loop-i
invariant-loop-i l = (k : ℕ) (d : Weighted) → k < l.i → ¬ ((get_or l.shores k d).shore ≡ l.shore)
