-- Sums over numbers from 1.
use Rattle.std.specs.Prelude.{ℕ, zero, suc, ◌+◌}

-- g 1 + .. + g m
abbrev pub sum_to : ℕ → (ℕ → ℕ) → ℕ
sum_to zero g = 0
sum_to (suc m) g = sum_to m g + g (suc m)
