-- Rows of n cells, one after another.
use Rattle.std.proofs.Common.{◌≡◌, ℕ, ◌+◌, ◌*◌, ◌<◌, arith, inl, inr, ap}
use Rattle.std.proofs.lemmas.Bool.{cases_order}
use Rattle.std.proofs.Math.Nat.{mul-le-mul_left}

pub cell_in : (n m s v : ℕ) → s < m → v < n → s * n + v < m * n
cell_in n m s v here there = omega (arith, mul-le-mul_left n here)

-- a cell belongs to one row
pub row_of_cell : (n s v t w : ℕ) → v < n → w < n → s * n + v ≡ t * n + w → s ≡ t
row_of_cell n s v t w v_in w_in same = elim (cases_order s t) [
  | inl is ↦ is
  | inr (inl less) ↦ absurd (omega (arith, mul-le-mul_left n less))
  | inr (inr more) ↦ absurd (omega (arith, mul-le-mul_left n more))
]

pub column_of_cell : (n s v t w : ℕ) → v < n → w < n → s * n + v ≡ t * n + w → v ≡ w
column_of_cell n s v t w v_in w_in same =
    let row = ap (λ x. x * n) (row_of_cell n s v t w v_in w_in same) in
    omega (arith, row, same)
