-- Products of numbers that are bounded.
use Rattle.std.proofs.Common.{ℕ, ◌*◌, ◌≤◌, ℤ, pos, ◌*ℤ◌, ◌≤ℤ◌, arith}
use Rattle.std.specs.Prelude.{negsuc, neg_ℤ}
use Rattle.std.specs.Int.RustNames.{unsigned_abs}
use Rattle.std.proofs.lemmas.Int.{ints, unsigned_abs-mul}
use Rattle.std.proofs.lemmas.Nat.{mul-le}

at_most : (z : ℤ) (n : ℕ) → unsigned_abs z ≤ n → z ≤ℤ pos n
at_most (pos k) n small = omega (arith, ints, small)
at_most (negsuc k) n small = omega (arith, ints, small)

at_least : (z : ℤ) (n : ℕ) → unsigned_abs z ≤ n → neg_ℤ (pos n) ≤ℤ z
at_least (pos k) n small = omega (arith, ints, small)
at_least (negsuc k) n small = omega (arith, ints, small)

product_size : (a b : ℤ) (m n : ℕ) → unsigned_abs a ≤ m → unsigned_abs b ≤ n → unsigned_abs (a *ℤ b) ≤ m * n
product_size a b m n small small' = rw (unsigned_abs-mul a b) (mul-le (unsigned_abs a) (unsigned_abs b) m n small small')

pub product_high : (a b : ℤ) (m n : ℕ) → unsigned_abs a ≤ m → unsigned_abs b ≤ n → (a *ℤ b) ≤ℤ pos (m * n)
product_high a b m n small small' = at_most (a *ℤ b) (m * n) (product_size a b m n small small')

pub product_low : (a b : ℤ) (m n : ℕ) → unsigned_abs a ≤ m → unsigned_abs b ≤ n → neg_ℤ (pos (m * n)) ≤ℤ (a *ℤ b)
product_low a b m n small small' = at_least (a *ℤ b) (m * n) (product_size a b m n small small')
