-- Numbers that rise along a list.
use Rattle.std.proofs.Common.{◌≡◌, ℕ, zero, suc, ◌<◌, ◌≤◌, ◌⊎◌, inl, inr, ap, arith}
use Rattle.std.proofs.lemmas.Bool.{cases_lt}

pub rises : (f : ℕ → ℕ) (n : ℕ) → ((k : ℕ) → suc k < n → f k ≤ f (suc k)) → (k e : ℕ) → k ≤ e → e < n → f k ≤ f e
rises f n step k zero le below = let same : k ≡ 0 = omega arith in omega (arith, ap f same)
rises f n step k (suc e) le below = one (cases_lt e k) (λ before. rises f n step k e before (omega arith))
  where
    one : (e < k) ⊎ (k ≤ e) → (k ≤ e → f k ≤ f e) → f k ≤ f (suc e)
    one (inl past) onward = let same : k ≡ suc e = omega arith in omega (arith, ap f same)
    one (inr before) onward = omega (arith, onward before, step e below)
