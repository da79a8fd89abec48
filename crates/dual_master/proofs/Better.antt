-- A set that is no worse reaches what another one reaches.
use Rattle.std.proofs.Common.{◌≡◌, ℕ, zero, suc, ◌+◌, ◌*◌, ◌≤◌, arith, ℤ, pos, negsuc, neg_ℤ, ◌+ℤ◌, ◌*ℤ◌, ◌≤ℤ◌}
use Rattle.std.proofs.Math.Nat.{mul-le-mul_left}
use Rattle.std.proofs.lemmas.Int.{ints}
use Rattle.carp_base.specs.Problem.{required_cost, total_demand}
use Rattle.capacity_cuts.specs.Levels.{needs_below}
use Rattle.dual_master.specs.Floors.{plain_value}
use Rattle.dual_master.specs.Laws.{BetterReachesAsMuch}
use Rattle.dual_master.proofs.Ratios.{cancel}

-- v / u is at most w / n, and f is at most v / u
raise : (u n f : ℕ) (v w : ℤ) → 1 ≤ u → (pos n *ℤ v) ≤ℤ (pos u *ℤ w) → pos (u * f) ≤ℤ v → pos (n * f) ≤ℤ w
raise u n f (negsuc v) w some better reached = absurd (omega (arith, ints, reached))
raise u n f (pos v) (negsuc w) some better reached =
    let low : u * 0 ≤ u * w = mul-le-mul_left u (omega arith) in
    absurd (omega (arith, ints, better, some, low))
raise u n f (pos v) (pos w) some better reached =
    let first : n * (u * f) ≤ n * v = mul-le-mul_left n (omega (arith, ints, reached)) in
    let second : n * v ≤ u * w = omega (arith, ints, better) in
    let turned : n * (u * f) ≡ u * (n * f) = omega arith in
    let most : n * f ≤ w = cancel u (n * f) w some (omega (arith, first, second, turned)) in
    omega (arith, ints, most)

neg_times : (n m : ℕ) → (pos n *ℤ neg_ℤ (pos m)) +ℤ pos (n * m) ≡ pos 0
neg_times n zero = omega (arith, ints)
neg_times n (suc m) = omega (arith, ints)

-- the same order after both are taken so many times
times_more : (u n b : ℕ) (v w : ℤ) → 1 ≤ u → (pos n *ℤ v) ≤ℤ (pos u *ℤ w) → (pos n *ℤ (v *ℤ pos b)) ≤ℤ (pos u *ℤ (w *ℤ pos b))
times_more u n b (pos v) (pos w) some better =
    let more : b * (n * v) ≤ b * (u * w) = mul-le-mul_left b (omega (arith, ints, better)) in
    omega (arith, ints, more)
times_more u n b (pos v) (negsuc w) some better =
    let low : u * 0 ≤ u * w = mul-le-mul_left u (omega arith) in
    absurd (omega (arith, ints, better, some, low))
times_more u n b (negsuc v) (pos w) some better = omega (arith, ints, neg_times n (suc v * b))
times_more u n b (negsuc v) (negsuc w) some better =
    let more : b * (u * suc w) ≤ b * (n * suc v) = mul-le-mul_left b (omega (arith, ints, better)) in
    omega (arith, ints, more, neg_times n (suc v * b), neg_times u (suc w * b))

pub better_law : BetterReachesAsMuch
better_law p pool set other_pool other some better = record {
  shell = λ reached level k levels far.
      raise set.unit other.unit (required_cost p + needs_below p level k) (plain_value p pool set) (plain_value p other_pool other) some better (reached level k levels far);
  ratio = λ reached a b ratio.
      raise set.unit other.unit (required_cost p * b + total_demand p * a) (plain_value p pool set *ℤ pos b) (plain_value p other_pool other *ℤ pos b) some
      (times_more set.unit other.unit b (plain_value p pool set) (plain_value p other_pool other) some better) (reached a b ratio);
  join = λ reached value least.
      raise set.unit other.unit (required_cost p + value) (plain_value p pool set) (plain_value p other_pool other) some better (reached value least);
}
