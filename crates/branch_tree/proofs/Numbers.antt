-- Values over denominators, compared by products.
use Rattle.std.proofs.Common.{◌≡◌, ℕ, zero, suc, ◌+◌, ◌*◌, ◌≤◌, sym, ap, ◌∙◌, arith, ℤ, pos, negsuc, neg_ℤ, ◌+ℤ◌, ◌-ℤ◌, ◌*ℤ◌, ◌≤ℤ◌, ◌<ℤ◌, inl, inr}
use Rattle.std.proofs.Math.Nat.{mul-le-mul_left}
use Rattle.std.proofs.lemmas.Bool.{cases_lt}
use Rattle.std.proofs.lemmas.Int.{ints}
use Rattle.grown_trees.specs.Values.{IsShown}
use Rattle.branch_tree.specs.Values.{millionths}

neg_times : (n m : ℕ) → (pos n *ℤ neg_ℤ (pos m)) +ℤ pos (n * m) ≡ pos 0
neg_times n zero = omega (arith, ints)
neg_times n (suc m) = omega (arith, ints)

more_times : (n : ℕ) (v w : ℤ) → v ≤ℤ w → (pos n *ℤ v) ≤ℤ (pos n *ℤ w)
more_times n (pos v) (pos w) less =
    let more : n * v ≤ n * w = mul-le-mul_left n (omega (arith, ints, less)) in
    omega (arith, ints, more)
more_times n (pos v) (negsuc w) less = absurd (omega (arith, ints, less))
more_times n (negsuc v) (pos w) less = omega (arith, ints, neg_times n (suc v))
more_times n (negsuc v) (negsuc w) less =
    let more : n * suc w ≤ n * suc v = mul-le-mul_left n (omega (arith, ints, less)) in
    omega (arith, ints, more, neg_times n (suc v), neg_times n (suc w))

times_neg : (n m : ℕ) → (pos n *ℤ neg_ℤ (pos m)) ≡ neg_ℤ (pos (n * m))
times_neg n m = omega (arith, ints, neg_times n m)

swap : (a b : ℕ) (v : ℤ) → (pos a *ℤ (pos b *ℤ v)) ≡ (pos b *ℤ (pos a *ℤ v))
swap a b (pos n) = omega (arith, ints)
swap a b (negsuc n) =
    let same : a * (b * suc n) ≡ b * (a * suc n) = omega arith in
    ap (λ (z : ℤ). pos a *ℤ z) (times_neg b (suc n)) ∙ times_neg a (b * suc n) ∙ ap (λ (k : ℕ). neg_ℤ (pos k)) same ∙ sym (times_neg b (a * suc n))
    ∙ sym (ap (λ (z : ℤ). pos b *ℤ z) (times_neg a (suc n)))

pub cancel : (b m n : ℕ) → 1 ≤ b → b * m ≤ b * n → m ≤ n
cancel b m n some most = elim (cases_lt n m) [
  | inl less ↦
      let more : b * suc n ≤ b * m = mul-le-mul_left b (omega (arith, less)) in
      absurd (omega (arith, more, most, some))
  | inr within ↦ within
]

cancel_times : (u : ℕ) (v w : ℤ) → 1 ≤ u → (pos u *ℤ v) ≤ℤ (pos u *ℤ w) → v ≤ℤ w
cancel_times u (pos v) (pos w) some less = let most = cancel u v w some (omega (arith, ints, less)) in omega (arith, ints, most)
cancel_times u (pos v) (negsuc w) some less =
    let low : u * 1 ≤ u * suc w = mul-le-mul_left u (omega arith) in
    absurd (omega (arith, ints, less, neg_times u (suc w), low, some))
cancel_times u (negsuc v) (pos w) some less = omega (arith, ints)
cancel_times u (negsuc v) (negsuc w) some less =
    let most = cancel u (suc w) (suc v) some (omega (arith, ints, less, neg_times u (suc v), neg_times u (suc w))) in omega (arith, ints, most)

at_most_through : (u v w : ℤ) → u ≤ℤ v → v ≤ℤ w → u ≤ℤ w
at_most_through u v w one other = omega (arith, ints, one, other)

pub times_turned : (n : ℕ) (v : ℤ) → (v *ℤ pos n) ≡ (pos n *ℤ v)
times_turned n (pos v) = omega (arith, ints)
times_turned zero (negsuc v) = omega (arith, ints)
times_turned (suc n) (negsuc v) = omega (arith, ints)

-- a value that is no less than one that reaches a base reaches it
pub reaches_through : (unit from to : ℕ) (base v w : ℤ) → 1 ≤ from → (pos from *ℤ base) ≤ℤ (pos unit *ℤ v) → (pos to *ℤ v) ≤ℤ (pos from *ℤ w) →
    (pos to *ℤ base) ≤ℤ (pos unit *ℤ w)
reaches_through unit from to base v w some reaches no_lower =
    let first : (pos to *ℤ (pos from *ℤ base)) ≤ℤ (pos to *ℤ (pos unit *ℤ v)) = more_times to (pos from *ℤ base) (pos unit *ℤ v) reaches in
    let second : (pos unit *ℤ (pos to *ℤ v)) ≤ℤ (pos unit *ℤ (pos from *ℤ w)) = more_times unit (pos to *ℤ v) (pos from *ℤ w) no_lower in
    let left = swap to from base in
    let middle' = swap to unit v in
    let right = swap unit from w in
    cancel_times from (pos to *ℤ base) (pos unit *ℤ w) some (omega (arith, ints, first, second, left, middle', right))

-- so does a greater value
pub reaches_more : (unit to : ℕ) (base v w : ℤ) → (pos to *ℤ base) ≤ℤ (pos unit *ℤ v) → v ≤ℤ w → (pos to *ℤ base) ≤ℤ (pos unit *ℤ w)
reaches_more unit to base v w reaches more = at_most_through _ _ _ reaches (more_times unit v w more)

-- what a bound is in millionths

minus_one : (b : ℕ) → (pos (suc b) -ℤ pos 1) ≡ pos b
minus_one b = omega (arith, ints)

one_less : (unit b : ℕ) → (pos unit *ℤ (pos (suc b) -ℤ pos 1)) ≡ pos (unit * b)
one_less unit b = ap (λ (z : ℤ). pos unit *ℤ z) (minus_one b)

-- a value that is not negative shows the bound 0
pub shown_0 : (unit : ℕ) (v : ℤ) → 1 ≤ unit → pos 0 ≤ℤ v → IsShown unit v 0
shown_0 unit v some from_none = omega (arith, ints, neg_times unit 1, some, from_none)

-- a value that shows a bound shows 0
pub shown_less : (unit least : ℕ) (v : ℤ) → 1 ≤ unit → IsShown unit v least → IsShown unit v 0
shown_less unit zero v some shown = shown
shown_less unit (suc b) v some shown =
    let more : pos 0 ≤ℤ v = omega (arith, ints, one_less unit b, shown) in
    shown_0 unit v some more

-- a bound in millionths shows the bound
pub millionths_show : (least : ℕ) → IsShown 1000000 (millionths least) least
millionths_show zero = omega (arith, ints)
millionths_show (suc b) = omega (arith, ints, one_less 1000000 b)

-- a value that shows a bound reaches it
pub shown_reaches : (to least : ℕ) (v : ℤ) → to ≤ 1000000 → IsShown to v least → (pos to *ℤ millionths least) ≤ℤ (pos 1000000 *ℤ v)
shown_reaches to zero v few shown = omega (arith, ints, neg_times to 1, neg_times to 999999, few, shown)
shown_reaches to (suc b) v few shown =
    let above : pos (to * b) <ℤ v = omega (arith, ints, one_less to b, shown) in
    let same : to * (1000000 * b + 1) ≡ 1000000 * (to * b) + to = omega arith in
    omega (arith, ints, above, same, few)

-- a bound that is shown is no more than what covers the value
pub shown_within : (unit least k : ℕ) (v : ℤ) → IsShown unit v least → v ≤ℤ pos (unit * k) → least ≤ k
shown_within unit zero k v shown covers = omega arith
shown_within unit (suc b) k v shown covers = elim (cases_lt b k) [
  | inl less ↦ omega (arith, less)
  | inr most ↦
      let more : unit * k ≤ unit * b = mul-le-mul_left unit most in
      absurd (omega (arith, ints, more, shown, one_less unit b, covers))
]

-- a bound in millionths is at most as many units
pub bound_covers : (least most : ℕ) → least ≤ most → millionths least ≤ℤ pos (1000000 * most)
bound_covers zero most within = omega (arith, ints)
bound_covers (suc b) most within = omega (arith, ints, within)

-- what covers a value that reaches a base covers the base
pub covers_base : (unit to : ℕ) (base v : ℤ) (most : ℕ) → 1 ≤ to → (pos to *ℤ base) ≤ℤ (pos unit *ℤ v) → v ≤ℤ pos (to * most) → base ≤ℤ pos (unit * most)
covers_base unit to base v most some reaches covers =
    let second : (pos unit *ℤ v) ≤ℤ (pos unit *ℤ pos (to * most)) = more_times unit v (pos (to * most)) covers in
    let same : unit * (to * most) ≡ to * (unit * most) = omega arith in
    cancel_times to base (pos (unit * most)) some (omega (arith, ints, reaches, second, same))

-- what is at most a multiple is at most a greater one
pub at_most_more : (unit : ℕ) (base : ℤ) (less more : ℕ) → less ≤ more → base ≤ℤ pos (unit * less) → base ≤ℤ pos (unit * more)
at_most_more unit base less more within most =
    let product : unit * less ≤ unit * more = mul-le-mul_left unit within in
    omega (arith, ints, most, product)

-- what a value shows, one that is no lower shows too
pub still_shown : (unit : ℕ) (value other : ℤ) → value ≤ℤ other → IsShown unit value 0 → IsShown unit other 0
still_shown unit value other no_lower shown = omega (arith, ints, no_lower, shown)

-- a value that is no less, divided by its denominator, than one that shows the bound 0 shows it
pub shown_through : (from to : ℕ) (v w : ℤ) → 1 ≤ from → 1 ≤ to → IsShown from v 0 → (pos to *ℤ v) ≤ℤ (pos from *ℤ w) → IsShown to w 0
shown_through from to v (pos w) some to_some shown no_lower = shown_0 to (pos w) to_some (omega (arith, ints))
shown_through from to (pos v) (negsuc w) some to_some shown no_lower =
    let low : from * 1 ≤ from * suc w = mul-le-mul_left from (omega arith) in
    absurd (omega (arith, ints, no_lower, neg_times from (suc w), low, some))
shown_through from to (negsuc v) (negsuc w) some to_some shown no_lower = elim (cases_lt (suc w) to) [
  | inl less ↦ omega (arith, ints, neg_times to 1, less)
  | inr within ↦
      let above : suc v + 1 ≤ from = omega (arith, ints, neg_times from 1, shown) in
      let low : from * to ≤ from * suc w = mul-le-mul_left from within in
      let high : to * (suc v + 1) ≤ to * from = mul-le-mul_left to above in
      let one : to * (suc v + 1) ≡ to * suc v + to = omega arith in
      let turned : from * to ≡ to * from = omega arith in
      let most : from * suc w ≤ to * suc v = omega (arith, ints, no_lower, neg_times from (suc w), neg_times to (suc v)) in
      absurd (omega (arith, low, high, one, turned, most, to_some))
]
