-- Sums of signed numbers.
use Rattle.std.proofs.Common.{◌≡◌, ℕ, zero, suc, ◌+◌, ◌*◌, ◌≤◌, ◌<◌, List, [], ◌∷◌, ◌++◌, refl, ◌∙◌, arith, pos, negsuc, neg_ℤ, ◌+ℤ◌, ◌-ℤ◌, ◌*ℤ◌, ◌≤ℤ◌, ◌<ℤ◌, ℤ, inl, inr}
use Rattle.std.specs.List.{sum_by}
use Rattle.std.proofs.lemmas.List.Sums.{sum_by-cons}
use Rattle.std.proofs.lemmas.Int.{ints}
use Rattle.std.proofs.lemmas.List.{take_more}
use Rattle.std.proofs.Common.{take, length, get_or, ap, sym}
use Rattle.std.proofs.lemmas.Bool.{cases_lt}
use Rattle.std.proofs.Math.Nat.{mul-le-mul_left}
use borrow.Author.Differences.{up, down}
use Rattle.branch_rules.specs.Prices.{signed_sum}

pub signed_sum-append : {X : Type 0} (f : X → ℤ) (xs ys : List X) → signed_sum f (xs ++ ys) ≡ signed_sum f xs +ℤ signed_sum f ys
signed_sum-append f [] ys = omega (arith, ints)
signed_sum-append f (x ∷ xs) ys = omega (arith, ints, signed_sum-append f xs ys)

pub signed_sum-none : {X : Type 0} (f : X → ℤ) (xs : List X) → ((x : X) → f x ≡ pos 0) → signed_sum f xs ≡ pos 0
signed_sum-none f [] none = refl
signed_sum-none f (x ∷ xs) none = omega (arith, ints, none x, signed_sum-none f xs none)

-- a signed sum is the difference of two sums
pub signed_sum-split : {X : Type 0} (f : X → ℤ) (xs : List X) → signed_sum f xs +ℤ pos (sum_by (λ x. down (f x)) xs) ≡ pos (sum_by (λ x. up (f x)) xs)
signed_sum-split f [] = refl
signed_sum-split f (x ∷ xs) = omega (arith, ints, signed_sum-split f xs, sum_by-cons (λ x. down (f x)) x xs, sum_by-cons (λ x. up (f x)) x xs)

-- a weight that is not negative times more is more
pub product_up : (w : ℤ) (m n : ℕ) → pos 0 ≤ℤ w → m ≤ n → (w *ℤ pos m) ≤ℤ (w *ℤ pos n)
product_up (pos x) m n sign more = omega (arith, ints, mul-le-mul_left x more)
product_up (negsuc x) m n sign more = absurd (omega (arith, ints))

-- and a negative one times more is less
pub product_down : (w : ℤ) (m n : ℕ) → w <ℤ pos 0 → m ≤ n → (w *ℤ pos n) ≤ℤ (w *ℤ pos m)
product_down (pos x) m n sign more = absurd (omega (arith, ints))
product_down (negsuc x) m n sign more = omega (arith, ints, mul-le-mul_left (suc x) more)

-- a value above unit * (bound - 1) that is at most unit * cost shows the bound
pub bound_from_value : (unit bound cost : ℕ) (value : ℤ) → value ≤ℤ pos (unit * cost) → (pos unit *ℤ (pos bound -ℤ pos 1)) <ℤ value → bound ≤ cost
bound_from_value unit zero cost value most above = omega arith
bound_from_value unit (suc b) cost value most above = elim (cases_lt cost (suc b)) [
  | inl small ↦
      let less : cost ≤ b = omega arith in
      let back : pos (suc b) -ℤ pos 1 ≡ pos b = omega (arith, ints) in
      let above' = rw back at above in
      absurd (omega (arith, ints, above', mul-le-mul_left unit less))
  | inr large ↦ large
]

pub sum_by-same : {X : Type 0} (f g : X → ℕ) (xs : List X) → ((x : X) → f x ≡ g x) → sum_by f xs ≡ sum_by g xs
sum_by-same f g [] same = refl
sum_by-same f g (x ∷ xs) same = omega (arith, sum_by-cons f x xs, sum_by-cons g x xs, same x, sum_by-same f g xs same)

-- one more term, as at a step of a loop
pub signed_sum_more : {X : Type 0} (f : X → ℤ) (xs : List X) (i : ℕ) (d : X) → i < length xs → signed_sum f (take (i + 1) xs) ≡ signed_sum f (take i xs) +ℤ f (get_or xs i d)
signed_sum_more f xs i d short = rw (take_more xs i d short) (signed_sum-append f (take i xs) (get_or xs i d ∷ []) ∙ omega (arith, ints))

-- the same, for an item that is known to stand there
pub signed_sum_item : {X : Type 0} (f : X → ℤ) (xs : List X) (i : ℕ) (x : X) → i < length xs → x ≡ get_or xs i x →
    signed_sum f (take (i + 1) xs) ≡ signed_sum f (take i xs) +ℤ f x
signed_sum_item f xs i x short is = signed_sum_more f xs i x short ∙ ap (λ y. signed_sum f (take i xs) +ℤ f y) (sym is)

-- the same, for a sum and a term that were computed
pub signed_sum_step : {X : Type 0} (f : X → ℤ) (xs : List X) (i : ℕ) (d : X) (sum term joined : ℤ) → i < length xs →
    sum ≡ signed_sum f (take i xs) → term ≡ f (get_or xs i d) → joined ≡ sum +ℤ term → joined ≡ signed_sum f (take (i + 1) xs)
signed_sum_step f xs i d sum term joined short sum_is term_is joined_is = omega (arith, ints, signed_sum_more f xs i d short, sum_is, term_is, joined_is)

-- a price or a weight times a number of crossings is within 4 * 10^22 either way
pub product_least : (w : ℤ) (n : ℕ) → neg_ℤ (pos 1000000000000000) ≤ℤ w → n ≤ 36000001 → neg_ℤ (pos 40000000000000000000000) ≤ℤ (w *ℤ pos n)
product_least (pos x) n low small = omega (arith, ints)
product_least (negsuc x) n low small = omega (arith, ints, mul-le-mul_left (suc x) small)

pub product_most : (w : ℤ) (n : ℕ) → w ≤ℤ pos 1000000000000000 → n ≤ 36000001 → (w *ℤ pos n) ≤ℤ pos 40000000000000000000000
product_most (pos x) n high small = omega (arith, ints, mul-le-mul_left x small)
product_most (negsuc x) n high small = omega (arith, ints)
