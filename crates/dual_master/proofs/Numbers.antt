-- Weights under the numbers of the shores that are placed one after another.
use Rattle.std.proofs.Common.{◌≡◌, ℕ, zero, suc, ◌+◌, ◌<◌, ◌≤◌, Bool, true, false, List, [], ◌∷◌, ◌++◌, map, length, get_or, refl, sym, ap, ◌∙◌, subst, arith, ℤ, pos, ◌+ℤ◌, nat_abs}
use Rattle.std.specs.Prelude.{if◌then◌else◌}
use Rattle.std.specs.List.{All, sum_by}
use Rattle.std.specs.List.Sorted.{IsStrictlyIncreasing}
use Rattle.std.proofs.lemmas.Int.{ints}
use Rattle.std.proofs.lemmas.List.{append_assoc, get_or_at, length-append, length-map, length_push}
use Rattle.std.proofs.lemmas.List.Elements.{All-nil, All-cons, All-head, All-tail}
use Rattle.std.proofs.lemmas.List.Sums.{sum_by-cons}
use Rattle.cut_pool.specs.Pools.{shore_at, IsShoreNumber}
use Rattle.cut_pool.specs.declared.shore.Weighted.{Weighted}
use Rattle.branch_rules.specs.declared.weight.Weight.{Weight}
use Rattle.branch_rules.specs.Limits.{IsFineWeight}
use Rattle.branch_rules.specs.Prices.{signed_sum}
use Rattle.dual_master.specs.Floors.{shores_of}
use Rattle.dual_master.specs.Pieces.{weights_from, IsPositive}

pub weights_push : (number : ℕ) (shores : List Weighted) (last : Weighted) (n : ℕ) → n ≡ number + length shores →
    weights_from number (shores ++ last ∷ []) ≡ weights_from number shores ++ record { shore = n; weight = last.weight } ∷ []
weights_push number [] last n is =
    let same : number ≡ n = omega (arith, is) in
    ap {B = List Weight} (λ i. record { shore = i; weight = last.weight } ∷ []) same
weights_push number (s ∷ shores) last n is =
    ap {B = List Weight} (λ ws. record { shore = number; weight = s.weight } ∷ ws) (weights_push (suc number) shores last n (omega (arith, is)))

pub weights_long : (number : ℕ) (shores : List Weighted) → length (weights_from number shores) ≡ length shores
weights_long number [] = refl
weights_long number (s ∷ shores) = ap suc (weights_long (suc number) shores)

-- the number at a place
number_at : (number : ℕ) (shores : List Weighted) (k : ℕ) → k < length shores → get_or (map (λ w. w.shore) (weights_from number shores)) k 0 ≡ number + k
number_at number [] k below = absurd (omega (arith, below))
number_at number (s ∷ shores) zero below = omega arith
number_at number (s ∷ shores) (suc k) below = number_at (suc number) shores k (omega (arith, below)) ∙ omega arith

pub numbers_rise : (number : ℕ) (shores : List Weighted) → IsStrictlyIncreasing (map (λ w. w.shore) (weights_from number shores))
numbers_rise number shores k below =
    let long : length (map (λ (w : Weight). w.shore) (weights_from number shores)) ≡ length shores = length-map (weights_from number shores) (λ (w : Weight). w.shore) ∙ weights_long number shores in
    omega (arith, number_at number shores k (omega (arith, below, long)), number_at number shores (k + 1) (omega (arith, below, long)))

fine_weight : (number : ℕ) (z : ℤ) (n : ℕ) → z ≡ pos n → 1 ≤ n → n ≤ 1000000000000000 → 1 ≤ number → IsFineWeight (record { shore = number; weight = z })
fine_weight number z n is some small from_one = record {
  from_one = from_one;
  some = λ none. omega (arith, ints, is, none, some);
  within = record { low = omega (arith, ints, is); high = omega (arith, ints, is, small) };
}

pub weights_fine : (number : ℕ) (shores : List Weighted) → 1 ≤ number → All IsPositive shores → All IsFineWeight (weights_from number shores)
weights_fine number [] from_one positive = All-nil IsFineWeight
weights_fine number (s ∷ shores) from_one positive =
    let first = All-head IsPositive s shores positive in
    All-cons IsFineWeight (record { shore = number; weight = s.weight }) (weights_from (suc number) shores)
    (fine_weight number s.weight (nat_abs s.weight) first.natural first.some first.small from_one)
    (weights_fine (suc number) shores (omega arith) (All-tail IsPositive s shores positive))

-- a shore that stands after others
shore_after : (before : List (List ℕ)) (shore : List ℕ) (after : List (List ℕ)) (number : ℕ) → number ≡ suc (length before) → shore_at (before ++ shore ∷ after) number ≡ shore
shore_after before shore after number is = rw is (get_or_at before shore after [] (length before) refl)

-- a fact of each shore and its weight holds of each number and its weight
pub each_weight : (P : List ℕ → ℤ → Type 0) (pool before : List (List ℕ)) (number : ℕ) (shores : List Weighted) → pool ≡ before ++ shores_of shores → number ≡ suc (length before) →
    All (λ s. P s.shore s.weight) shores → All (λ w. P (shore_at pool w.shore) w.weight) (weights_from number shores)
each_weight P pool before number [] is at all = All-nil (λ (w : Weight). P (shore_at pool w.shore) w.weight)
each_weight P pool before number (s ∷ shores) is at all =
    let here : shore_at pool number ≡ s.shore = ap (λ xs. shore_at xs number) is ∙ shore_after before s.shore (shores_of shores) number at in
    All-cons (λ (w : Weight). P (shore_at pool w.shore) w.weight) (record { shore = number; weight = s.weight }) (weights_from (suc number) shores)
    (subst (λ xs. P xs s.weight) (sym here) (All-head (λ (r : Weighted). P r.shore r.weight) s shores all))
    (each_weight P pool (before ++ s.shore ∷ []) (suc number) shores (is ∙ sym (append_assoc before (s.shore ∷ []) (shores_of shores))) (omega (arith, at, length_push before s.shore))
    (All-tail (λ (r : Weighted). P r.shore r.weight) s shores all))

-- the numbers are those of shores of the pool
pub each_number : (pool before : List (List ℕ)) (number : ℕ) (shores : List Weighted) → pool ≡ before ++ shores_of shores → number ≡ suc (length before) →
    All (λ w. IsShoreNumber pool w.shore) (weights_from number shores)
each_number pool before number [] is at = All-nil (λ (w : Weight). IsShoreNumber pool w.shore)
each_number pool before number (s ∷ shores) is at =
    All-cons (λ (w : Weight). IsShoreNumber pool w.shore) (record { shore = number; weight = s.weight }) (weights_from (suc number) shores)
    (record { from_one = omega (arith, at); in_range = omega (arith, at, ap length is, length-append before (s.shore ∷ shores_of shores)) })
    (each_number pool (before ++ s.shore ∷ []) (suc number) shores (is ∙ sym (append_assoc before (s.shore ∷ []) (shores_of shores))) (omega (arith, at, length_push before s.shore)))

-- a sum over the weights is one over the shores
pub weights_sum : (f : List ℕ → ℤ → ℤ) (pool before : List (List ℕ)) (number : ℕ) (shores : List Weighted) → pool ≡ before ++ shores_of shores → number ≡ suc (length before) →
    signed_sum (λ w. f (shore_at pool w.shore) w.weight) (weights_from number shores) ≡ signed_sum (λ s. f s.shore s.weight) shores
weights_sum f pool before number [] is at = refl
weights_sum f pool before number (s ∷ shores) is at =
    let here : shore_at pool number ≡ s.shore = ap (λ xs. shore_at xs number) is ∙ shore_after before s.shore (shores_of shores) number at in
    let more = weights_sum f pool (before ++ s.shore ∷ []) (suc number) shores (is ∙ sym (append_assoc before (s.shore ∷ []) (shores_of shores))) (omega (arith, at, length_push before s.shore)) in
    ap (λ xs. f xs s.weight +ℤ signed_sum (λ w. f (shore_at pool w.shore) w.weight) (weights_from (suc number) shores)) here
    ∙ ap (λ z. f s.shore s.weight +ℤ z) more

-- sums of weights that are natural numbers
choose : (b : Bool) (z : ℤ) (n : ℕ) → z ≡ pos n → (if b then z else pos 0) ≡ pos (if b then n else 0)
choose true z n is = is
choose false z n is = refl

pub crossing_sum : (test : List ℕ → Bool) (shores : List Weighted) → All IsPositive shores →
    signed_sum (λ s. if test s.shore then s.weight else pos 0) shores ≡ pos (sum_by (λ s. if test s.shore then nat_abs s.weight else 0) shores)
crossing_sum test [] positive = refl
crossing_sum test (s ∷ shores) positive =
    let first = All-head IsPositive s shores positive in
    omega (
      arith,
      ints,
      choose (test s.shore) s.weight (nat_abs s.weight) first.natural,
      crossing_sum test shores (All-tail IsPositive s shores positive),
      sum_by-cons (λ r. if test r.shore then nat_abs r.weight else 0) s shores,
    )
