-- Weights of which one is greater.
use Rattle.std.proofs.Common.{◌≡◌, ◌≢◌, ℕ, zero, suc, ◌+◌, ◌-◌, ◌*◌, ◌<◌, ◌≤◌, Bool, true, false, List, [], ◌∷◌, ◌++◌, length, map, take, drop, get_or, refl, sym, ap, ◌∙◌, subst, arith, inl, inr, ◌⊎◌, ℤ, pos, negsuc, ◌+ℤ◌, ◌≤ℤ◌, ◌<ℤ◌, Option}
use Rattle.std.specs.Prelude.{if◌then◌else◌, IsSome, unwrap_or, slice_index}
use Rattle.std.specs.List.{All, AllByRecursion}
use Rattle.std.specs.List.Sorted.{IsStrictlyIncreasing}
use Rattle.std.proofs.lemmas.Int.{ints}
use Rattle.std.proofs.lemmas.Bool.{cases_eq, cases_lt, cases_order, eq-eqb, ne_eqb, lt-ltb, le-ltb}
use Rattle.std.proofs.lemmas.List.Elements.{All-nil, All-cons, All-head, All-tail}
use Rattle.carp_base.specs.declared.edge.Edge.{Edge}
use Rattle.branch_rules.specs.declared.weight.Weight.{Weight}
use Rattle.branch_rules.specs.Limits.{IsFineWeight, IsPriceNumber}
use Rattle.branch_rules.specs.Prices.{Rules, crosses_shore, crossing_weight, no_weight, signed_sum, weigh, weight_value}
use Rattle.tight_prices.specs.Places.{IsPlaceOf, IsRestOf}
use Rattle.tight_prices.specs.Tight.{add_weight, put_weight, weight_on}

-- Three ways in which a weight is added to a list that begins with one.

before_is : (s d : ℕ) (w : Weight) (ws : List Weight) → s < w.shore → add_weight s d (w ∷ ws) ≡ put_weight s (pos d) (w ∷ ws)
before_is s d w ws less = rw (lt-ltb s w.shore less) refl

here_is : (s d : ℕ) (w : Weight) (ws : List Weight) → w.shore ≡ s → add_weight s d (w ∷ ws) ≡ put_weight s (w.weight +ℤ pos d) ws
here_is s d w ws same = rw (le-ltb s w.shore (omega (arith, same)), eq-eqb w.shore s same) refl

after_is : (s d : ℕ) (w : Weight) (ws : List Weight) → w.shore < s → add_weight s d (w ∷ ws) ≡ w ∷ add_weight s d ws
after_is s d w ws less = rw (le-ltb s w.shore (omega (arith, less)), ne_eqb w.shore s (λ same. omega (arith, less, same))) refl

-- A weight by its parts, and what is kept when one is added, for any property of a list's head and rest.

with_shore : (w : Weight) (s : ℕ) → w.shore ≡ s → w ≡ record { shore = s; weight = w.weight }
with_shore w s same = ap (λ i. record { shore = i; weight = w.weight }) same

-- A property of each weight.

put_all : (P : Weight → Type 0) (s : ℕ) (z : ℤ) (ws : List Weight) → ((z ≢ pos 0) → P (record { shore = s; weight = z })) → All P ws → All P (put_weight s z ws)
put_all P s (pos zero) ws one all = all
put_all P s (pos (suc n)) ws one all = All-cons P (record { shore = s; weight = pos (suc n) }) ws (one (λ none. omega (arith, ints, none))) all
put_all P s (negsuc n) ws one all = All-cons P (record { shore = s; weight = negsuc n }) ws (one (λ none. omega (arith, ints, none))) all

-- the new weight has it where it is not 0
pub add_all : (P : Weight → Type 0) (s d : ℕ) (ws : List Weight) → ((pos d ≢ pos 0) → P (record { shore = s; weight = pos d })) →
    ((w : Weight) → P w → w.shore ≡ s → (w.weight +ℤ pos d) ≢ pos 0 → P (record { shore = s; weight = w.weight +ℤ pos d })) → All P ws → All P (add_weight s d ws)
add_all P s d [] new more all = put_all P s (pos d) [] new (All-nil P)
add_all P s d (w ∷ ws) new more all = elim (cases_order s w.shore) [
  | inl same ↦
      rw (here_is s d w ws (sym same)) (put_all P s (w.weight +ℤ pos d) ws (more w (All-head P w ws all) (sym same)) (All-tail P w ws all))
  | inr (inl less) ↦ rw (before_is s d w ws less) (put_all P s (pos d) (w ∷ ws) new all)
  | inr (inr over) ↦ rw (after_is s d w ws over) (All-cons P w (add_weight s d ws) (All-head P w ws all) (add_all P s d ws new more (All-tail P w ws all)))
]

-- Sums over weights, where a weight of 0 counts nothing.

put_sum : (f : ℕ → ℤ → ℤ) (s : ℕ) (z : ℤ) (ws : List Weight) → f s (pos 0) ≡ pos 0 →
    signed_sum (λ w. f w.shore w.weight) (put_weight s z ws) ≡ f s z +ℤ signed_sum (λ w. f w.shore w.weight) ws
put_sum f s (pos zero) ws none = omega (arith, ints, none)
put_sum f s (pos (suc n)) ws none = refl
put_sum f s (negsuc n) ws none = refl

from_none : (f : ℕ → ℤ → ℤ) (s d : ℕ) (g : ℤ) → f s (pos 0) ≡ pos 0 → ((z : ℤ) → (f s z +ℤ g) ≤ℤ f s (z +ℤ pos d)) → g ≤ℤ f s (pos d)
from_none f s d g none grows =
    let zero_plus : pos 0 +ℤ pos d ≡ pos d = omega (arith, ints) in
    let up : (f s (pos 0) +ℤ g) ≤ℤ f s (pos d) = subst (λ z. (f s (pos 0) +ℤ g) ≤ℤ f s z) zero_plus (grows (pos 0)) in
    omega (arith, ints, up, none)

from_none_most : (f : ℕ → ℤ → ℤ) (s d : ℕ) (g : ℤ) → f s (pos 0) ≡ pos 0 → ((z : ℤ) → f s (z +ℤ pos d) ≤ℤ (f s z +ℤ g)) → f s (pos d) ≤ℤ g
from_none_most f s d g none grows =
    let zero_plus : pos 0 +ℤ pos d ≡ pos d = omega (arith, ints) in
    let up : f s (pos d) ≤ℤ (f s (pos 0) +ℤ g) = subst (λ z. f s z ≤ℤ (f s (pos 0) +ℤ g)) zero_plus (grows (pos 0)) in
    omega (arith, ints, up, none)

-- where each rise of a weight adds at least so much, so does that of the sum
pub add_sum : (f : ℕ → ℤ → ℤ) (s d : ℕ) (g : ℤ) (ws : List Weight) → f s (pos 0) ≡ pos 0 → ((z : ℤ) → (f s z +ℤ g) ≤ℤ f s (z +ℤ pos d)) →
    (signed_sum (λ w. f w.shore w.weight) ws +ℤ g) ≤ℤ signed_sum (λ w. f w.shore w.weight) (add_weight s d ws)
add_sum f s d g [] none grows = omega (arith, ints, put_sum f s (pos d) [] none, from_none f s d g none grows)
add_sum f s d g (w ∷ ws) none grows = elim (cases_order s w.shore) [
  | inl same ↦
      rw (here_is s d w ws (sym same)) (
      omega (
        arith,
        ints,
        put_sum f s (w.weight +ℤ pos d) ws none,
        grows w.weight,
        ap (λ i. f i w.weight) same,
      )
      )
  | inr (inl less) ↦ rw (before_is s d w ws less) (omega (arith, ints, put_sum f s (pos d) (w ∷ ws) none, from_none f s d g none grows))
  | inr (inr over) ↦ rw (after_is s d w ws over) (omega (arith, ints, add_sum f s d g ws none grows))
]

-- where each rise adds at most so much, so does that of the sum
pub add_sum_most : (f : ℕ → ℤ → ℤ) (s d : ℕ) (g : ℤ) (ws : List Weight) → f s (pos 0) ≡ pos 0 → ((z : ℤ) → f s (z +ℤ pos d) ≤ℤ (f s z +ℤ g)) →
    signed_sum (λ w. f w.shore w.weight) (add_weight s d ws) ≤ℤ (signed_sum (λ w. f w.shore w.weight) ws +ℤ g)
add_sum_most f s d g [] none grows = omega (arith, ints, put_sum f s (pos d) [] none, from_none_most f s d g none grows)
add_sum_most f s d g (w ∷ ws) none grows = elim (cases_order s w.shore) [
  | inl same ↦
      rw (here_is s d w ws (sym same)) (
      omega (
        arith,
        ints,
        put_sum f s (w.weight +ℤ pos d) ws none,
        grows w.weight,
        ap (λ i. f i w.weight) same,
      )
      )
  | inr (inl less) ↦ rw (before_is s d w ws less) (omega (arith, ints, put_sum f s (pos d) (w ∷ ws) none, from_none_most f s d g none grows))
  | inr (inr over) ↦ rw (after_is s d w ws over) (omega (arith, ints, add_sum_most f s d g ws none grows))
]

-- what crosses an edge
abbrev pub added : List (List ℕ) → Edge → ℕ → ℕ → ℤ
added pool x s d = if crosses_shore pool s x then pos d else pos 0

crossing : (b : Bool) (z : ℤ) (d : ℕ) → (if b then z +ℤ pos d else pos 0) ≡ (if b then z else pos 0) +ℤ (if b then pos d else pos 0)
crossing true z d = refl
crossing false z d = omega (arith, ints)

no_crossing : (b : Bool) → (if b then pos 0 else pos 0) ≡ pos 0
no_crossing true = refl
no_crossing false = refl

pub crossing_added : (pool : List (List ℕ)) (x : Edge) (s d : ℕ) (ws : List Weight) →
    signed_sum (crossing_weight pool x) (add_weight s d ws) ≡ signed_sum (crossing_weight pool x) ws +ℤ added pool x s d
crossing_added pool x s d ws =
    let f : ℕ → ℤ → ℤ = λ i z. if crosses_shore pool i x then z else pos 0 in
    let none = no_crossing (crosses_shore pool s x) in
    let least = add_sum f s d (added pool x s d) ws none (λ z. omega (arith, ints, crossing (crosses_shore pool s x) z d)) in
    let most = add_sum_most f s d (added pool x s d) ws none (λ z. omega (arith, ints, crossing (crosses_shore pool s x) z d)) in
    omega (arith, ints, least, most)

-- the value does not become less
more_each : (low high : ℕ) (z : ℤ) (d : ℕ) → weigh z low high ≤ℤ weigh (z +ℤ pos d) low high
more_each low high (pos n) d = omega (arith, ints)
more_each low high (negsuc n) d = up_from n d (cases_lt n d)
  where
    up_from : (n d : ℕ) → (n < d) ⊎ (d ≤ n) → weigh (negsuc n) low high ≤ℤ weigh (negsuc n +ℤ pos d) low high
    up_from n d (inl less) =
        let is : negsuc n +ℤ pos d ≡ pos (d - suc n) = omega (arith, ints, less) in
        rw is (omega (arith, ints))
    up_from n d (inr more) =
        let is : negsuc n +ℤ pos d ≡ negsuc (n - d) = omega (arith, ints, more) in
        let split : n ≡ (n - d) + d = omega (arith, more) in
        rw is (omega (arith, ints, ap (λ k. k * high) split))

pub value_grows : (rules : Rules) (s d : ℕ) (ws : List Weight) → signed_sum (weight_value rules) ws ≤ℤ signed_sum (weight_value rules) (add_weight s d ws)
value_grows rules s d ws =
    let f : ℕ → ℤ → ℤ = λ i z. weigh z (rules.lower i) (unwrap_or (rules.upper i) 0) in
    let least = add_sum f s d (pos 0) ws (omega (arith, ints)) (λ z. omega (arith, ints, more_each (rules.lower s) (unwrap_or (rules.upper s) 0) z d)) in
    omega (arith, ints, least)

-- Upper numbers.

abbrev HasOne : (ℕ → Option ℕ) → Weight → Type 0
HasOne upper w = w.weight <ℤ pos 0 → IsSome (upper w.shore)

put_upper : (upper : ℕ → Option ℕ) (s : ℕ) (z : ℤ) (ws : List Weight) → (z <ℤ pos 0 → IsSome (upper s)) → AllByRecursion (HasOne upper) ws → AllByRecursion (HasOne upper) (put_weight s z ws)
put_upper upper s (pos zero) ws one all = all
put_upper upper s (pos (suc n)) ws one all = (one, all)
put_upper upper s (negsuc n) ws one all = (one, all)

pub add_upper : (upper : ℕ → Option ℕ) (s d : ℕ) (ws : List Weight) → AllByRecursion (λ w. w.weight <ℤ pos 0 → IsSome (upper w.shore)) ws →
    AllByRecursion (λ w. w.weight <ℤ pos 0 → IsSome (upper w.shore)) (add_weight s d ws)
add_upper upper s d [] all = put_upper upper s (pos d) [] (λ less. absurd (omega (arith, ints, less))) tt
add_upper upper s d (w ∷ ws) all = elim (cases_order s w.shore) [
  | inl same ↦
      rw (here_is s d w ws (sym same))
      (put_upper upper s (w.weight +ℤ pos d) ws (λ less. subst (λ i. IsSome (upper i)) (sym same) (all.0 (omega (arith, ints, less)))) all.1)
  | inr (inl less) ↦ rw (before_is s d w ws less) (put_upper upper s (pos d) (w ∷ ws) (λ negative. absurd (omega (arith, ints, negative))) all)
  | inr (inr over) ↦ rw (after_is s d w ws over) ((all.0, add_upper upper s d ws all.1))
]

-- Rising shores.

-- the shores rise, and all are above a number
abbrev pub AreAbove : ℕ → List Weight → Type 0
AreAbove b [] = Unit {0}
AreAbove b (w ∷ ws) = (b < w.shore) × AreAbove w.shore ws

later : (w : Weight) (ws : List Weight) → IsStrictlyIncreasing (map (λ v. v.shore) (w ∷ ws)) → IsStrictlyIncreasing (map (λ v. v.shore) ws)
later w ws rising k less =
    let next : suc k + 1 ≡ suc (k + 1) = omega arith in
    subst (λ i. slice_index (map (λ (v : Weight). v.shore) (w ∷ ws)) (suc k) < slice_index (map (λ (v : Weight). v.shore) (w ∷ ws)) i) next (rising (suc k) (omega (arith, less)))

pub above_from : (b : ℕ) (ws : List Weight) → (0 < length ws → b < (get_or ws 0 no_weight).shore) → IsStrictlyIncreasing (map (λ w. w.shore) ws) → AreAbove b ws
above_from b [] first rising = tt
above_from b (w ∷ []) first rising = (first (omega arith), tt)
above_from b (w ∷ (v ∷ ws)) first rising = (first (omega arith), above_from w.shore (v ∷ ws) (λ some. rising 0 (omega arith)) (later w (v ∷ ws) rising))

pub rising_from : (b : ℕ) (ws : List Weight) → AreAbove b ws → IsStrictlyIncreasing (map (λ w. w.shore) ws)
rising_from b [] above k less = absurd (omega (arith, less))
rising_from b (w ∷ []) above k less = absurd (omega (arith, less))
rising_from b (w ∷ (v ∷ ws)) above zero less = above.1.0
rising_from b (w ∷ (v ∷ ws)) above (suc k) less =
    let next : suc k + 1 ≡ suc (k + 1) = omega arith in
    subst (λ i. slice_index (map (λ (u : Weight). u.shore) (w ∷ (v ∷ ws))) (suc k) < slice_index (map (λ (u : Weight). u.shore) (w ∷ (v ∷ ws))) i) (sym next)
    (rising_from w.shore (v ∷ ws) above.1 k (omega (arith, less)))

put_above : (b s : ℕ) (z : ℤ) (ws : List Weight) → b < s → AreAbove s ws → AreAbove b (put_weight s z ws)
put_above b s (pos zero) [] less above = tt
put_above b s (pos zero) (w ∷ ws) less above = (omega (arith, less, above.0), above.1)
put_above b s (pos (suc n)) ws less above = (less, above)
put_above b s (negsuc n) ws less above = (less, above)

pub add_above : (b s d : ℕ) (ws : List Weight) → b < s → AreAbove b ws → AreAbove b (add_weight s d ws)
add_above b s d [] less above = put_above b s (pos d) [] less tt
add_above b s d (w ∷ ws) less above = elim (cases_order s w.shore) [
  | inl same ↦ rw (here_is s d w ws (sym same)) (put_above b s (w.weight +ℤ pos d) ws less (subst (λ i. AreAbove i ws) (sym same) above.1))
  | inr (inl under) ↦ rw (before_is s d w ws under) (put_above b s (pos d) (w ∷ ws) less (under, above.1))
  | inr (inr over) ↦ rw (after_is s d w ws over) ((above.0, add_above w.shore s d ws over above.1))
]

-- as many as there are numbers, at most
pub few_above : (b n : ℕ) (ws : List Weight) → b ≤ n → AreAbove b ws → All (λ w. w.shore ≤ n) ws → b + length ws ≤ n
few_above b n [] less above all = omega (arith, less)
few_above b n (w ∷ ws) less above all =
    omega (arith, above.0, few_above w.shore n ws (All-head (λ (v : Weight). v.shore ≤ n) w ws all) above.1 (All-tail (λ (v : Weight). v.shore ≤ n) w ws all))

-- The weight on a shore.

first_on : (w : Weight) (ws : List Weight) (s : ℕ) → w.shore ≡ s → weight_on (w ∷ ws) s ≡ w.weight
first_on w ws s same = rw (eq-eqb w.shore s same) refl

later_on : (w : Weight) (ws : List Weight) (s : ℕ) → w.shore ≢ s → weight_on (w ∷ ws) s ≡ weight_on ws s
later_on w ws s apart = rw (ne_eqb w.shore s apart) refl

pub none_on : (b s : ℕ) (ws : List Weight) → AreAbove b ws → s ≤ b → weight_on ws s ≡ pos 0
none_on b s [] above less = refl
none_on b s (w ∷ ws) above less = later_on w ws s (λ same. omega (arith, same, above.0, less)) ∙ none_on w.shore s ws above.1 (omega (arith, less, above.0))

put_on : (s : ℕ) (z : ℤ) (ws : List Weight) → weight_on ws s ≡ pos 0 → weight_on (put_weight s z ws) s ≡ z
put_on s (pos zero) ws none = none
put_on s (pos (suc n)) ws none = first_on (record { shore = s; weight = pos (suc n) }) ws s refl
put_on s (negsuc n) ws none = first_on (record { shore = s; weight = negsuc n }) ws s refl

put_else : (s t : ℕ) (z : ℤ) (ws : List Weight) → s ≢ t → weight_on (put_weight s z ws) t ≡ weight_on ws t
put_else s t (pos zero) ws apart = refl
put_else s t (pos (suc n)) ws apart = later_on (record { shore = s; weight = pos (suc n) }) ws t apart
put_else s t (negsuc n) ws apart = later_on (record { shore = s; weight = negsuc n }) ws t apart

pub weight_there : (b s d : ℕ) (ws : List Weight) → AreAbove b ws → weight_on (add_weight s d ws) s ≡ weight_on ws s +ℤ pos d
weight_there b s d [] above = put_on s (pos d) [] refl ∙ omega (arith, ints)
weight_there b s d (w ∷ ws) above = elim (cases_order s w.shore) [
  | inl same ↦
      rw (here_is s d w ws (sym same), first_on w ws s (sym same)) (put_on s (w.weight +ℤ pos d) ws (none_on w.shore s ws above.1 (omega (arith, same))))
  | inr (inl less) ↦
      let none : weight_on (w ∷ ws) s ≡ pos 0 = later_on w ws s (λ same. omega (arith, same, less)) ∙ none_on w.shore s ws above.1 (omega (arith, less)) in
      rw (before_is s d w ws less) (omega (arith, ints, put_on s (pos d) (w ∷ ws) none, none))
  | inr (inr over) ↦
      let apart : w.shore ≢ s = λ same. omega (arith, same, over) in
      rw (after_is s d w ws over, later_on w ws s apart, later_on w (add_weight s d ws) s apart) (weight_there w.shore s d ws above.1)
]

kept_on : (w : Weight) (ws vs : List Weight) (t : ℕ) → weight_on ws t ≡ weight_on vs t → weight_on (w ∷ ws) t ≡ weight_on (w ∷ vs) t
kept_on w ws vs t same = elim (cases_eq w.shore t) [
  | inl here ↦ first_on w ws t here ∙ sym (first_on w vs t here)
  | inr apart ↦ later_on w ws t apart ∙ same ∙ sym (later_on w vs t apart)
]

pub weight_else : (s t d : ℕ) (ws : List Weight) → s ≢ t → weight_on (add_weight s d ws) t ≡ weight_on ws t
weight_else s t d [] apart = put_else s t (pos d) [] apart
weight_else s t d (w ∷ ws) apart = elim (cases_order s w.shore) [
  | inl same ↦
      rw (here_is s d w ws (sym same)) (put_else s t (w.weight +ℤ pos d) ws apart ∙ sym (later_on w ws t (λ is. apart (same ∙ is))))
  | inr (inl less) ↦ rw (before_is s d w ws less) (put_else s t (pos d) (w ∷ ws) apart)
  | inr (inr over) ↦ rw (after_is s d w ws over) (kept_on w (add_weight s d ws) ws t (weight_else s t d ws apart))
]

pub weight_grows : (b s t d : ℕ) (ws : List Weight) → AreAbove b ws → weight_on ws t ≤ℤ weight_on (add_weight s d ws) t
weight_grows b s t d ws above = elim (cases_eq s t) [
  | inl same ↦ subst (λ i. weight_on ws i ≤ℤ weight_on (add_weight s d ws) i) same (omega (arith, ints, weight_there b s d ws above))
  | inr apart ↦ omega (arith, ints, weight_else s t d ws apart)
]

pub weight_number : (ws : List Weight) (s : ℕ) → All IsFineWeight ws → IsPriceNumber (weight_on ws s)
weight_number [] s all = record { low = omega (arith, ints); high = omega (arith, ints) }
weight_number (w ∷ ws) s all = elim (cases_eq w.shore s) [
  | inl same ↦ rw (first_on w ws s same) ((All-head IsFineWeight w ws all).within)
  | inr apart ↦ rw (later_on w ws s apart) (weight_number ws s (All-tail IsFineWeight w ws all))
]

-- What is computed place by place.

put_front : (s : ℕ) (z : ℤ) (ws : List Weight) → put_weight s z ws ≡ put_weight s z [] ++ ws
put_front s (pos zero) ws = refl
put_front s (pos (suc n)) ws = refl
put_front s (negsuc n) ws = refl

joined : (s d : ℕ) (b : ℕ) (ws : List Weight) (place rest : ℕ) → AreAbove b ws → IsPlaceOf ws s place → IsRestOf ws s place rest →
    add_weight s d ws ≡ take place ws ++ (put_weight s (weight_on ws s +ℤ pos d) [] ++ drop rest ws)
joined s d b [] place rest above is (inl at) = absurd (omega (arith, at.0))
joined s d b [] place rest above is (inr at) =
    let none : place ≡ 0 = omega (arith, is.within) in
    let none' : rest ≡ 0 = omega (arith, is.within, at.1) in
    let zero_plus : pos 0 +ℤ pos d ≡ pos d = omega (arith, ints) in
    rw (none, none', zero_plus) (put_front s (pos d) [])
joined s d b (w ∷ ws) zero rest above is (inl (inside, same, next)) =
    let one : rest ≡ 1 = omega (arith, next) in
    rw (one, here_is s d w ws same, first_on w ws s same) (put_front s (w.weight +ℤ pos d) ws)
joined s d b (w ∷ ws) zero rest above is (inr (over, next)) =
    let less : s < w.shore = over (omega arith) in
    let none : weight_on (w ∷ ws) s ≡ pos 0 = later_on w ws s (λ same. omega (arith, same, less)) ∙ none_on w.shore s ws above.1 (omega (arith, less)) in
    let zero_plus : pos 0 +ℤ pos d ≡ pos d = omega (arith, ints) in
    rw (next, none, zero_plus, before_is s d w ws less) (put_front s (pos d) (w ∷ ws))
joined s d b (w ∷ ws) (suc place) rest above is at =
    let less : w.shore < s = is.before 0 (omega arith) in
    let apart : w.shore ≢ s = λ same. omega (arith, same, less) in
    let is' : IsPlaceOf ws s place = record {
      within = omega (arith, is.within);
      before = λ k below. is.before (suc k) (omega (arith, below));
      here = λ below. is.here (omega (arith, below));
    } in
    let step = moved at in
    rw (step.0, after_is s d w ws less, later_on w ws s apart) (ap (λ (xs : List Weight). w ∷ xs) (joined s d w.shore ws place (rest - 1) above.1 is' step.1))
  where
    moved : IsRestOf (w ∷ ws) s (suc place) rest → (rest ≡ suc (rest - 1)) × IsRestOf ws s place (rest - 1)
    moved (inl (inside, same, next)) = (omega (arith, next), inl (omega (arith, inside), same, omega (arith, next)))
    moved (inr (over, next)) = (omega (arith, next), inr ((λ below. over (omega (arith, below))), omega (arith, next)))

-- the list that is put together from its parts
pub put_together : (s d : ℕ) (ws : List Weight) (place rest : ℕ) (z : ℤ) → All (λ w. 0 < w.shore) ws → IsStrictlyIncreasing (map (λ w. w.shore) ws) → IsPlaceOf ws s place →
    IsRestOf ws s place rest → z ≡ weight_on ws s +ℤ pos d → add_weight s d ws ≡ take place ws ++ (put_weight s z [] ++ drop rest ws)
put_together s d ws place rest z from_one rising is at sum = rw sum (joined s d 0 ws place rest (above_from 0 ws (λ some. from_one 0 no_weight some) rising) is at)

-- the number that is added, by the weight on its shore
raise_fine : (s : ℕ) (z : ℤ) → 1 ≤ s → IsPriceNumber z → z ≢ pos 0 → IsFineWeight (record { shore = s; weight = z })
raise_fine s z from_one number some = record { from_one = from_one; some = some; within = number }

higher_number : (z : ℤ) (d : ℕ) → IsPriceNumber z → (z +ℤ pos d) ≤ℤ pos 1000000000000000 → IsPriceNumber (z +ℤ pos d)
higher_number z d is within = record { low = omega (arith, ints, is.low); high = within }

pub add_fine : (b s d : ℕ) (ws : List Weight) → 1 ≤ s → AreAbove b ws → All IsFineWeight ws → (weight_on ws s +ℤ pos d) ≤ℤ pos 1000000000000000 → All IsFineWeight (add_weight s d ws)
add_fine b s d [] from_one above all within =
    put_all IsFineWeight s (pos d) [] (raise_fine s (pos d) from_one (record { low = omega (arith, ints); high = omega (arith, ints, within) })) (All-nil IsFineWeight)
add_fine b s d (w ∷ ws) from_one above all within = elim (cases_order s w.shore) [
  | inl same ↦
      let most : (w.weight +ℤ pos d) ≤ℤ pos 1000000000000000 = omega (arith, ints, within, first_on w ws s (sym same)) in
      rw (here_is s d w ws (sym same))
      (put_all IsFineWeight s (w.weight +ℤ pos d) ws (raise_fine s (w.weight +ℤ pos d) from_one (higher_number w.weight d (All-head IsFineWeight w ws all).within most)) (All-tail IsFineWeight w ws all))
  | inr (inl less) ↦
      let none : weight_on (w ∷ ws) s ≡ pos 0 = later_on w ws s (λ same. omega (arith, same, less)) ∙ none_on w.shore s ws above.1 (omega (arith, less)) in
      rw (before_is s d w ws less)
      (put_all IsFineWeight s (pos d) (w ∷ ws) (raise_fine s (pos d) from_one (record { low = omega (arith, ints); high = omega (arith, ints, within, none) })) all)
  | inr (inr over) ↦
      let rest : (weight_on ws s +ℤ pos d) ≤ℤ pos 1000000000000000 = omega (arith, ints, within, later_on w ws s (λ same. omega (arith, same, over))) in
      rw (after_is s d w ws over)
      (All-cons IsFineWeight w (add_weight s d ws) (All-head IsFineWeight w ws all) (add_fine w.shore s d ws from_one above.1 (All-tail IsFineWeight w ws all) rest))
]
