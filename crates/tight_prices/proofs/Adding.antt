-- Prices of which one is greater.
use Rattle.std.proofs.Common.{◌≡◌, ◌≢◌, ℕ, zero, suc, ◌-◌, ◌<◌, ◌≤◌, List, [], ◌∷◌, length, get_or, set, refl, ap, ◌∙◌, arith, inl, inr, ℤ, pos, ◌+ℤ◌, ◌≤ℤ◌}
use Rattle.std.specs.List.{All}
use Rattle.std.proofs.lemmas.Int.{ints}
use Rattle.std.proofs.lemmas.Bool.{cases_eq}
use Rattle.std.proofs.lemmas.List.Elements.{All-nil, All-cons, All-head, All-tail}
use Rattle.branch_rules.specs.Limits.{IsPriceNumber}
use Rattle.branch_rules.specs.Prices.{Prices, price_in, signed_sum}
use Rattle.branch_rules.specs.declared.weight.Weight.{Weight}
use Rattle.tight_prices.specs.Tight.{add_at, add_price, with_price}

at_long : (k d : ℕ) (zs : List ℤ) → length (add_at k d zs) ≡ length zs
at_long k d [] = refl
at_long zero d (z ∷ zs) = refl
at_long (suc k) d (z ∷ zs) = ap suc (at_long k d zs)

at_there : (k d : ℕ) (zs : List ℤ) → k < length zs → get_or (add_at k d zs) k (pos 0) ≡ get_or zs k (pos 0) +ℤ pos d
at_there k d [] inside = absurd (omega (arith, inside))
at_there zero d (z ∷ zs) inside = refl
at_there (suc k) d (z ∷ zs) inside = at_there k d zs (omega (arith, inside))

at_else : (k j d : ℕ) (zs : List ℤ) → j ≢ k → get_or (add_at k d zs) j (pos 0) ≡ get_or zs j (pos 0)
at_else k j d [] apart = refl
at_else zero zero d (z ∷ zs) apart = absurd (apart refl)
at_else zero (suc j) d (z ∷ zs) apart = refl
at_else (suc k) zero d (z ∷ zs) apart = refl
at_else (suc k) (suc j) d (z ∷ zs) apart = at_else k j d zs (λ same. apart (ap suc same))

at_sum : (k d : ℕ) (zs : List ℤ) → signed_sum (λ z. z) zs ≤ℤ signed_sum (λ z. z) (add_at k d zs)
at_sum k d [] = omega (arith, ints)
at_sum zero d (z ∷ zs) = omega (arith, ints)
at_sum (suc k) d (z ∷ zs) = omega (arith, ints, at_sum k d zs)

at_fine : (k d : ℕ) (zs : List ℤ) → All IsPriceNumber zs → (get_or zs k (pos 0) +ℤ pos d) ≤ℤ pos 1000000000000000 → All IsPriceNumber (add_at k d zs)
at_fine k d [] all within = All-nil IsPriceNumber
at_fine zero d (z ∷ zs) all within =
    All-cons IsPriceNumber (z +ℤ pos d) zs (record { low = omega (arith, ints, (All-head IsPriceNumber z zs all).low); high = within }) (All-tail IsPriceNumber z zs all)
at_fine (suc k) d (z ∷ zs) all within =
    All-cons IsPriceNumber z (add_at k d zs) (All-head IsPriceNumber z zs all) (at_fine k d zs (All-tail IsPriceNumber z zs all) within)

-- the same as a write at the place
at_set : (k d : ℕ) (zs : List ℤ) → set zs k (get_or zs k (pos 0) +ℤ pos d) ≡ add_at k d zs
at_set k d [] = refl
at_set zero d (z ∷ zs) = refl
at_set (suc k) d (z ∷ zs) = ap (λ (xs : List ℤ). z ∷ xs) (at_set k d zs)

pub add_long : (e d : ℕ) (zs : List ℤ) → length (add_price e d zs) ≡ length zs
add_long zero d zs = refl
add_long (suc k) d zs = at_long k d zs

pub price_there : (set : Prices) (e d : ℕ) → 1 ≤ e → e ≤ length set.services → price_in (with_price set e d) e ≡ price_in set e +ℤ pos d
price_there set zero d from_one in_range = absurd (omega (arith, from_one))
price_there set (suc k) d from_one in_range = at_there k d set.services (omega (arith, in_range))

pub price_else : (set : Prices) (e f d : ℕ) → f ≢ e → price_in (with_price set e d) f ≡ price_in set f
price_else set zero f d apart = refl
price_else set (suc k) zero d apart = refl
price_else set (suc k) (suc j) d apart = at_else k j d set.services (λ same. apart (ap suc same))

-- past the last price there is none
past : (zs : List ℤ) (k : ℕ) → length zs ≤ k → get_or zs k (pos 0) ≡ pos 0
past [] k over = refl
past (z ∷ zs) zero over = absurd (omega (arith, over))
past (z ∷ zs) (suc k) over = past zs k (omega (arith, over))

at_grows : (k d : ℕ) (zs : List ℤ) (j : ℕ) → get_or zs j (pos 0) ≤ℤ get_or (add_at k d zs) j (pos 0)
at_grows k d [] j = omega (arith, ints)
at_grows zero d (z ∷ zs) zero = omega (arith, ints)
at_grows zero d (z ∷ zs) (suc j) = omega (arith, ints)
at_grows (suc k) d (z ∷ zs) zero = omega (arith, ints)
at_grows (suc k) d (z ∷ zs) (suc j) = at_grows k d zs j

pub price_grows : (set : Prices) (e f d : ℕ) → price_in set f ≤ℤ price_in (with_price set e d) f
price_grows set zero f d = omega (arith, ints)
price_grows set (suc k) zero d = omega (arith, ints)
price_grows set (suc k) (suc j) d = at_grows k d set.services j

pub sum_grows : (e d : ℕ) (zs : List ℤ) → signed_sum (λ z. z) zs ≤ℤ signed_sum (λ z. z) (add_price e d zs)
sum_grows zero d zs = omega (arith, ints)
sum_grows (suc k) d zs = at_sum k d zs

pub prices_fine : (set : Prices) (e d : ℕ) → All IsPriceNumber set.services → (price_in set e +ℤ pos d) ≤ℤ pos 1000000000000000 → All IsPriceNumber (add_price e d set.services)
prices_fine set zero d all within = all
prices_fine set (suc k) d all within = at_fine k d set.services all within

pub price_set : (one : Prices) (e d : ℕ) → 1 ≤ e → set one.services (e - 1) (price_in one e +ℤ pos d) ≡ add_price e d one.services
price_set one zero d from_one = absurd (omega (arith, from_one))
price_set one (suc k) d from_one = let same : suc k - 1 ≡ k = omega arith in rw same (at_set k d one.services)

-- no price is above 10^15, or below its negative
at_number : (zs : List ℤ) (k : ℕ) → All IsPriceNumber zs → IsPriceNumber (get_or zs k (pos 0))
at_number [] k all = record { low = omega (arith, ints); high = omega (arith, ints) }
at_number (z ∷ zs) zero all = All-head IsPriceNumber z zs all
at_number (z ∷ zs) (suc k) all = at_number zs k (All-tail IsPriceNumber z zs all)

pub price_number : (set : Prices) (e : ℕ) → All IsPriceNumber set.services → IsPriceNumber (price_in set e)
price_number set zero all = record { low = omega (arith, ints); high = omega (arith, ints) }
price_number set (suc k) all = at_number set.services k all

-- raised at the same edge, a price that was no greater stays so
pub price_keeps : (one other : Prices) (e d : ℕ) → length one.services ≡ length other.services → ((f : ℕ) → price_in one f ≤ℤ price_in other f) →
    1 ≤ e → e ≤ length one.services → (f : ℕ) → price_in (with_price one e d) f ≤ℤ price_in (with_price other e d) f
price_keeps one other e d long less from_one in_range f = elim (cases_eq f e) [
  | inl same ↦
      rw same (omega (arith, ints, price_there one e d from_one in_range, price_there other e d from_one (omega (arith, in_range, long)), less e))
  | inr apart ↦ omega (arith, ints, price_else one e f d apart, price_else other e f d apart, less f)
]

-- a set with other prices and weights
abbrev pub made : Prices → List ℤ → List Weight → Prices
made set services weights = record { unit = set.unit; services = services; weights = weights; groups = set.groups }

pub same_made : (set : Prices) {services prices : List ℤ} {weights others : List Weight} → services ≡ prices → weights ≡ others →
    made set services weights ≡ made set prices others
same_made set {services} {prices} {weights} {others} first second = ap (λ zs. made set zs weights) first ∙ ap (λ ws. made set prices ws) second
