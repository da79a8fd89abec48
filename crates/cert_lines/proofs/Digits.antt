-- The digits of a number of any size, and the number that they write.
use Rattle.std.proofs.Common.{◌≡◌, ◌≢◌, ℕ, zero, suc, ◌+◌, ◌*◌, ◌/◌, ◌%◌, ◌^◌, ◌<◌, ◌≤◌, ◌⊎◌, inl, inr, Bool, true, ◌&&◌, leb, List, [], ◌∷◌, ◌++◌, map, ℤ, pos, negsuc, nat_abs, refl, sym, ap, subst, ◌∙◌, arith, lit<, lit≤}
use Rattle.std.specs.Fmt.{decimal, signed_decimal}
use Rattle.std.specs.List.{list_all, AllByRecursion}
use Rattle.std.specs.Int.Digits.{digits_of}
use Rattle.std.proofs.lemmas.List.{map-append}
use Rattle.std.specs.Str.Parse.{digits_value}
use Rattle.std.proofs.lemmas.Bool.{and_from, and_parts, leb-true, le-leb, cases_lt}
use Rattle.std.proofs.lemmas.Fmt.{decimal_digit, decimal-digits_of}
use Rattle.std.proofs.lemmas.Int.Digits.{digits_value_push, digits_of_step}
use Rattle.std.proofs.lemmas.List.Folds.{list_all-append}
use Rattle.std.proofs.lemmas.Str.{digit_value_digit}
use Rattle.cert_lines.specs.Numerals.{numeral, signed_numeral}

-- One step.

some_digits : (n : ℕ) → 0 < n → numeral n ≡ map (λ d. 48 + d) (digits_of 10 n)
unfolding numeral
some_digits zero some = absurd (omega arith)
some_digits (suc n) some = refl

step_digits : (n : ℕ) → 0 < n → numeral n ≡ map (λ d. 48 + d) (digits_of 10 (n / 10)) ++ (48 + n % 10) ∷ []
step_digits n some =
    some_digits n some ∙ ap (map (λ d. 48 + d)) (digits_of_step 10 n (lit≤ tt) some) ∙ map-append (λ d. 48 + d) (digits_of 10 (n / 10)) ((n % 10) ∷ [])

pub digit_is_numeral : (d : ℕ) → d < 10 → numeral d ≡ (48 + d) ∷ []
unfolding numeral
digit_is_numeral zero small = refl
digit_is_numeral (suc d) small =
    let front : suc d / 10 ≡ 0 = omega arith in
    let last : suc d % 10 ≡ suc d = omega arith in
    step_digits (suc d) (omega arith) ∙ (λ i. map (λ k. 48 + k) (digits_of 10 (front i)) ++ (48 + last i) ∷ [])

numeral_step : (n : ℕ) → 10 ≤ n → numeral n ≡ numeral (n / 10) ++ (48 + n % 10) ∷ []
numeral_step n large =
    step_digits n (omega arith) ∙ ap (λ (ds : List ℕ). ds ++ (48 + n % 10) ∷ []) (sym (some_digits (n / 10) (omega arith)))

pub numeral_grows : (n d : ℕ) → 1 ≤ n → d < 10 → numeral (10 * n + d) ≡ numeral n ++ (48 + d) ∷ []
numeral_grows n d some small =
    let front : (10 * n + d) / 10 ≡ n = omega arith in
    let last : (10 * n + d) % 10 ≡ d = omega arith in
    numeral_step (10 * n + d) (omega arith) ∙ (λ i. numeral (front i) ++ (48 + last i) ∷ [])

-- The number that they write.

value_below : (most n : ℕ) → n < most → digits_value 10 (numeral n) ≡ n
value_below zero n below = absurd (omega arith)
value_below (suc most) n below = by_size (cases_lt n 10) (λ large. value_below most (n / 10) (omega arith))
  where
    by_size : (n < 10) ⊎ (10 ≤ n) → (10 ≤ n → digits_value 10 (numeral (n / 10)) ≡ n / 10) → digits_value 10 (numeral n) ≡ n
    by_size (inl small) front = ap (digits_value 10) (digit_is_numeral n small) ∙ omega (arith, digit_value_digit (48 + n) (omega arith, omega arith))
    by_size (inr large) front =
        ap (digits_value 10) (numeral_step n large) ∙ digits_value_push 10 (numeral (n / 10)) (48 + n % 10)
        ∙ omega (arith, front large, digit_value_digit (48 + n % 10) (omega arith, omega arith))

pub value_of_numeral : (n : ℕ) → digits_value 10 (numeral n) ≡ n
value_of_numeral n = value_below (n + 1) n (omega arith)

pub numeral_unique : (m n : ℕ) → numeral m ≡ numeral n → m ≡ n
numeral_unique m n same = sym (value_of_numeral m) ∙ ap (digits_value 10) same ∙ value_of_numeral n

-- Its bytes.

abbrev pub is_decimal_digit : ℕ → Bool
is_decimal_digit b = leb 48 b && leb b 57

digit_passes : (b : ℕ) → 48 ≤ b → b ≤ 57 → list_all is_decimal_digit (b ∷ []) ≡ true
digit_passes b low high = and_from (is_decimal_digit b) true (and_from (leb 48 b) (leb b 57) (le-leb 48 b low) (le-leb b 57 high)) refl

digits_below : (most n : ℕ) → n < most → list_all is_decimal_digit (numeral n) ≡ true
digits_below zero n below = absurd (omega arith)
digits_below (suc most) n below = by_size (cases_lt n 10) (λ large. digits_below most (n / 10) (omega arith))
  where
    by_size : (n < 10) ⊎ (10 ≤ n) → (10 ≤ n → list_all is_decimal_digit (numeral (n / 10)) ≡ true) → list_all is_decimal_digit (numeral n) ≡ true
    by_size (inl small) front = ap (list_all is_decimal_digit) (digit_is_numeral n small) ∙ digit_passes (48 + n) (omega arith) (omega arith)
    by_size (inr large) front =
        ap (list_all is_decimal_digit) (numeral_step n large) ∙ list_all-append is_decimal_digit (numeral (n / 10)) ((48 + n % 10) ∷ [])
        ∙ and_from _ _ (front large) (digit_passes (48 + n % 10) (omega arith) (omega arith))

pub digits_of_numeral : (n : ℕ) → list_all is_decimal_digit (numeral n) ≡ true
digits_of_numeral n = digits_below (n + 1) n (omega arith)

all_digits : (ds : List ℕ) → list_all is_decimal_digit ds ≡ true → AllByRecursion (λ b. (48 ≤ b) × (b ≤ 57)) ds
all_digits [] pass = tt
all_digits (b ∷ ds) pass =
    let parts = and_parts (is_decimal_digit b) (list_all is_decimal_digit ds) pass in
    let ends = and_parts (leb 48 b) (leb b 57) parts.0 in
    ((leb-true 48 b ends.0, leb-true b 57 ends.1), all_digits ds parts.1)

pub numeral_of_digits : (n : ℕ) → AllByRecursion (λ b. (48 ≤ b) × (b ≤ 57)) (numeral n)
numeral_of_digits n = all_digits (numeral n) (digits_of_numeral n)

-- Signed numbers.

no_minus : (n : ℕ) (ds : List ℕ) → numeral n ≢ 45 ∷ ds
no_minus n ds same =
    let digits : AllByRecursion (λ b. (48 ≤ b) × (b ≤ 57)) (45 ∷ ds) = subst (λ (bs : List ℕ). AllByRecursion (λ b. (48 ≤ b) × (b ≤ 57)) bs) same (numeral_of_digits n) in
    omega (arith, digits.0.0)

pub signed_unique : (y z : ℤ) → signed_numeral y ≡ signed_numeral z → y ≡ z
signed_unique (pos m) (pos n) same = ap pos (numeral_unique m n same)
signed_unique (pos m) (negsuc n) same = absurd (no_minus m (numeral (suc n)) same)
signed_unique (negsuc m) (pos n) same = absurd (no_minus n (numeral (suc m)) (sym same))
signed_unique (negsuc m) (negsuc n) same = ap negsuc (omega (arith, numeral_unique (suc m) (suc n) cc))

-- Numbers of 64 bits.

pub numeral_is_decimal : (n : ℕ) → n < 2 ^ 64 → numeral n ≡ decimal n
numeral_is_decimal zero small = digit_is_numeral 0 (lit< tt) ∙ sym (decimal_digit 0 (lit< tt))
numeral_is_decimal (suc n) small = some_digits (suc n) (omega arith) ∙ sym (decimal-digits_of (suc n) (omega arith) small)

pub signed_is_decimal : (z : ℤ) → nat_abs z < 2 ^ 64 → signed_numeral z ≡ signed_decimal z
signed_is_decimal (pos n) small = numeral_is_decimal n small
signed_is_decimal (negsuc n) small = ap (λ (ds : List ℕ). 45 ∷ ds) (numeral_is_decimal (suc n) (omega arith))
