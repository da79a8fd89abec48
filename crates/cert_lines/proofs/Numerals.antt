-- The spelling of numbers of any length, and the digits that spell them.
use Rattle.std.proofs.Common.{◌≡◌, ◌≢◌, ℕ, zero, suc, ◌+◌, ◌*◌, ◌/◌, ◌%◌, ◌^◌, ◌<◌, ◌≤◌, true, leb, List, [], ◌∷◌, ◌++◌, length, get_or, map, refl, sym, ap, ◌∙◌, append_assoc, lit<, lit≤, arith, inl, inr}
use Rattle.std.specs.List.{list_all}
use Rattle.std.specs.Char.{is_ascii_digit, digit_value}
use Rattle.std.specs.Int.Digits.{digits_of, number_from_digits_after, AllBelowBase}
use Rattle.std.specs.Str.Parse.{digits_value}
use Rattle.std.proofs.lemmas.Bool.{and_parts, leb-true, le-leb, and_from, cases_eq}
use Rattle.std.proofs.lemmas.List.{append-nil, length-map}
use Rattle.std.proofs.lemmas.Int.Digits.{digits_of_step, length-digits_of-le, all_below_base_digits_of, first_digits_of, digits_value_is, number_after_ge}
use Rattle.std.proofs.lemmas.Str.{digit_value_digit}
use Rattle.cert_lines.specs.Numerals.{numeral}
use Rattle.cert_lines.specs.Numbers.{IsNumeral}

-- a digit by its code
pub digit_is : (c : ℕ) → is_ascii_digit c ≡ true → (48 ≤ c) × (c ≤ 57) × (digit_value c + 48 ≡ c)
digit_is c digit =
    let parts = and_parts (leb 48 c) (leb c 57) digit in
    let low = leb-true 48 c parts.0 in
    let high = leb-true c 57 parts.1 in
    (low, high, digit_value_digit c (low, high))

pub is_digit : (c : ℕ) → 48 ≤ c → c ≤ 57 → is_ascii_digit c ≡ true
is_digit c low high = and_from (leb 48 c) (leb c 57) (le-leb 48 c low) (le-leb c 57 high)

-- the digits of a number that is not 0
pub natural_pos : (n : ℕ) → 0 < n → numeral n ≡ map (λ d. 48 + d) (digits_of 10 n)
unfolding numeral
natural_pos zero some = absurd (omega (arith, some))
natural_pos (suc n) some = refl

one_digit : (d : ℕ) → 0 < d → d < 10 → digits_of 10 d ≡ d ∷ []
one_digit d some small =
    let q : d / 10 ≡ 0 = omega arith in
    let r : d % 10 ≡ d = omega arith in
    digits_of_step 10 d (lit≤ tt) some ∙ ap (λ (k : ℕ). digits_of 10 k ++ (d % 10 ∷ [])) q ∙ ap (λ (k : ℕ). k ∷ []) r

one_more : (n d : ℕ) → 0 < n → d < 10 → digits_of 10 (n * 10 + d) ≡ digits_of 10 n ++ d ∷ []
one_more n d some small =
    let q : (n * 10 + d) / 10 ≡ n = omega arith in
    let r : (n * 10 + d) % 10 ≡ d = omega arith in
    digits_of_step 10 (n * 10 + d) (lit≤ tt) (omega arith) ∙ ap (λ (k : ℕ). digits_of 10 k ++ ((n * 10 + d) % 10 ∷ [])) q ∙ ap (λ (k : ℕ). digits_of 10 n ++ k ∷ []) r

digits_after : (ds : List ℕ) (n : ℕ) → 0 < n → AllBelowBase 10 ds → digits_of 10 (number_from_digits_after 10 n ds) ≡ digits_of 10 n ++ ds
digits_after [] n some below = sym (append-nil (digits_of 10 n))
digits_after (d ∷ ds) n some below =
    digits_after ds (n * 10 + d) (omega (arith, some)) below.1
    ∙ ap (λ (x : List ℕ). x ++ ds) (one_more n d some below.0)
    ∙ append_assoc (digits_of 10 n) (d ∷ []) ds

below_base : (cs : List ℕ) → list_all is_ascii_digit cs ≡ true → AllBelowBase 10 (map digit_value cs)
below_base [] all = tt
below_base (c ∷ cs) all =
    let parts = and_parts (is_ascii_digit c) (list_all is_ascii_digit cs) all in
    (let d = digit_is c parts.0 in omega (arith, d), below_base cs parts.1)

glyphs : (cs : List ℕ) → list_all is_ascii_digit cs ≡ true → map (λ d. 48 + d) (map digit_value cs) ≡ cs
glyphs [] all = refl
glyphs (c ∷ cs) all =
    let parts = and_parts (is_ascii_digit c) (list_all is_ascii_digit cs) all in
    let d = digit_is c parts.0 in
    let e : 48 + digit_value c ≡ c = omega (arith, d) in
    ap (λ (k : ℕ). k ∷ map (λ d. 48 + d) (map digit_value cs)) e ∙ ap (λ (x : List ℕ). c ∷ x) (glyphs cs parts.1)

-- a is_one that does not begin with `0`
spelled_pos : (c : ℕ) (cs : List ℕ) → list_all is_ascii_digit (c ∷ cs) ≡ true → c ≢ 48 → c ∷ cs ≡ numeral (digits_value 10 (c ∷ cs))
spelled_pos c cs all other =
    let parts = and_parts (is_ascii_digit c) (list_all is_ascii_digit cs) all in
    let d = digit_is c parts.0 in
    let v : ℕ = digit_value c in
    let some : 0 < v = omega (arith, d, other) in
    let small : v < 10 = omega (arith, d) in
    let zeros : 0 * 10 + v ≡ v = omega arith in
    let value : digits_value 10 (c ∷ cs) ≡ number_from_digits_after 10 v (map digit_value cs) =
    digits_value_is 10 (c ∷ cs) ∙ ap (λ (k : ℕ). number_from_digits_after 10 k (map digit_value cs)) zeros in
    let least : v ≤ number_from_digits_after 10 v (map digit_value cs) = number_after_ge 10 v (map digit_value cs) (lit< tt) in
    let digits : digits_of 10 (number_from_digits_after 10 v (map digit_value cs)) ≡ v ∷ map digit_value cs =
    digits_after (map digit_value cs) v some (below_base cs parts.1) ∙ ap (λ (x : List ℕ). x ++ map digit_value cs) (one_digit v some small) in
    sym (ap numeral value ∙ natural_pos _ (omega (arith, least, some)) ∙ ap (map (λ d. 48 + d)) digits ∙ glyphs (c ∷ cs) all)

-- a is_one spells the number that its digits write
pub numeral_spells : (text : List ℕ) → IsNumeral text → text ≡ numeral (digits_value 10 text)
unfolding numeral
numeral_spells [] is_one = absurd is_one
numeral_spells (c ∷ cs) is_one =
    elim (cases_eq c 48) [
      | inl same ↦
          let alone : c ∷ cs ≡ 48 ∷ [] = ap (λ (k : ℕ). k ∷ cs) same ∙ ap (λ (x : List ℕ). 48 ∷ x) (is_one.1 same) in
          alone ∙ sym (ap (λ (x : List ℕ). numeral (digits_value 10 x)) alone)
      | inr other ↦ spelled_pos c cs is_one.0 other
    ]

all_glyphs : (ds : List ℕ) → AllBelowBase 10 ds → list_all is_ascii_digit (map (λ d. 48 + d) ds) ≡ true
all_glyphs [] below = refl
all_glyphs (d ∷ ds) below = and_from (is_ascii_digit (48 + d)) _ (is_digit (48 + d) (omega arith) (omega (arith, below.0))) (all_glyphs ds below.1)

glyphs_numeral : (ds : List ℕ) → AllBelowBase 10 ds → 0 < get_or ds 0 0 → IsNumeral (map (λ d. 48 + d) ds)
glyphs_numeral [] below some = absurd (omega (arith, some))
glyphs_numeral (d ∷ ds) below some = (all_glyphs (d ∷ ds) below, λ e. absurd (omega (arith, e, some)))

-- what spells a number is a is_one
pub natural_numeral : (n : ℕ) → IsNumeral (numeral n)
unfolding numeral
natural_numeral zero = (refl, λ e. refl)
natural_numeral (suc n) = glyphs_numeral (digits_of 10 (suc n)) (all_below_base_digits_of 10 (suc n) (lit≤ tt)) (first_digits_of 10 (suc n) (lit≤ tt) (omega arith))

pub natural_short : (n : ℕ) → n < 10 ^ 18 → length (numeral n) ≤ 18
unfolding numeral
natural_short zero small = omega arith
natural_short (suc n) small =
    omega (arith, length-map (digits_of 10 (suc n)) (λ d. 48 + d), length-digits_of-le 10 18 (suc n) (lit≤ tt) small)
