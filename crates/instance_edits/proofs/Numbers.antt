-- The number at the front of a text.
use Rattle.std.proofs.Common.{◌≡◌, ℕ, zero, suc, ◌+◌, ◌-◌, ◌*◌, ◌^◌, ◌<◌, ◌≤◌, Bool, true, false, cond, leb, eqb, List, [], ◌∷◌, ◌++◌, length, get_or, take, drop, Option, Some, None, refl, sym, ap, subst, ◌∙◌, lit<, arith, eq-eqb}
use Rattle.std.proofs.Math.Nat.{pow-le-pow_right}
use Rattle.std.proofs.Math.Numerals.{one-add}
use Rattle.std.specs.List.{prefix_len}
use Rattle.std.specs.Fmt.{decimal}
use Rattle.std.specs.Option.{option_and_then}
use Rattle.std.specs.Char.{is_ascii_digit, digit_value}
use Rattle.std.specs.Str.Parse.{digits_value, AllDigits}
use Rattle.std.proofs.lemmas.Bool.{and_parts, and_from, leb-true, le-leb, false≢true, eqb-true}
use Rattle.std.proofs.lemmas.Bool.Decides.{nat_tests}
use Rattle.std.proofs.lemmas.Fmt.{decimal_is_IsNumeral, decimal-digits_value, length-decimal-le, first_decimal, decimal_digit}
use Rattle.std.proofs.lemmas.Int.Digits.{digits_value-lt, digits_value_more}
use Rattle.std.proofs.lemmas.List.{take-append-drop, length-take-le}
use Rattle.std.proofs.lemmas.Option.{option_and_then_some}
use Rattle.std.proofs.lemmas.Str.{digit_value_digit}
use Rattle.std.proofs.lemmas.Str.Parse.{digit_from_value, digit_at, numerals_by_value, tells_digits}
use Rattle.instance_edits.proofs.Pairs.{firsts, seconds}
use Rattle.instance_edits.specs.Reading.{digits_at, after_digits, is_numeral, after_byte, number_before}

-- a digit by its code, and by its value
pub digit_small : (b : ℕ) → is_ascii_digit b ≡ true → digit_value b < 10
digit_small b passes =
    let parts = and_parts (leb 48 b) (leb b 57) passes in
    let low : 48 ≤ b = leb-true 48 b parts.0 in
    let high : b ≤ 57 = leb-true b 57 parts.1 in
    omega (arith, digit_value_digit b (low, high))

digit_passes : (b : ℕ) → digit_value b < 10 → is_ascii_digit b ≡ true
digit_passes b small =
    let range = digit_from_value b small in
    and_from (leb 48 b) (leb b 57) (le-leb 48 b range.0) (le-leb b 57 range.1)

pub value_at : (digits : List ℕ) (i : ℕ) → AllDigits 10 digits → i < length digits → (48 ≤ get_or digits i 0) × (get_or digits i 0 ≤ 57)
value_at digits i all below = let range = digit_at digits i all below in (range.0, range.1)

-- the number of the first digits, and its next digit
pub value_more : (digits : List ℕ) (i value : ℕ) → AllDigits 10 digits → i < length digits → value ≡ digits_value 10 (take i digits) →
    10 * value + (get_or digits i 0 - 48) ≡ digits_value 10 (take (i + 1) digits)
value_more digits i value all below is =
    let range = digit_at digits i all below in
    omega (arith, is, digits_value_more 10 digits i below, digit_value_digit (get_or digits i 0) range, range)

all_take : (n : ℕ) (digits : List ℕ) → AllDigits 10 digits → AllDigits 10 (take n digits)
all_take zero digits all = tt
all_take (suc n) [] all = tt
all_take (suc n) (b ∷ digits) all = (all.0, all_take n digits all.1)

pub value_small : (digits : List ℕ) (i value : ℕ) → AllDigits 10 digits → i < length digits → length digits ≤ 12 → value ≡ digits_value 10 (take i digits) → value < 10 ^ 11
value_small digits i value all below short is =
    let h : digits_value 10 (take i digits) < 10 ^ length (take i digits) = digits_value-lt 10 (take i digits) (all_take i digits all) in
    let long : length (take i digits) ≡ i = length-take-le i digits (omega arith) in
    let p : 10 ^ i ≤ 10 ^ 11 = pow-le-pow_right {n = 10} (lit< tt) {i = i} {j = 11} (omega arith) in
    let q : 10 ^ length (take i digits) ≡ 10 ^ i = ap (λ (k : ℕ). 10 ^ k) long in
    omega (arith, is, h, p, q)

-- digits at the front, one byte more
front_step : (t : Bool) (n b : ℕ) (text : List ℕ) → take (cond t (1 + n) 0) (b ∷ text) ≡ cond t (b ∷ take n text) []
front_step true n b text = ap (λ k. take k (b ∷ text)) (one-add n)
front_step false n b text = refl

rest_step : (t : Bool) (n b : ℕ) (text : List ℕ) → drop (cond t (1 + n) 0) (b ∷ text) ≡ cond t (drop n text) (b ∷ text)
rest_step true n b text = ap (λ k. drop k (b ∷ text)) (one-add n)
rest_step false n b text = refl

front_cons : (b : ℕ) (text : List ℕ) → digits_at (b ∷ text) ≡ cond (is_ascii_digit b) (b ∷ digits_at text) []
front_cons b text = front_step (is_ascii_digit b) (prefix_len is_ascii_digit text) b text

rest_cons : (b : ℕ) (text : List ℕ) → after_digits (b ∷ text) ≡ cond (is_ascii_digit b) (after_digits text) (b ∷ text)
rest_cons b text = rest_step (is_ascii_digit b) (prefix_len is_ascii_digit text) b text

all_step : (t : Bool) (b : ℕ) (digits : List ℕ) → is_ascii_digit b ≡ t → AllDigits 10 digits → AllDigits 10 (cond t (b ∷ digits) [])
all_step true b digits passes all = (digit_small b passes, all)
all_step false b digits fails all = tt

pub are_digits : (text : List ℕ) → AllDigits 10 (digits_at text)
are_digits [] = tt
are_digits (b ∷ text) = subst (λ (digits : List ℕ). AllDigits 10 digits) (sym (front_cons b text)) (all_step (is_ascii_digit b) b (digits_at text) refl (are_digits text))

-- digits before another byte are all the digits at the front
front_is : (digits : List ℕ) (c : ℕ) (rest : List ℕ) → AllDigits 10 digits → is_ascii_digit c ≡ false → digits_at (digits ++ c ∷ rest) ≡ digits
front_is [] c rest all other = front_cons c rest ∙ ap (λ (t : Bool). cond t (c ∷ digits_at rest) []) other
front_is (b ∷ digits) c rest all other =
    front_cons b (digits ++ c ∷ rest)
    ∙ ap (λ (t : Bool). cond t (b ∷ digits_at (digits ++ c ∷ rest)) []) (digit_passes b all.0)
    ∙ ap (λ (x : List ℕ). b ∷ x) (front_is digits c rest all.1 other)

rest_is : (digits : List ℕ) (c : ℕ) (rest : List ℕ) → AllDigits 10 digits → is_ascii_digit c ≡ false → after_digits (digits ++ c ∷ rest) ≡ c ∷ rest
rest_is [] c rest all other = rest_cons c rest ∙ ap (λ (t : Bool). cond t (after_digits rest) (c ∷ rest)) other
rest_is (b ∷ digits) c rest all other =
    rest_cons b (digits ++ c ∷ rest)
    ∙ ap (λ (t : Bool). cond t (after_digits (digits ++ c ∷ rest)) (b ∷ (digits ++ c ∷ rest))) (digit_passes b all.0)
    ∙ rest_is digits c rest all.1 other

abbrev with_rest : List ℕ → List ℕ → Option (ℕ × List ℕ)
with_rest digits rest = Some (digits_value 10 digits, rest)

-- the number of these digits, before this byte, is read
abbrev read_of : ℕ → List ℕ → List ℕ → Option (ℕ × List ℕ)
read_of b digits after = cond (is_numeral digits) (option_and_then (with_rest digits) (after_byte b after)) None

numeral_when : (c : ℕ) (cs : List ℕ) → length (c ∷ cs) ≤ 12 → (c ≡ 48 → length (c ∷ cs) ≡ 1) → is_numeral (c ∷ cs) ≡ true
numeral_when c cs short lead = grind (arith, nat_tests)

numeral_parts : (c : ℕ) (cs : List ℕ) → is_numeral (c ∷ cs) ≡ true → (length (c ∷ cs) ≤ 12) × (c ≡ 48 → length (c ∷ cs) ≡ 1)
numeral_parts c cs is = grind (arith, nat_tests)

numeral_from : (digits : List ℕ) → 0 < length digits → length digits ≤ 12 → (get_or digits 0 0 ≡ 48 → length digits ≡ 1) → is_numeral digits ≡ true
numeral_from [] some short lead = absurd (omega (arith, some))
numeral_from (c ∷ cs) some short lead = numeral_when c cs short lead

numeral_gives : (digits : List ℕ) → is_numeral digits ≡ true → (0 < length digits) × (length digits ≤ 12) × (get_or digits 0 0 ≡ 48 → length digits ≡ 1)
numeral_gives [] is = absurd (false≢true is)
numeral_gives (c ∷ cs) is = let parts = numeral_parts c cs is in (omega arith, parts.0, parts.1)

-- a number is spelled by digits, none of which stands in vain
lead_is : (n : ℕ) → n < 10 ^ 12 → get_or (decimal n) 0 0 ≡ 48 → length (decimal n) ≡ 1
lead_is zero small lead = ap length (decimal_digit 0 (lit< tt))
lead_is (suc n) small lead = absurd (omega (arith, lead, first_decimal (suc n) (omega arith) (omega (arith, small))))

decimal_numeral : (n : ℕ) → n < 10 ^ 12 → is_numeral (decimal n) ≡ true
decimal_numeral n small =
    let k = decimal_is_IsNumeral n (omega (arith, small)) in
    numeral_from (decimal n) k.0.0 (length-decimal-le 12 n (lit< tt) small (omega (arith, small))) (lead_is n small)

-- a number before the byte is read
pub number_read : (b n : ℕ) (rest : List ℕ) → is_ascii_digit b ≡ false → n < 10 ^ 12 → number_before b (decimal n ++ b ∷ rest) ≡ Some (n, rest)
unfolding number_before
number_read b n rest other small =
    let k = decimal_is_IsNumeral n (omega (arith, small)) in
    let front : digits_at (decimal n ++ b ∷ rest) ≡ decimal n = front_is (decimal n) b rest k.0.1 other in
    let after : after_digits (decimal n ++ b ∷ rest) ≡ b ∷ rest = rest_is (decimal n) b rest k.0.1 other in
    ap (λ (x : List ℕ). read_of b x (after_digits (decimal n ++ b ∷ rest))) front
    ∙ ap (λ (x : List ℕ). read_of b (decimal n) x) after
    ∙ ap (λ (t : Bool). cond t (option_and_then (with_rest (decimal n)) (after_byte b (b ∷ rest))) None) (decimal_numeral n small)
    ∙ ap (λ (t : Bool). option_and_then (with_rest (decimal n)) (cond t (Some rest) None)) (eq-eqb b b refl)
    ∙ ap (λ (m : ℕ). Some (m, rest)) k.1

-- and what is read is a number before the byte
byte_told : (b : ℕ) (text rest : List ℕ) → after_byte b text ≡ Some rest → text ≡ b ∷ rest
byte_told b [] rest is = cc
byte_told b (c ∷ text) rest is = byte_step (eqb c b) refl is
  where
    byte_step : (t : Bool) → eqb c b ≡ t → cond t (Some text) None ≡ Some rest → c ∷ text ≡ b ∷ rest
    byte_step true same here = let e : c ≡ b = eqb-true c b same in cc
    byte_step false other here = cc

number_spelled : (digits : List ℕ) → AllDigits 10 digits → is_numeral digits ≡ true → (decimal (digits_value 10 digits) ≡ digits) × (digits_value 10 digits < 10 ^ 12)
number_spelled digits all is =
    let parts = numeral_gives digits is in
    let below : digits_value 10 digits < 10 ^ length digits = digits_value-lt 10 digits all in
    let p : 10 ^ length digits ≤ 10 ^ 12 = pow-le-pow_right {n = 10} (lit< tt) {i = length digits} {j = 12} parts.1 in
    let small : digits_value 10 digits < 10 ^ 12 = omega (arith, below, p) in
    (decimal-digits_value (numerals_by_value (AllDigits 10) tells_digits) digits all parts.0 parts.2 (omega (arith, small)), small)

pub record IsNumberBefore (b : ℕ) (text : List ℕ) (n : ℕ) (rest : List ℕ) : Type 0 where
  pub cut : text ≡ decimal n ++ b ∷ rest
  pub small : n < 10 ^ 12

told_from : (b n : ℕ) (digits after rest : List ℕ) (t : Bool) → AllDigits 10 digits → is_numeral digits ≡ t →
    cond t (option_and_then (with_rest digits) (after_byte b after)) None ≡ Some (n, rest) → IsNumberBefore b (digits ++ after) n rest
told_from b n digits after rest false all is here = cc
told_from b n digits after rest true all is here =
    let spelled = number_spelled digits all is in
    option_and_then_some (with_rest digits) (after_byte b after) (n, rest) here (λ r follows gives. (
    let behind : after ≡ b ∷ r = byte_told b after r follows in
    let value : digits_value 10 digits ≡ n = firsts (digits_value 10 digits, r) (n, rest) gives in
    let same : r ≡ rest = seconds (digits_value 10 digits, r) (n, rest) gives in
    record {
      cut = ap (λ (x : List ℕ). digits ++ x) behind ∙ ap (λ (x : List ℕ). x ++ b ∷ r) (sym spelled.0) ∙ ap (λ (m : ℕ). decimal m ++ b ∷ r) value ∙ ap (λ (x : List ℕ). decimal n ++ b ∷ x) same;
      small = omega (arith, spelled.1, value);
    }))

pub number_told : (b n : ℕ) (text rest : List ℕ) → number_before b text ≡ Some (n, rest) → IsNumberBefore b text n rest
unfolding number_before
number_told b n text rest here =
    subst (λ (x : List ℕ). IsNumberBefore b x n rest) (take-append-drop (prefix_len is_ascii_digit text) text)
    (told_from b n (digits_at text) (after_digits text) rest (is_numeral (digits_at text)) (are_digits text) refl here)
