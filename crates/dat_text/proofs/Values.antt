-- The number that digits write.
use Rattle.std.proofs.Common.{◌≡◌, ℕ, zero, suc, ◌+◌, ◌-◌, ◌*◌, ◌^◌, ◌<◌, ◌≤◌, true, ltb, leb, List, [], ◌∷◌, length, get_or, take, IsTrue, ap, ◌∙◌, lit<, arith}
use Rattle.std.proofs.Math.Nat.{pow-le-pow_right}
use Rattle.std.specs.Char.{is_ascii_digit, digit_value}
use Rattle.std.specs.Str.Parse.{digits_value, AllDigits}
use Rattle.std.proofs.lemmas.Bool.{and_parts, leb-true, cond-true, cond-false, lt-ltb, le-ltb}
use Rattle.std.proofs.lemmas.Int.Digits.{digits_value-lt, digits_value_more}
use Rattle.std.proofs.lemmas.List.{length-take-le}
use Rattle.std.proofs.lemmas.List.Elements.{All-from_recursion}
use Rattle.dat_text.specs.Lines.{Each}

-- a decimal digit by its code
pub digit_is : (b : ℕ) → is_ascii_digit b ≡ true → (48 ≤ b) × (b ≤ 57) × (digit_value b ≡ b - 48)
digit_is b digit =
    let parts = and_parts (leb 48 b) (leb b 57) digit in
    let low : 48 ≤ b = leb-true 48 b parts.0 in
    let high : b ≤ 57 = leb-true b 57 parts.1 in
    (low, high, cond-false (ltb b 48) 36 _ (le-ltb b 48 low) ∙ cond-true (ltb b 58) (b - 48) _ (lt-ltb b 58 (omega arith)))

pub digit_at : (digits : List ℕ) (i : ℕ) → Each is_ascii_digit digits → i < length digits → is_ascii_digit (get_or digits i 0) ≡ true
digit_at digits i each below = All-from_recursion (λ b. IsTrue (is_ascii_digit b)) digits each i 0 below

each_take : (n : ℕ) (digits : List ℕ) → Each is_ascii_digit digits → AllDigits 10 (take n digits)
each_take zero digits each = tt
each_take (suc n) [] each = tt
each_take (suc n) (b ∷ digits) each = (let d = digit_is b each.0 in omega (arith, d), each_take n digits each.1)

-- the number of the first digits, and its next digit
pub value_more : (digits : List ℕ) (i value : ℕ) → Each is_ascii_digit digits → i < length digits → value ≡ digits_value 10 (take i digits) →
    10 * value + (get_or digits i 0 - 48) ≡ digits_value 10 (take (i + 1) digits)
value_more digits i value each below is =
    let d = digit_is (get_or digits i 0) (digit_at digits i each below) in
    omega (arith, d, is, digits_value_more 10 digits i below)

-- the digits before the last of at most 18 write a small number
pub value_small : (digits : List ℕ) (i value : ℕ) → Each is_ascii_digit digits → i < length digits → length digits ≤ 18 →
    value ≡ digits_value 10 (take i digits) → value < 10 ^ 17
value_small digits i value each below short is =
    let h : digits_value 10 (take i digits) < 10 ^ length (take i digits) = digits_value-lt 10 (take i digits) (each_take i digits each) in
    let long : length (take i digits) ≡ i = length-take-le i digits (omega arith) in
    let p : 10 ^ i ≤ 10 ^ 17 = pow-le-pow_right {n = 10} (lit< tt) {i = i} {j = 17} (omega arith) in
    let q : 10 ^ length (take i digits) ≡ 10 ^ i = ap (λ (k : ℕ). 10 ^ k) long in
    omega (arith, is, h, p, q)
