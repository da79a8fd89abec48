-- Numbers as words, and what they are read as.
use Rattle.std.proofs.Common.{◌≡◌, ℕ, suc, ◌-◌, ◌≤◌, Bool, false, cond, eqb, List, [], ◌∷◌, ℤ, pos, negsuc, refl, ap, ◌∙◌, arith, lit≤}
use Rattle.std.specs.List.{AllByRecursion}
use Rattle.std.specs.Str.Parse.{digits_value}
use Rattle.std.proofs.lemmas.Bool.{ne_eqb}
use Rattle.cert_lines.specs.Numerals.{numeral, signed_numeral}
use Rattle.cert_lines.proofs.Digits.{value_of_numeral, digits_of_numeral, numeral_of_digits}
use Rattle.cert_lines.proofs.Words.{IsWord, word_of_digits, word_after}

pub numeral_word : (n : ℕ) → IsWord (numeral n)
numeral_word n = word_of_digits (numeral n) (digits_of_numeral n)

pub signed_word : (z : ℤ) → IsWord (signed_numeral z)
signed_word (pos n) = numeral_word n
signed_word (negsuc n) = word_after 45 (numeral (suc n)) (lit≤ tt) (lit≤ tt) (numeral_word (suc n))

unfoldable pub signed_value : List ℕ → ℤ
signed_value [] = pos 0
signed_value (b ∷ ds) = cond (eqb b 45) (negsuc (digits_value 10 ds - 1)) (pos (digits_value 10 (b ∷ ds)))

digits_signed : (ds : List ℕ) → AllByRecursion (λ b. (48 ≤ b) × (b ≤ 57)) ds → signed_value ds ≡ pos (digits_value 10 ds)
unfolding signed_value
digits_signed [] digits = refl
digits_signed (b ∷ ds) digits =
    let other : eqb b 45 ≡ false = ne_eqb b 45 (λ same. omega (arith, digits.0)) in
    ap (λ (t : Bool). cond t (negsuc (digits_value 10 ds - 1)) (pos (digits_value 10 (b ∷ ds)))) other

pub signed_read : (z : ℤ) → signed_value (signed_numeral z) ≡ z
unfolding signed_value
signed_read (pos n) = digits_signed (numeral n) (numeral_of_digits n) ∙ ap pos (value_of_numeral n)
signed_read (negsuc n) = ap (λ (k : ℕ). negsuc (k - 1)) (value_of_numeral (suc n)) ∙ ap negsuc (omega arith)
