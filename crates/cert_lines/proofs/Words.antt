-- A line is cut into its words at blanks, and has no LF.
use Rattle.std.proofs.Common.{◌≡◌, ◌≢◌, ℕ, ◌≤◌, Bool, true, false, ◌&&◌, eqb, leb, List, [], ◌∷◌, ◌++◌, refl, ap, ◌∙◌, arith}
use Rattle.std.specs.List.{All, AllByRecursion, list_all, flat_map, slice_split}
use Rattle.std.proofs.lemmas.Bool.{and_from, and_parts, leb-true, le-leb, ne_eqb}
use Rattle.std.proofs.lemmas.List.{append-nil}
use Rattle.std.proofs.lemmas.List.Elements.{All-from_recursion}
use Rattle.std.proofs.lemmas.List.Folds.{list_all-append}
use Rattle.std.proofs.lemmas.List.Splits.{slice_split_none, slice_split_at}
use Rattle.cert_lines.specs.Lines.{after_blank, spaced}
use Rattle.cert_lines.proofs.Digits.{is_decimal_digit}

-- a byte of a word, and one of a line: a blank stands in lines alone
abbrev pub is_word_byte : ℕ → Bool
is_word_byte b = leb 33 b && leb b 122

abbrev pub is_line_byte : ℕ → Bool
is_line_byte b = leb 32 b && leb b 122

pub record IsWord (word : List ℕ) : Type 0 where
  pub passes : list_all is_word_byte word ≡ true

pub record IsLineText (bytes : List ℕ) : Type 0 where
  pub passes : list_all is_line_byte bytes ≡ true

pub word_byte : (b : ℕ) → 33 ≤ b → b ≤ 122 → is_word_byte b ≡ true
word_byte b low high = and_from (leb 33 b) (leb b 122) (le-leb 33 b low) (le-leb b 122 high)

line_byte : (b : ℕ) → is_word_byte b ≡ true → is_line_byte b ≡ true
line_byte b passes =
    let ends = and_parts (leb 33 b) (leb b 122) passes in
    let low : 33 ≤ b = leb-true 33 b ends.0 in
    and_from (leb 32 b) (leb b 122) (le-leb 32 b (omega arith)) ends.1

word_in_line : (word : List ℕ) → list_all is_word_byte word ≡ true → list_all is_line_byte word ≡ true
word_in_line [] passes = refl
word_in_line (b ∷ word) passes =
    let parts = and_parts (is_word_byte b) (list_all is_word_byte word) passes in
    and_from (is_line_byte b) (list_all is_line_byte word) (line_byte b parts.0) (word_in_line word parts.1)

digits_in_word : (ds : List ℕ) → list_all is_decimal_digit ds ≡ true → list_all is_word_byte ds ≡ true
digits_in_word [] passes = refl
digits_in_word (b ∷ ds) passes =
    let parts = and_parts (is_decimal_digit b) (list_all is_decimal_digit ds) passes in
    let ends = and_parts (leb 48 b) (leb b 57) parts.0 in
    let low : 48 ≤ b = leb-true 48 b ends.0 in
    let high : b ≤ 57 = leb-true b 57 ends.1 in
    and_from (is_word_byte b) (list_all is_word_byte ds) (word_byte b (omega arith) (omega arith)) (digits_in_word ds parts.1)

pub word_of_digits : (ds : List ℕ) → list_all is_decimal_digit ds ≡ true → IsWord ds
word_of_digits ds passes = record { passes = digits_in_word ds passes }

pub word_after : (b : ℕ) (word : List ℕ) → 33 ≤ b → b ≤ 122 → IsWord word → IsWord (b ∷ word)
word_after b word low high rest = record { passes = and_from (is_word_byte b) (list_all is_word_byte word) (word_byte b low high) rest.passes }

-- Bytes that are not there.

no_byte_in : (p : ℕ → Bool) (c : ℕ) → ((b : ℕ) → p b ≡ true → b ≢ c) → (bytes : List ℕ) → list_all p bytes ≡ true → AllByRecursion (λ b. eqb b c ≡ false) bytes
no_byte_in p c other [] passes = tt
no_byte_in p c other (b ∷ bytes) passes =
    let parts = and_parts (p b) (list_all p bytes) passes in
    (ne_eqb b c (other b parts.0), no_byte_in p c other bytes parts.1)

not_blank : (b : ℕ) → is_word_byte b ≡ true → b ≢ 32
not_blank b passes same =
    let low : 33 ≤ b = leb-true 33 b (and_parts (leb 33 b) (leb b 122) passes).0 in
    omega arith

not_end : (b : ℕ) → is_line_byte b ≡ true → b ≢ 10
not_end b passes same =
    let low : 32 ≤ b = leb-true 32 b (and_parts (leb 32 b) (leb b 122) passes).0 in
    omega arith

no_blank : (word : List ℕ) → IsWord word → All (λ b. eqb b 32 ≡ false) word
no_blank word is = All-from_recursion (λ b. eqb b 32 ≡ false) word (no_byte_in is_word_byte 32 not_blank word is.passes)

pub no_end : (bytes : List ℕ) → IsLineText bytes → All (λ b. eqb b 10 ≡ false) bytes
no_end bytes is = All-from_recursion (λ b. eqb b 10 ≡ false) bytes (no_byte_in is_line_byte 10 not_end bytes is.passes)

in_bounds : (bytes : List ℕ) → list_all is_line_byte bytes ≡ true → AllByRecursion (λ b. (32 ≤ b) × (b ≤ 122)) bytes
in_bounds [] passes = tt
in_bounds (b ∷ bytes) passes =
    let parts = and_parts (is_line_byte b) (list_all is_line_byte bytes) passes in
    let ends = and_parts (leb 32 b) (leb b 122) parts.0 in
    ((leb-true 32 b ends.0, leb-true b 122 ends.1), in_bounds bytes parts.1)

pub line_bounds : (bytes : List ℕ) → IsLineText bytes → AllByRecursion (λ b. (32 ≤ b) × (b ≤ 122)) bytes
line_bounds bytes is = in_bounds bytes is.passes

-- Words with blanks between.

pub words_are_cut : (word : List ℕ) (words : List (List ℕ)) → IsWord word → AllByRecursion IsWord words →
    slice_split (λ b. eqb b 32) (word ++ flat_map after_blank words) ≡ word ∷ words
words_are_cut word [] is all = ap (slice_split (λ b. eqb b 32)) (append-nil word) ∙ slice_split_none (λ b. eqb b 32) word (no_blank word is)
words_are_cut word (next ∷ words) is all =
    slice_split_at (λ b. eqb b 32) word 32 (next ++ flat_map after_blank words) (no_blank word is) refl
    ∙ ap (λ (parts : List (List ℕ)). word ∷ parts) (words_are_cut next words all.0 all.1)

rest_in_line : (words : List (List ℕ)) → AllByRecursion IsWord words → list_all is_line_byte (flat_map after_blank words) ≡ true
rest_in_line [] all = refl
rest_in_line (word ∷ words) all =
    list_all-append is_line_byte (after_blank word) (flat_map after_blank words)
    ∙ and_from (list_all is_line_byte word) (list_all is_line_byte (flat_map after_blank words)) (word_in_line word all.0.passes) (rest_in_line words all.1)

pub spaced_is_line : (words : List (List ℕ)) → AllByRecursion IsWord words → IsLineText (spaced words)
spaced_is_line [] all = record { passes = refl }
spaced_is_line (word ∷ words) all = record {
  passes = list_all-append is_line_byte word (flat_map after_blank words)
      ∙ and_from (list_all is_line_byte word) (list_all is_line_byte (flat_map after_blank words)) (word_in_line word all.0.passes) (rest_in_line words all.1);
}
