-- What numbers, words and lines take in a text.
use Rattle.std.proofs.Common.{◌≡◌, ℕ, suc, ◌+◌, ◌^◌, ◌<◌, ◌≤◌, ℤ, pos, negsuc, List, [], ◌∷◌, ◌++◌, length, ap, length-append, arith, lit<}
use Rattle.std.specs.List.{flat_map}
use Rattle.std.proofs.lemmas.Fmt.{length-decimal-le}
use Rattle.std.proofs.lemmas.Int.{ints}
use Rattle.branch_rules.specs.Limits.{IsPriceNumber}
use Rattle.branch_rules.specs.declared.node.Node.{Node}
use Rattle.branch_rules.specs.declared.node.Node.TheVariants.{Pair, Cut, Price, Void, Fixed}
use Rattle.cert_lines.specs.Numerals.{numeral, signed_numeral}
use Rattle.cert_lines.specs.Lines.{Line, version, counts, cost, bound, tours, tour, shores, shore, sets, prices, weights, bonds, nodes, node, end, words_of, node_words, spaced, after_blank, line_text}
use Rattle.cert_lines.specs.Spelling.{whole_line}
use Rattle.cert_lines.proofs.Digits.{numeral_is_decimal}

-- Numbers.

pub numeral_within : (k n : ℕ) → 0 < k → n < 10 ^ k → n < 2 ^ 64 → length (numeral n) ≤ k
numeral_within k n some small wide = omega (arith, ap length (numeral_is_decimal n wide), length-decimal-le k n some small wide)

pub price_within : (z : ℤ) → IsPriceNumber z → length (signed_numeral z) ≤ 17
price_within (pos n) is = omega (arith, numeral_within 16 n (lit< tt) (omega (arith, ints, is.high)) (omega (arith, ints, is.high)))
price_within (negsuc n) is = omega (arith, numeral_within 16 (suc n) (lit< tt) (omega (arith, ints, is.low)) (omega (arith, ints, is.low)))

-- Words and lines.

-- what words take, each with the blank or the LF behind it
abbrev pub room : List (List ℕ) → ℕ
room [] = 0
room (word ∷ words) = length word + 1 + room words

-- what lines take
abbrev pub lines_room : List Line → ℕ
lines_room [] = 0
lines_room (line ∷ lines) = room (words_of line) + lines_room lines

pub room_append : (words more : List (List ℕ)) → room (words ++ more) ≡ room words + room more
room_append [] more = omega arith
room_append (word ∷ words) more = omega (arith, room_append words more)

rest_within : (words : List (List ℕ)) → length (flat_map after_blank words) ≤ room words
rest_within [] = omega arith
rest_within (word ∷ words) = omega (arith, length-append (after_blank word) (flat_map after_blank words), rest_within words)

words_within : (words : List (List ℕ)) → 0 < length words → length (spaced words) + 1 ≤ room words
words_within [] some = absurd (omega (arith, some))
words_within (word ∷ words) some = omega (arith, length-append word (flat_map after_blank words), rest_within words)

node_has_words : (x : Node) → 0 < length (node_words x)
node_has_words (Pair a b) = omega arith
node_has_words (Cut border k) = omega arith
node_has_words (Price set) = omega arith
node_has_words Void = omega arith
node_has_words Fixed = omega arith

has_words : (line : Line) → 0 < length (words_of line)
has_words (version n) = omega arith
has_words (counts c) = omega arith
has_words (cost n) = omega arith
has_words (bound n) = omega arith
has_words (tours n) = omega arith
has_words (tour n steps) = omega arith
has_words (shores n) = omega arith
has_words (shore n vertices) = omega arith
has_words (sets n) = omega arith
has_words (prices unit n services) = omega arith
has_words (weights n items) = omega arith
has_words (bonds n groups rest) = omega arith
has_words (nodes n) = omega arith
has_words (node x) = node_has_words x
has_words end = omega arith

pub text_within : (lines : List Line) → length (flat_map whole_line lines) ≤ lines_room lines
text_within [] = omega arith
text_within (line ∷ lines) =
    omega (
      arith,
      length-append (whole_line line) (flat_map whole_line lines),
      length-append (line_text line) (10 ∷ []),
      words_within (words_of line) (has_words line),
      text_within lines,
    )

-- a word and a number
pub number_within : (k n : ℕ) → 0 < k → n < 10 ^ k → n < 2 ^ 64 → (word : List ℕ) → length word ≤ 6 → room (word ∷ numeral n ∷ []) ≤ k + 8
number_within k n some small wide word short = omega (arith, short, numeral_within k n some small wide)
