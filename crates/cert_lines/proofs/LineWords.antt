-- What a line says is read from its words, so no two lines are spelled alike.
use Rattle.std.proofs.Common.{◌≡◌, ◌≢◌, ℕ, Bool, true, false, cond, ◌||◌, eqb, List, [], ◌∷◌, map, get_or, drop, ℤ, refl, sym, ap, ◌∙◌, codes, lit≤}
use Rattle.std.specs.List.{AllByRecursion, flat_map, slice_split}
use Rattle.std.specs.Str.{bytes_eq}
use Rattle.std.specs.Str.Parse.{digits_value}
use Rattle.plan_model.specs.declared.step.Step.{Step}
use Rattle.branch_rules.specs.declared.weight.Weight.{Weight}
use Rattle.branch_rules.specs.declared.node.Node.TheVariants.{Pair, Cut, Price, Void, Fixed}
use Rattle.cert_lines.specs.declared.counts.Counts.{Counts}
use Rattle.cert_lines.specs.Numerals.{numeral, signed_numeral}
use Rattle.cert_lines.specs.Lines.{Line, version, counts, cost, bound, tours, tour, shores, shore, sets, prices, weights, bonds, nodes, node, end, nothing, step_word, weight_words, words_of, spaced, line_text}
use Rattle.cert_lines.proofs.Digits.{value_of_numeral}
use Rattle.cert_lines.proofs.Words.{IsWord, IsLineText, word_after, words_are_cut, spaced_is_line}
use Rattle.cert_lines.proofs.NumberWords.{numeral_word, signed_word, signed_value, signed_read}
use Rattle.cert_lines.proofs.GroupWords.{groups_words, groups_in, groups_and, groups_read}

-- The words are words.

mark_word : (edge : ℕ) (forward served : Bool) → IsWord (step_word (record { edge = edge; forward = forward; served = served }))
mark_word edge true true = word_after 43 (numeral edge) (lit≤ tt) (lit≤ tt) (numeral_word edge)
mark_word edge false true = word_after 45 (numeral edge) (lit≤ tt) (lit≤ tt) (numeral_word edge)
mark_word edge true false = word_after 62 (numeral edge) (lit≤ tt) (lit≤ tt) (numeral_word edge)
mark_word edge false false = word_after 60 (numeral edge) (lit≤ tt) (lit≤ tt) (numeral_word edge)

steps_words : (steps : List Step) → AllByRecursion IsWord (map step_word steps)
steps_words [] = tt
steps_words (s ∷ steps) = (mark_word s.edge s.forward s.served, steps_words steps)

vertices_words : (vertices : List ℕ) → AllByRecursion IsWord (map numeral vertices)
vertices_words [] = tt
vertices_words (v ∷ vertices) = (numeral_word v, vertices_words vertices)

services_words : (services : List ℤ) → AllByRecursion IsWord (map signed_numeral services)
services_words [] = tt
services_words (z ∷ services) = (signed_word z, services_words services)

weights_words : (items : List Weight) → AllByRecursion IsWord (flat_map weight_words items)
weights_words [] = tt
weights_words (w ∷ items) = (numeral_word w.shore, (signed_word w.weight, weights_words items))

pub line_words : (line : Line) → AllByRecursion IsWord (words_of line)
line_words (version n) = (record { passes = refl }, (numeral_word n, tt))
line_words (counts c) =
    (record { passes = refl }, (numeral_word c.vertices, (numeral_word c.edges, (numeral_word c.required, (numeral_word c.capacity, (numeral_word c.demand, tt))))))
line_words (cost n) = (record { passes = refl }, (numeral_word n, tt))
line_words (bound n) = (record { passes = refl }, (numeral_word n, tt))
line_words (tours n) = (record { passes = refl }, (numeral_word n, tt))
line_words (tour n steps) = (record { passes = refl }, (numeral_word n, steps_words steps))
line_words (shores n) = (record { passes = refl }, (numeral_word n, tt))
line_words (shore n vertices) = (record { passes = refl }, (numeral_word n, vertices_words vertices))
line_words (sets n) = (record { passes = refl }, (numeral_word n, tt))
line_words (prices unit n services) = (record { passes = refl }, (numeral_word unit, (numeral_word n, services_words services)))
line_words (weights n items) = (record { passes = refl }, (numeral_word n, weights_words items))
line_words (bonds n groups rest) = (record { passes = refl }, (numeral_word n, groups_words groups rest))
line_words (nodes n) = (record { passes = refl }, (numeral_word n, tt))
line_words (node (Pair a b)) = (record { passes = refl }, (numeral_word a, (numeral_word b, tt)))
line_words (node (Cut border k)) = (record { passes = refl }, (numeral_word border, (numeral_word k, tt)))
line_words (node (Price set)) = (record { passes = refl }, (numeral_word set, tt))
line_words (node Void) = (record { passes = refl }, tt)
line_words (node Fixed) = (record { passes = refl }, tt)
line_words end = (record { passes = refl }, tt)

pub line_is_text : (line : Line) → IsLineText (line_text line)
line_is_text line = spaced_is_line (words_of line) (line_words line)

-- Steps and weights from words.

unfoldable pub step_of : List ℕ → Step
step_of [] = record { edge = 0; forward = false; served = false }
step_of (mark ∷ ds) = record { edge = digits_value 10 ds; forward = eqb mark 43 || eqb mark 62; served = eqb mark 43 || eqb mark 45 }

mark_read : (edge : ℕ) (forward served : Bool) → step_of (step_word (record { edge = edge; forward = forward; served = served })) ≡ record { edge = edge; forward = forward; served = served }
unfolding step_of
mark_read edge true true = λ i. record { edge = value_of_numeral edge i; forward = true; served = true }
mark_read edge false true = λ i. record { edge = value_of_numeral edge i; forward = false; served = true }
mark_read edge true false = λ i. record { edge = value_of_numeral edge i; forward = true; served = false }
mark_read edge false false = λ i. record { edge = value_of_numeral edge i; forward = false; served = false }

steps_read : (steps : List Step) → map step_of (map step_word steps) ≡ steps
steps_read [] = refl
steps_read (s ∷ steps) = λ i. mark_read s.edge s.forward s.served i ∷ steps_read steps i

vertices_read : (vertices : List ℕ) → map (digits_value 10) (map numeral vertices) ≡ vertices
vertices_read [] = refl
vertices_read (v ∷ vertices) = λ i. value_of_numeral v i ∷ vertices_read vertices i

services_read : (services : List ℤ) → map signed_value (map signed_numeral services) ≡ services
services_read [] = refl
services_read (z ∷ services) = λ i. signed_read z i ∷ services_read services i

unfoldable pub weights_of : List (List ℕ) → List Weight
weights_of [] = []
weights_of (a ∷ []) = []
weights_of (a ∷ b ∷ words) = record { shore = digits_value 10 a; weight = signed_value b } ∷ weights_of words

weights_read : (items : List Weight) → weights_of (flat_map weight_words items) ≡ items
unfolding weights_of
weights_read [] = refl
weights_read (w ∷ items) = λ i. record { shore = value_of_numeral w.shore i; weight = signed_read w.weight i } ∷ weights_read items i

-- A line from its words.

unfoldable pub number_in : List (List ℕ) → ℕ → ℕ
number_in words k = digits_value 10 (get_or words k [])

unfoldable pub counts_in : List (List ℕ) → Counts
counts_in words = record { vertices = number_in words 0; edges = number_in words 1; required = number_in words 2; capacity = number_in words 3; demand = number_in words 4 }

unfoldable pub node_in : List ℕ → List (List ℕ) → Line
node_in word words =
    cond (bytes_eq word (codes "pair")) (node (Pair (number_in words 0) (number_in words 1)))
    (cond (bytes_eq word (codes "cut")) (node (Cut (number_in words 0) (number_in words 1)))
    (cond (bytes_eq word (codes "price")) (node (Price (number_in words 0)))
    (cond (bytes_eq word (codes "void")) (node Void)
    (cond (bytes_eq word (codes "fixed")) (node Fixed) end))))

unfoldable pub bonds_in : List (List ℕ) → Line
bonds_in words = bonds (number_in words 0) (groups_in (groups_and [] nothing) (drop 1 words)).groups (groups_in (groups_and [] nothing) (drop 1 words)).rest

unfoldable pub list_in : List ℕ → List (List ℕ) → Line
list_in word words =
    cond (bytes_eq word (codes "tour")) (tour (number_in words 0) (map step_of (drop 1 words)))
    (cond (bytes_eq word (codes "shore")) (shore (number_in words 0) (map (digits_value 10) (drop 1 words)))
    (cond (bytes_eq word (codes "prices")) (prices (number_in words 0) (number_in words 1) (map signed_value (drop 2 words)))
    (cond (bytes_eq word (codes "weights")) (weights (number_in words 0) (weights_of (drop 1 words)))
    (cond (bytes_eq word (codes "bonds")) (bonds_in words)
    (node_in word words)))))

unfoldable pub line_in : List ℕ → List (List ℕ) → Line
line_in word words =
    cond (bytes_eq word (codes "carp-certificate")) (version (number_in words 0))
    (cond (bytes_eq word (codes "instance")) (counts (counts_in words))
    (cond (bytes_eq word (codes "cost")) (cost (number_in words 0))
    (cond (bytes_eq word (codes "bound")) (bound (number_in words 0))
    (cond (bytes_eq word (codes "tours")) (tours (number_in words 0))
    (cond (bytes_eq word (codes "shores")) (shores (number_in words 0))
    (cond (bytes_eq word (codes "sets")) (sets (number_in words 0))
    (cond (bytes_eq word (codes "nodes")) (nodes (number_in words 0))
    (list_in word words))))))))

unfoldable pub line_of : List (List ℕ) → Line
line_of [] = end
line_of (word ∷ words) = line_in word words

line_read : (line : Line) → line_of (words_of line) ≡ line
unfolding line_of line_in list_in node_in counts_in bonds_in number_in
line_read (version n) = ap version (value_of_numeral n)
line_read (counts c) = λ i. counts (record {
  vertices = value_of_numeral c.vertices i;
  edges = value_of_numeral c.edges i;
  required = value_of_numeral c.required i;
  capacity = value_of_numeral c.capacity i;
  demand = value_of_numeral c.demand i;
})
line_read (cost n) = ap cost (value_of_numeral n)
line_read (bound n) = ap bound (value_of_numeral n)
line_read (tours n) = ap tours (value_of_numeral n)
line_read (tour n steps) = λ i. tour (value_of_numeral n i) (steps_read steps i)
line_read (shores n) = ap shores (value_of_numeral n)
line_read (shore n vertices) = λ i. shore (value_of_numeral n i) (vertices_read vertices i)
line_read (sets n) = ap sets (value_of_numeral n)
line_read (prices unit n services) = λ i. prices (value_of_numeral unit i) (value_of_numeral n i) (services_read services i)
line_read (weights n items) = λ i. weights (value_of_numeral n i) (weights_read items i)
line_read (bonds n groups rest) = λ i. bonds (value_of_numeral n i) (groups_read groups rest i).groups (groups_read groups rest i).rest
line_read (nodes n) = ap nodes (value_of_numeral n)
line_read (node (Pair a b)) = λ i. node (Pair (value_of_numeral a i) (value_of_numeral b i))
line_read (node (Cut border k)) = λ i. node (Cut (value_of_numeral border i) (value_of_numeral k i))
line_read (node (Price set)) = ap (λ (k : ℕ). node (Price k)) (value_of_numeral set)
line_read (node Void) = refl
line_read (node Fixed) = refl
line_read end = refl

-- each kind of line has a first word
some_words : (line : Line) → words_of line ≢ []
some_words (version n) = λ none. cc
some_words (counts c) = λ none. cc
some_words (cost n) = λ none. cc
some_words (bound n) = λ none. cc
some_words (tours n) = λ none. cc
some_words (tour n steps) = λ none. cc
some_words (shores n) = λ none. cc
some_words (shore n vertices) = λ none. cc
some_words (sets n) = λ none. cc
some_words (prices unit n services) = λ none. cc
some_words (weights n items) = λ none. cc
some_words (bonds n groups rest) = λ none. cc
some_words (nodes n) = λ none. cc
some_words (node (Pair a b)) = λ none. cc
some_words (node (Cut border k)) = λ none. cc
some_words (node (Price set)) = λ none. cc
some_words (node Void) = λ none. cc
some_words (node Fixed) = λ none. cc
some_words end = λ none. cc

cut_words : (words : List (List ℕ)) → AllByRecursion IsWord words → words ≢ [] → slice_split (λ b. eqb b 32) (spaced words) ≡ words
cut_words [] all some = absurd (some refl)
cut_words (word ∷ words) all some = words_are_cut word words all.0 all.1

pub line_cut : (line : Line) → slice_split (λ b. eqb b 32) (line_text line) ≡ words_of line
line_cut line = cut_words (words_of line) (line_words line) (some_words line)

pub text_read : (line : Line) → line_of (slice_split (λ b. eqb b 32) (line_text line)) ≡ line
text_read line = ap line_of (line_cut line) ∙ line_read line

pub line_unique : (line other : Line) → line_text line ≡ line_text other → line ≡ other
line_unique line other same = sym (text_read line) ∙ ap (λ (bytes : List ℕ). line_of (slice_split (λ b. eqb b 32) bytes)) same ∙ text_read other
