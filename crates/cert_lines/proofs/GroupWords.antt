-- Groups from their words, one word after another.
use Rattle.std.proofs.Common.{◌≡◌, ℕ, zero, suc, ◌+◌, List, [], ◌∷◌, ◌++◌, map, length, ℤ, refl, sym, ◌∙◌, append_assoc, arith}
use Rattle.std.specs.List.{AllByRecursion, flat_map}
use Rattle.std.specs.Str.Parse.{digits_value}
use Rattle.std.proofs.lemmas.List.{append-nil}
use Rattle.branch_rules.specs.Bonds.{GroupWeight}
use Rattle.cert_lines.specs.Numerals.{numeral}
use Rattle.cert_lines.specs.Lines.{Remainder, nothing, weight_alone, short_of, stated_size, group_words, remainder_words}
use Rattle.cert_lines.proofs.Digits.{value_of_numeral}
use Rattle.cert_lines.proofs.Words.{IsWord}
use Rattle.cert_lines.proofs.NumberWords.{numeral_word, signed_word, signed_value, signed_read}

-- The words are words.

numerals_words : (edges : List ℕ) → AllByRecursion IsWord (map numeral edges)
numerals_words [] = tt
numerals_words (e ∷ edges) = (numeral_word e, numerals_words edges)

rest_words : (rest : Remainder) → AllByRecursion IsWord (remainder_words rest)
rest_words nothing = tt
rest_words (weight_alone z) = (signed_word z, tt)
rest_words (short_of missing z edges) = (signed_word z, (numeral_word (stated_size missing edges), numerals_words edges))

edges_before : (edges : List ℕ) (words more : List (List ℕ)) → AllByRecursion IsWord (words ++ more) → AllByRecursion IsWord ((map numeral edges ++ words) ++ more)
edges_before [] words more all = all
edges_before (e ∷ edges) words more all = (numeral_word e, edges_before edges words more all)

pub groups_words : (groups : List GroupWeight) (rest : Remainder) → AllByRecursion IsWord (flat_map group_words groups ++ remainder_words rest)
groups_words [] rest = rest_words rest
groups_words (w ∷ groups) rest =
    (signed_word w.weight, (numeral_word (length w.edges), edges_before w.edges (flat_map group_words groups) (remainder_words rest) (groups_words groups rest)))

-- What words say.

-- complete groups, and what stands behind them
pub record Groups : Type 0 where
  pub groups : List GroupWeight
  pub rest : Remainder

abbrev pub groups_and : List GroupWeight → Remainder → Groups
groups_and groups rest = record { groups = groups; rest = rest }

-- a group more
abbrev pub with_group : List GroupWeight → List ℕ → ℤ → Groups
with_group groups edges z = record { groups = groups ++ record { edges = edges; weight = z } ∷ []; rest = nothing }

-- the size of a group of which the weight has come
abbrev pub with_size : List GroupWeight → ℤ → ℕ → Groups
with_size groups z zero = with_group groups [] z
with_size groups z (suc missing) = groups_and groups (short_of missing z [])

-- these edges of a group have come, and so many are missing
abbrev pub with_edges : List GroupWeight → ℕ → ℤ → List ℕ → Groups
with_edges groups zero z edges = with_group groups edges z
with_edges groups (suc missing) z edges = groups_and groups (short_of missing z edges)

-- one word more
abbrev pub word_more : List GroupWeight → Remainder → List ℕ → Groups
word_more groups nothing word = groups_and groups (weight_alone (signed_value word))
word_more groups (weight_alone z) word = with_size groups z (digits_value 10 word)
word_more groups (short_of missing z edges) word = with_edges groups missing z (edges ++ digits_value 10 word ∷ [])

-- more words
unfoldable pub groups_in : Groups → List (List ℕ) → Groups
groups_in g [] = g
groups_in g (word ∷ words) = groups_in (word_more g.groups g.rest word) words

-- the rest of the edges of a group
all_edges : (edges : List ℕ) (e : ℕ) (before : List ℕ) (missing : ℕ) (z : ℤ) (groups : List GroupWeight) (words more : List (List ℕ)) → missing ≡ length edges →
    groups_in (groups_and groups (short_of missing z before)) ((map numeral (e ∷ edges) ++ words) ++ more)
    ≡ groups_in (with_group groups (before ++ e ∷ edges) z) (words ++ more)
unfolding groups_in
all_edges [] e before missing z groups words more same =
    let none : missing ≡ 0 = omega (arith, same) in
    λ i. groups_in (with_edges groups (none i) z (before ++ value_of_numeral e i ∷ [])) (words ++ more)
all_edges (f ∷ edges) e before missing z groups words more same =
    let some : missing ≡ suc (length edges) = omega (arith, same) in
    (λ i. groups_in (with_edges groups (some i) z (before ++ value_of_numeral e i ∷ [])) ((map numeral (f ∷ edges) ++ words) ++ more))
    ∙ all_edges edges f (before ++ e ∷ []) (length edges) z groups words more refl
    ∙ (λ i. groups_in (with_group groups (append_assoc before (e ∷ []) (f ∷ edges) i) z) (words ++ more))

sized : (edges : List ℕ) (z : ℤ) (groups : List GroupWeight) (words more : List (List ℕ)) →
    groups_in (with_size groups z (length edges)) ((map numeral edges ++ words) ++ more) ≡ groups_in (with_group groups edges z) (words ++ more)
unfolding groups_in
sized [] z groups words more = refl
sized (e ∷ edges) z groups words more = all_edges edges e [] (length edges) z groups words more refl

-- some of the edges of a group
some_edges : (edges before : List ℕ) (wanting missing : ℕ) (z : ℤ) (groups : List GroupWeight) → wanting ≡ length edges + missing →
    groups_in (groups_and groups (short_of wanting z before)) (map numeral edges) ≡ groups_and groups (short_of missing z (before ++ edges))
unfolding groups_in
some_edges [] before wanting missing z groups same =
    let left : wanting ≡ missing = omega (arith, same) in
    λ i. groups_and groups (short_of (left i) z (sym (append-nil before) i))
some_edges (e ∷ edges) before wanting missing z groups same =
    let left : wanting ≡ suc (length edges + missing) = omega (arith, same) in
    (λ i. groups_in (with_edges groups (left i) z (before ++ value_of_numeral e i ∷ [])) (map numeral edges))
    ∙ some_edges edges (before ++ e ∷ []) (length edges + missing) missing z groups refl
    ∙ (λ i. groups_and groups (short_of missing z (append_assoc before (e ∷ []) edges i)))

rest_read : (rest : Remainder) (groups : List GroupWeight) → groups_in (groups_and groups nothing) (remainder_words rest) ≡ groups_and groups rest
unfolding groups_in
rest_read nothing groups = refl
rest_read (weight_alone z) groups = λ i. groups_and groups (weight_alone (signed_read z i))
rest_read (short_of missing z edges) groups =
    let size : stated_size missing edges ≡ suc (length edges + missing) = omega arith in
    (λ i. groups_in (with_size groups (signed_read z i) (value_of_numeral (stated_size missing edges) i)) (map numeral edges))
    ∙ (λ i. groups_in (with_size groups z (size i)) (map numeral edges))
    ∙ some_edges edges [] (length edges + missing) missing z groups refl

more_groups : (groups : List GroupWeight) (rest : Remainder) (before : List GroupWeight) →
    groups_in (groups_and before nothing) (flat_map group_words groups ++ remainder_words rest) ≡ groups_and (before ++ groups) rest
unfolding groups_in
more_groups [] rest before = rest_read rest before ∙ (λ i. groups_and (sym (append-nil before) i) rest)
more_groups (w ∷ groups) rest before =
    let words = flat_map group_words groups in
    let more = remainder_words rest in
    (λ i. groups_in (with_size before (signed_read w.weight i) (value_of_numeral (length w.edges) i)) ((map numeral w.edges ++ words) ++ more))
    ∙ sized w.edges w.weight before words more
    ∙ more_groups groups rest (before ++ w ∷ [])
    ∙ (λ i. groups_and (append_assoc before (w ∷ []) groups i) rest)

-- the words of groups say these groups
pub groups_read : (groups : List GroupWeight) (rest : Remainder) →
    groups_in (groups_and [] nothing) (flat_map group_words groups ++ remainder_words rest) ≡ groups_and groups rest
groups_read groups rest = more_groups groups rest []
