-- A word that cannot stand on a line of groups.
use Rattle.std.proofs.Common.{◌≡◌, ℕ, ◌≤◌, List, [], ◌∷◌, ◌++◌, map, length, sym, ap, ◌∙◌, append_assoc, arith}
use Rattle.std.specs.List.{flat_map}
use Rattle.branch_rules.specs.Bonds.{GroupWeight}
use Rattle.cert_lines.specs.Laws.{NumeralIsUnique}
use Rattle.cert_lines.specs.Numerals.{numeral, signed_numeral}
use Rattle.cert_lines.specs.Lines.{Remainder, nothing, weight_alone, short_of, stated_size, group_words, remainder_words}
use Rattle.cert_format.specs.Groups.{all_words, IsNoWordAfter}
use Rattle.cert_format.proofs.Hopeless.{next_item, next_field, behind_fields}

-- the numbers of a longer list are more
no_fewer : (ns ms : List ℕ) (a : List (List ℕ)) → map numeral ns ++ a ≡ map numeral ms → length ns ≤ length ms
no_fewer [] ms a e = omega arith
no_fewer (n ∷ ns) [] a e = absurd (let both : numeral n ∷ (map numeral ns ++ a) ≡ [] = e in cc)
no_fewer (n ∷ ns) (m ∷ ms) a e = (let rest = no_fewer ns ms a (let r : map numeral ns ++ a ≡ map numeral ms = cc in r) in omega (arith, rest))

-- behind the weight and the size of a group
rest_fails : NumeralIsUnique → (yrest xrest : Remainder) (text : List ℕ) (more : List (List ℕ)) → remainder_words yrest ≡ remainder_words xrest ++ text ∷ more → IsNoWordAfter xrest text → ⊥
rest_fails unique nothing nothing text more e none = (let both : [] ≡ text ∷ more = e in cc)
rest_fails unique nothing (weight_alone z) text more e none = (let both : [] ≡ signed_numeral z ∷ text ∷ more = e in cc)
rest_fails unique nothing (short_of m z es) text more e none = (let both : [] ≡ signed_numeral z ∷ numeral (stated_size m es) ∷ (map numeral es ++ text ∷ more) = e in cc)
rest_fails unique (weight_alone y) nothing text more e none = none y (let both : signed_numeral y ∷ [] ≡ text ∷ more = e in let same : text ≡ signed_numeral y = cc in same)
rest_fails unique (weight_alone y) (weight_alone z) text more e none = (let both : signed_numeral y ∷ [] ≡ signed_numeral z ∷ text ∷ more = e in cc)
rest_fails unique (weight_alone y) (short_of m z es) text more e none = (let both : signed_numeral y ∷ [] ≡ signed_numeral z ∷ numeral (stated_size m es) ∷ (map numeral es ++ text ∷ more) = e in cc)
rest_fails unique (short_of k y ds) nothing text more e none = none y (let both : signed_numeral y ∷ numeral (stated_size k ds) ∷ map numeral ds ≡ text ∷ more = e in let same : text ≡ signed_numeral y = cc in same)
rest_fails unique (short_of k y ds) (weight_alone z) text more e none =
    none (stated_size k ds) (let both : signed_numeral y ∷ numeral (stated_size k ds) ∷ map numeral ds ≡ signed_numeral z ∷ text ∷ more = e in let same : text ≡ numeral (stated_size k ds) = cc in same)
rest_fails unique (short_of k y ds) (short_of m z es) text more e none =
    next_item numeral ds es text more
    (let both : signed_numeral y ∷ numeral (stated_size k ds) ∷ map numeral ds ≡ signed_numeral z ∷ numeral (stated_size m es) ∷ (map numeral es ++ text ∷ more) = e in
    let same : map numeral ds ≡ map numeral es ++ text ∷ more = cc in same) none

-- a whole group stands where a part of one does
whole_fails : NumeralIsUnique → (y : GroupWeight) (xrest : Remainder) (words : List (List ℕ)) (text : List ℕ) (more : List (List ℕ)) →
    signed_numeral y.weight ∷ numeral (length y.edges) ∷ (map numeral y.edges ++ words) ≡ remainder_words xrest ++ text ∷ more → IsNoWordAfter xrest text → ⊥
whole_fails unique y nothing words text more e none =
    none y.weight (let both : signed_numeral y.weight ∷ numeral (length y.edges) ∷ (map numeral y.edges ++ words) ≡ text ∷ more = e in let same : text ≡ signed_numeral y.weight = cc in same)
whole_fails unique y (weight_alone z) words text more e none =
    none (length y.edges) (let both : signed_numeral y.weight ∷ numeral (length y.edges) ∷ (map numeral y.edges ++ words) ≡ signed_numeral z ∷ text ∷ more = e in
    let same : text ≡ numeral (length y.edges) = cc in same)
whole_fails unique y (short_of m z es) words text more e none =
    let both : signed_numeral y.weight ∷ numeral (length y.edges) ∷ (map numeral y.edges ++ words) ≡ signed_numeral z ∷ numeral (stated_size m es) ∷ (map numeral es ++ text ∷ more) = e in
    let size : length y.edges ≡ stated_size m es = unique (length y.edges) (stated_size m es) (let same : numeral (length y.edges) ≡ numeral (stated_size m es) = cc in same) in
    next_field y.edges es words more text (omega (arith, size)) (let rest : map numeral y.edges ++ words ≡ map numeral es ++ text ∷ more = cc in rest) none

-- a part of a group stands where a whole one does
part_fails : NumeralIsUnique → (yrest : Remainder) (x : GroupWeight) (words : List (List ℕ)) →
    remainder_words yrest ≡ signed_numeral x.weight ∷ numeral (length x.edges) ∷ (map numeral x.edges ++ words) → ⊥
part_fails unique nothing x words e = (let both : [] ≡ signed_numeral x.weight ∷ numeral (length x.edges) ∷ (map numeral x.edges ++ words) = e in cc)
part_fails unique (weight_alone y) x words e = (let both : signed_numeral y ∷ [] ≡ signed_numeral x.weight ∷ numeral (length x.edges) ∷ (map numeral x.edges ++ words) = e in cc)
part_fails unique (short_of k y ds) x words e =
    let both : signed_numeral y ∷ numeral (stated_size k ds) ∷ map numeral ds ≡ signed_numeral x.weight ∷ numeral (length x.edges) ∷ (map numeral x.edges ++ words) = e in
    let size : stated_size k ds ≡ length x.edges = unique (stated_size k ds) (length x.edges) (let same : numeral (stated_size k ds) ≡ numeral (length x.edges) = cc in same) in
    let few = no_fewer x.edges ds words (let rest : map numeral x.edges ++ words ≡ map numeral ds = cc in rest) in
    omega (arith, size, few)

-- the words of a group before others
group_first : (w : GroupWeight) (groups : List GroupWeight) (rest : Remainder) →
    all_words (w ∷ groups) rest ≡ signed_numeral w.weight ∷ numeral (length w.edges) ∷ (map numeral w.edges ++ all_words groups rest)
group_first w groups rest = ap (λ (words : List (List ℕ)). signed_numeral w.weight ∷ numeral (length w.edges) ∷ words) (append_assoc (map numeral w.edges) (flat_map group_words groups) (remainder_words rest))

pub groups_fail : NumeralIsUnique → (ys : List GroupWeight) (yrest : Remainder) (xs : List GroupWeight) (xrest : Remainder) (text : List ℕ) (more : List (List ℕ)) →
    all_words ys yrest ≡ all_words xs xrest ++ text ∷ more → IsNoWordAfter xrest text → ⊥
groups_fail unique [] yrest [] xrest text more e none = rest_fails unique yrest xrest text more e none
groups_fail unique (y ∷ ys) yrest [] xrest text more e none = whole_fails unique y xrest (all_words ys yrest) text more (sym (group_first y ys yrest) ∙ e) none
groups_fail unique [] yrest (x ∷ xs) xrest text more e none =
    part_fails unique yrest x (all_words xs xrest ++ text ∷ more)
    (e ∙ ap (λ (words : List (List ℕ)). words ++ text ∷ more) (group_first x xs xrest)
    ∙ ap (λ (words : List (List ℕ)). signed_numeral x.weight ∷ numeral (length x.edges) ∷ words) (append_assoc (map numeral x.edges) (all_words xs xrest) (text ∷ more)))
groups_fail unique (y ∷ ys) yrest (x ∷ xs) xrest text more e none =
    let both : signed_numeral y.weight ∷ numeral (length y.edges) ∷ (map numeral y.edges ++ all_words ys yrest)
    ≡ signed_numeral x.weight ∷ numeral (length x.edges) ∷ (map numeral x.edges ++ (all_words xs xrest ++ text ∷ more)) =
    sym (group_first y ys yrest) ∙ e ∙ ap (λ (words : List (List ℕ)). words ++ text ∷ more) (group_first x xs xrest)
    ∙ ap (λ (words : List (List ℕ)). signed_numeral x.weight ∷ numeral (length x.edges) ∷ words) (append_assoc (map numeral x.edges) (all_words xs xrest) (text ∷ more)) in
    let size : length y.edges ≡ length x.edges = unique (length y.edges) (length x.edges) (let same : numeral (length y.edges) ≡ numeral (length x.edges) = cc in same) in
    groups_fail unique ys yrest xs xrest text more
    (behind_fields y.edges x.edges (all_words ys yrest) (all_words xs xrest ++ text ∷ more) size
    (let rest : map numeral y.edges ++ all_words ys yrest ≡ map numeral x.edges ++ (all_words xs xrest ++ text ∷ more) = cc in rest)) none
