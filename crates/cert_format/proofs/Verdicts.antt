-- Words that are no line, and what is made of whole lines.
use Rattle.std.proofs.Common.{◌≡◌, ℕ, ◌<◌, ◌≤◌, true, false, eqb, ◌||◌, List, [], ◌∷◌, ◌++◌, length, map, slice_index, Option, Some, None, refl, sym, ap, subst, ◌∙◌, inl, inr, arith, is_none}
use Rattle.std.specs.List.{flat_map}
use Rattle.std.specs.Option.{option_map}
use Rattle.std.proofs.lemmas.Bool.{eqb-true, or_cases}
use Rattle.std.proofs.lemmas.List.{append-nil, length-map}
use Rattle.branch_rules.specs.declared.weight.Weight.{Weight}
use Rattle.cert_lines.specs.Laws.{NumeralIsUnique}
use Rattle.cert_lines.specs.declared.next.Next.{Next}
use Rattle.cert_lines.specs.declared.next.Next.TheVariants as stands
use Rattle.cert_lines.specs.Lines as lines
use Rattle.cert_lines.specs.Lines.{Line, words_of, weight_words}
use Rattle.cert_lines.specs.Numerals.{numeral, signed_numeral}
use Rattle.cert_lines.specs.Order.{LatestFirst, next_of, follows}
use Rattle.cert_format.specs.declared.line.Context.{Context}
use Rattle.cert_format.specs.declared.line.Form.{Form}
use Rattle.cert_format.specs.declared.line.Form.TheVariants.{Start, Shapeless, Shaped}
use Rattle.cert_format.specs.declared.line.LineState.{LineState}
use Rattle.cert_format.specs.declared.kind.Kind.{Kind}
use Rattle.cert_format.specs.declared.kind.Kind.TheVariants.{Version, Counts, Cost, Bound, Tours, Tour, Shores, Shore, Sets, Prices, Weights, Bonds, Nodes, Pair, Cut, Price, Void, Fixed, End}
use Rattle.cert_format.specs.Kinds.{field_count, keyword}
use Rattle.cert_format.specs.LineStates.{IsShaped, HoldsLine, FormHolds, lesser}
use Rattle.cert_format.specs.Parts.{LineItems, no_items, item_words, waiting_words, part_words, IsHopeless}
use Rattle.cert_format.specs.Judging.{ends_well, IsLine}
use Rattle.cert_format.proofs.LineParts.{kind_in, numbers_in, items_in, words_are}
use Rattle.cert_format.proofs.Hopeless.{rest_of, behind_fields, no_items_words}
use Rattle.cert_format.proofs.Standing.{next_is}

some_words : (line : Line) → words_of line ≡ [] → ⊥
some_words line none = (let both : part_words (kind_in line) (numbers_in line) (items_in line) ≡ [] = sym (words_are line) ∙ none in cc)

hopeless_none : {next : Next} {words : List (List ℕ)} (said : LatestFirst) → IsHopeless next words → next ≡ next_of said → (line : Line) → IsLine said words line → ⊥
hopeless_none {next} {words} said h same line is =
    h.none line [] (subst (λ (n : Next). follows n line ≡ true) (sym same) is.follows) (is.spells ∙ sym (append-nil words))

form_none : (form : Form) (c : Context) (held : LineState) (words : List (List ℕ)) (said : LatestFirst) → ((kind : Kind) → form ≡ Shaped kind → ⊥) → FormHolds form c held words → c.next ≡ next_of said → (line : Line) → IsLine said words line → ⊥
form_none Start c held words said other h same line is = some_words line (is.spells ∙ h.0)
form_none Shapeless c held words said other h same line is = hopeless_none said h.1 same line is
form_none (Shaped kind) c held words said other h same line is = absurd (other kind refl)

-- no word has come, or none with which a line begins
pub no_line : (c : Context) (held : LineState) (words : List (List ℕ)) (said : LatestFirst) → ((kind : Kind) → held.form ≡ Shaped kind → ⊥) → HoldsLine c held words → c.next ≡ next_of said → (line : Line) → IsLine said words line → ⊥
no_line c held words said other h same line is = form_none held.form c held words said other h same line is

version_at : (line : Line) (n : ℕ) → NumeralIsUnique → follows stands.Version line ≡ true → words_of line ≡ keyword Version ∷ numeral n ∷ [] → (eqb n 1 || eqb n 2 || eqb n 4) ≡ true
version_at (lines.version m) n unique may spells = subst (λ (k : ℕ). (eqb k 1 || eqb k 2 || eqb k 4) ≡ true) (unique m n (let both : keyword Version ∷ numeral m ∷ [] ≡ keyword Version ∷ numeral n ∷ [] = spells in let e : numeral m ≡ numeral n = cc in e)) may
version_at _ n unique may spells = absurd (let both : false ≡ true = may in cc)

short_of : (a b : ℕ) → a ≤ b → (a ≡ b → ⊥) → a < b
short_of a b most other = omega (arith, most, other)

fewer : (ns ms : List ℕ) (a : List (List ℕ)) → map numeral ns ++ a ≡ map numeral ms → length ns ≤ length ms
fewer [] ms a e = omega arith
fewer (n ∷ ns) [] a e = absurd (let both : numeral n ∷ (map numeral ns ++ a) ≡ [] = e in cc)
fewer (n ∷ ns) (m ∷ ms) a e = (let rest = fewer ns ms a (let r : map numeral ns ++ a ≡ map numeral ms = cc in r) in omega (arith, rest))

-- not all numbers have come
pub short_line : {c : Context} {held : LineState} {words : List (List ℕ)} {kind : Kind} (said : LatestFirst) → (s : IsShaped c held words kind) → (length held.fields.items ≡ field_count kind → ⊥) → (line : Line) → IsLine said words line → ⊥
short_line {c} {held} {words} {kind} said s other line is =
    let long : length held.fields.items ≡ length s.numbers = ap length s.fields ∙ length-map s.numbers lesser in
    let few : length s.numbers < field_count kind = short_of (length s.numbers) (field_count kind) s.few (λ e. other (long ∙ e)) in
    let none : s.items ≡ no_items = s.early few in
    let rest = rest_of kind (map numeral s.numbers ++ item_words kind s.items) line (is.spells ∙ s.spelled) in
    let less = fewer rest.numbers s.numbers (item_words kind rest.items)
    (rest.words ∙ ap (λ (x : LineItems). map numeral s.numbers ++ item_words kind x) none ∙ ap (λ (x : List (List ℕ)). map numeral s.numbers ++ x) (no_items_words kind) ∙ append-nil (map numeral s.numbers)) in
    omega (arith, less, few, rest.count)

version_of : (line : Line) (next : Next) (n : ℕ) → NumeralIsUnique → next ≡ stands.Version → follows next line ≡ true → words_of line ≡ keyword Version ∷ numeral n ∷ [] → (eqb n 1 || eqb n 2 || eqb n 4) ≡ true
version_of line next n unique at may spells = version_at line n unique (subst (λ (k : Next). follows k line ≡ true) at may) spells

no_pair : (ys xs : List Weight) (n : ℕ) → flat_map weight_words ys ≡ flat_map weight_words xs ++ numeral n ∷ [] → ⊥
no_pair [] [] n e = (let both : [] ≡ numeral n ∷ [] = e in cc)
no_pair [] (x ∷ xs) n e = (let both : [] ≡ numeral x.shore ∷ signed_numeral x.weight ∷ (flat_map weight_words xs ++ numeral n ∷ []) = e in cc)
no_pair (y ∷ ys) [] n e = (let both : numeral y.shore ∷ signed_numeral y.weight ∷ flat_map weight_words ys ≡ numeral n ∷ [] = e in cc)
no_pair (y ∷ ys) (x ∷ xs) n e =
    no_pair ys xs n (let both : numeral y.shore ∷ signed_numeral y.weight ∷ flat_map weight_words ys ≡ numeral x.shore ∷ signed_numeral x.weight ∷ (flat_map weight_words xs ++ numeral n ∷ []) = e in
    let rest : flat_map weight_words ys ≡ flat_map weight_words xs ++ numeral n ∷ [] = cc in rest)

some_waits : (x : Option ℕ) (held : Option ℕ) → held ≡ option_map lesser x → is_none held ≡ false → (n : ℕ) × (x ≡ Some n)
some_waits None held same other = absurd (let both : true ≡ false = sym (ap is_none same) ∙ other in cc)
some_waits (Some n) held same other = (n, refl)

weights_odd : {c : Context} {held : LineState} {words : List (List ℕ)} (said : LatestFirst) → (s : IsShaped c held words Weights) → length s.numbers ≡ 1 → is_none held.waiting ≡ false → (line : Line) → IsLine said words line → ⊥
weights_odd {c} {held} {words} said s count other line is =
    let h = s.held count in
    let waits = some_waits s.items.waiting held.waiting h.1 other in
    let rest = rest_of Weights (map numeral s.numbers ++ item_words Weights s.items) line (is.spells ∙ s.spelled) in
    let items = behind_fields rest.numbers s.numbers (item_words Weights rest.items) (item_words Weights s.items) (rest.count ∙ sym count) rest.words in
    no_pair rest.items.weights s.items.weights waits.0
    (sym (append-nil (flat_map weight_words rest.items.weights)) ∙ ap (λ (x : Option ℕ). flat_map weight_words rest.items.weights ++ waiting_words x) (sym rest.waits)
    ∙ items ∙ ap (λ (x : Option ℕ). flat_map weight_words s.items.weights ++ waiting_words x) waits.1)

one_number : (numbers : List ℕ) → length numbers ≡ 1 → numbers ≡ slice_index numbers 0 ∷ []
one_number [] one = absurd (omega (arith, one))
one_number (n ∷ []) one = refl
one_number (n ∷ m ∷ ns) one = absurd (omega (arith, one))

version_told : (n : ℕ) → (eqb n 1 || eqb n 2 || eqb n 4) ≡ true → (eqb (lesser n) 1 || eqb (lesser n) 2 || eqb (lesser n) 4) ≡ true
version_told n holds =
    let small : n ≤ 4 = elim (or_cases (eqb n 1 || eqb n 2) (eqb n 4) holds) [
      | inl two ↦ elim (or_cases (eqb n 1) (eqb n 2) two) [ inl one ↦ (let e = eqb-true n 1 one in omega (arith, e)) | inr two ↦ (let e = eqb-true n 2 two in omega (arith, e)) ]
      | inr four ↦ (let e = eqb-true n 4 four in omega (arith, e))
    ] in
    subst (λ (k : ℕ). (eqb k 1 || eqb k 2 || eqb k 4) ≡ true) (let e : n ≡ lesser n = omega (arith, small) in e) holds

version_odd : {c : Context} {held : LineState} {words : List (List ℕ)} (said : LatestFirst) → NumeralIsUnique → (s : IsShaped c held words Version) → c.next ≡ next_of said → length s.numbers ≡ 1 → (eqb (slice_index held.fields.items 0) 1 || eqb (slice_index held.fields.items 0) 2 || eqb (slice_index held.fields.items 0) 4) ≡ false → (line : Line) → IsLine said words line → ⊥
version_odd {c} {held} {words} said unique s same count other line is =
    let n : ℕ = slice_index s.numbers 0 in
    let single : s.numbers ≡ n ∷ [] = one_number s.numbers count in
    let spells : words_of line ≡ keyword Version ∷ numeral n ∷ [] = is.spells ∙ s.spelled ∙ ap (λ (x : List ℕ). keyword Version ∷ (map numeral x ++ [])) single in
    let holds = version_told n (version_of line (next_of said) n unique (sym same ∙ next_is c.next Version s.expected) is.follows spells) in
    let first : slice_index held.fields.items 0 ≡ lesser n = ap (λ (f : List ℕ). slice_index f 0) (s.fields ∙ ap (map lesser) single) in
    let both : false ≡ true = sym other ∙ ap (λ (k : ℕ). eqb k 1 || eqb k 2 || eqb k 4) first ∙ holds in
    absurd (let e : false ≡ true = both in cc)

-- the line ends with a weight to come, or there is no such version
pub odd_line : {c : Context} {held : LineState} {words : List (List ℕ)} (kind : Kind) (said : LatestFirst) → NumeralIsUnique → IsShaped c held words kind → c.next ≡ next_of said → length held.fields.items ≡ field_count kind → ends_well kind held ≡ false → (line : Line) → IsLine said words line → ⊥
odd_line {c} {held} {words} Version said unique s same all other line is = version_odd said unique s same (sym (length-map s.numbers lesser) ∙ ap length (sym s.fields) ∙ all) other line is
odd_line {c} {held} {words} Counts said unique s same all other line is = (let both : true ≡ false = other in cc)
odd_line {c} {held} {words} Cost said unique s same all other line is = (let both : true ≡ false = other in cc)
odd_line {c} {held} {words} Bound said unique s same all other line is = (let both : true ≡ false = other in cc)
odd_line {c} {held} {words} Tours said unique s same all other line is = (let both : true ≡ false = other in cc)
odd_line {c} {held} {words} Tour said unique s same all other line is = (let both : true ≡ false = other in cc)
odd_line {c} {held} {words} Shores said unique s same all other line is = (let both : true ≡ false = other in cc)
odd_line {c} {held} {words} Shore said unique s same all other line is = (let both : true ≡ false = other in cc)
odd_line {c} {held} {words} Sets said unique s same all other line is = (let both : true ≡ false = other in cc)
odd_line {c} {held} {words} Prices said unique s same all other line is = (let both : true ≡ false = other in cc)
odd_line {c} {held} {words} Weights said unique s same all other line is = weights_odd said s (sym (length-map s.numbers lesser) ∙ ap length (sym s.fields) ∙ all) other line is
odd_line {c} {held} {words} Bonds said unique s same all other line is = (let both : true ≡ false = other in cc)
odd_line {c} {held} {words} Nodes said unique s same all other line is = (let both : true ≡ false = other in cc)
odd_line {c} {held} {words} Pair said unique s same all other line is = (let both : true ≡ false = other in cc)
odd_line {c} {held} {words} Cut said unique s same all other line is = (let both : true ≡ false = other in cc)
odd_line {c} {held} {words} Price said unique s same all other line is = (let both : true ≡ false = other in cc)
odd_line {c} {held} {words} Void said unique s same all other line is = (let both : true ≡ false = other in cc)
odd_line {c} {held} {words} Fixed said unique s same all other line is = (let both : true ≡ false = other in cc)
odd_line {c} {held} {words} End said unique s same all other line is = (let both : true ≡ false = other in cc)
