-- Words with which no line begins that may stand there.
use Rattle.std.proofs.Common.{◌≡◌, ℕ, ◌<◌, List, [], ◌∷◌, ◌++◌, length, map, None, refl, sym, ap, ◌∙◌, append_assoc, arith}
use Rattle.std.specs.List.{flat_map}
use Rattle.std.proofs.lemmas.List.{append-nil}
use Rattle.branch_rules.specs.declared.weight.Weight.{Weight}
use Rattle.cert_lines.specs.declared.next.Next.{Next}
use Rattle.cert_lines.specs.Numerals.{numeral, signed_numeral}
use Rattle.cert_lines.specs.Lines.{Line, weight_words, words_of}
use Rattle.cert_lines.specs.Numbers.{IsNoNatural, IsNoWhole}
use Rattle.cert_format.specs.declared.kind.Kind.{Kind}
use Rattle.cert_format.specs.declared.kind.Kind.TheVariants.{Version, Counts, Cost, Bound, Tours, Tour, Shores, Shore, Sets, Prices, Weights, Bonds, Nodes, Pair, Cut, Price, Void, Fixed, End}
use Rattle.cert_format.specs.Kinds.{expected, field_count, keyword, IsOfNoKind}
use Rattle.cert_format.specs.Parts.{LineItems, no_items, item_words, part_words, IsHopeless}
use Rattle.cert_format.proofs.LineParts.{kind_in, numbers_in, items_in, none_waits, words_are, count_is, follows_kind, same_kind, none_of}

pub still_hopeless : {next : Next} {words : List (List ℕ)} (text : List ℕ) → IsHopeless next words → IsHopeless next (words ++ text ∷ [])
still_hopeless {next} {words} text h = record { none = λ line more may e. h.none line (text ∷ more) may (e ∙ append_assoc words (text ∷ []) more) }

pub first_hopeless : (next : Next) (text : List ℕ) → IsOfNoKind next text → IsHopeless next (text ∷ [])
first_hopeless next text none = record {
  none = λ line more may e.
      (let words : part_words (kind_in line) (numbers_in line) (items_in line) ≡ text ∷ more = sym (words_are line) ∙ e in
      none_of (expected next) (kind_in line) text none (follows_kind next line may) (let same : text ≡ keyword (kind_in line) = cc in same));
}

-- what a line of a kind says behind its first word
pub record IsRest (kind : Kind) (rest : List (List ℕ)) : Type 0 where
  pub numbers : List ℕ
  pub items : LineItems
  pub waits : items.waiting ≡ None
  pub count : length numbers ≡ field_count kind
  pub words : map numeral numbers ++ item_words kind items ≡ rest

-- rest of a line that begins with the first word of a kind
pub rest_of : (kind : Kind) (rest : List (List ℕ)) (line : Line) → words_of line ≡ keyword kind ∷ rest → IsRest kind rest
rest_of kind rest line e =
    let parts : part_words (kind_in line) (numbers_in line) (items_in line) ≡ keyword kind ∷ rest = sym (words_are line) ∙ e in
    let is : kind_in line ≡ kind = same_kind (kind_in line) kind (let same : keyword (kind_in line) ≡ keyword kind = cc in same) in
    let words : map numeral (numbers_in line) ++ item_words (kind_in line) (items_in line) ≡ rest = cc in
    record {
      numbers = numbers_in line;
      items = items_in line;
      waits = none_waits line;
      count = count_is line ∙ ap field_count is;
      words = ap (λ (k : Kind). map numeral (numbers_in line) ++ item_words k (items_in line)) (sym is) ∙ words;
    }

-- no line goes on so
pub hopeless_by_rest : {next : Next} (kind : Kind) (rest : List (List ℕ)) → ((more : List (List ℕ)) → IsRest kind (rest ++ more) → ⊥) → IsHopeless next (keyword kind ∷ rest)
hopeless_by_rest {next} kind rest no_more = record { none = λ line more may e. no_more more (rest_of kind (rest ++ more) line e) }

-- the word behind the first of more numbers is a number
pub next_field : (ns ms : List ℕ) (a b : List (List ℕ)) (text : List ℕ) → length ms < length ns → map numeral ns ++ a ≡ map numeral ms ++ text ∷ b → IsNoNatural text → ⊥
next_field [] ms a b text fewer e none = omega (arith, fewer)
next_field (n ∷ ns) [] a b text fewer e none = none n (let same : text ≡ numeral n = cc in same)
next_field (n ∷ ns) (m ∷ ms) a b text fewer e none = next_field ns ms a b text (omega (arith, fewer)) (let same : map numeral ns ++ a ≡ map numeral ms ++ text ∷ b = cc in same) none

pub behind_fields : (ns ms : List ℕ) (a b : List (List ℕ)) → length ns ≡ length ms → map numeral ns ++ a ≡ map numeral ms ++ b → a ≡ b
behind_fields [] [] a b same e = e
behind_fields [] (m ∷ ms) a b same e = absurd (omega (arith, same))
behind_fields (n ∷ ns) [] a b same e = absurd (omega (arith, same))
behind_fields (n ∷ ns) (m ∷ ms) a b same e = behind_fields ns ms a b (omega (arith, same)) (let rest : map numeral ns ++ a ≡ map numeral ms ++ b = cc in rest)

pub no_items_words : (kind : Kind) → item_words kind no_items ≡ []
no_items_words Version = refl
no_items_words Counts = refl
no_items_words Cost = refl
no_items_words Bound = refl
no_items_words Tours = refl
no_items_words Tour = refl
no_items_words Shores = refl
no_items_words Shore = refl
no_items_words Sets = refl
no_items_words Prices = refl
no_items_words Weights = refl
no_items_words Bonds = refl
no_items_words Nodes = refl
no_items_words Pair = refl
no_items_words Cut = refl
no_items_words Price = refl
no_items_words Void = refl
no_items_words Fixed = refl
no_items_words End = refl

-- a word that is no number stands for a number behind the first word
pub field_hopeless : {next : Next} (kind : Kind) (numbers : List ℕ) (text : List ℕ) → length numbers < field_count kind → IsNoNatural text → IsHopeless next (part_words kind numbers no_items ++ text ∷ [])
field_hopeless {next} kind numbers text fewer none =
    hopeless_by_rest kind ((map numeral numbers ++ item_words kind no_items) ++ text ∷ []) (λ more rest.
    next_field rest.numbers numbers (item_words kind rest.items) more text (omega (arith, fewer, rest.count))
    (rest.words ∙ append_assoc (map numeral numbers ++ item_words kind no_items) (text ∷ []) more
    ∙ ap (λ (x : List (List ℕ)). (map numeral numbers ++ x) ++ text ∷ more) (no_items_words kind)
    ∙ ap (λ (x : List (List ℕ)). x ++ text ∷ more) (append-nil (map numeral numbers)))
    none)

-- a word that can stand at the place of no item
pub item_hopeless : {next : Next} (kind : Kind) (numbers : List ℕ) (x : LineItems) (text : List ℕ) → length numbers ≡ field_count kind →
    ((y : LineItems) (more : List (List ℕ)) → y.waiting ≡ None → item_words kind y ≡ item_words kind x ++ text ∷ more → ⊥) → IsHopeless next (part_words kind numbers x ++ text ∷ [])
item_hopeless {next} kind numbers x text all none =
    hopeless_by_rest kind ((map numeral numbers ++ item_words kind x) ++ text ∷ []) (λ more rest.
    none rest.items more rest.waits (behind_fields rest.numbers numbers (item_words kind rest.items) (item_words kind x ++ text ∷ more) (rest.count ∙ sym all)
    (rest.words ∙ append_assoc (map numeral numbers ++ item_words kind x) (text ∷ []) more ∙ append_assoc (map numeral numbers) (item_words kind x) (text ∷ more))))

-- an item stands there
pub next_item : {T : Type 0} (f : T → List ℕ) (ys xs : List T) (text : List ℕ) (more : List (List ℕ)) → map f ys ≡ map f xs ++ text ∷ more → ((y : T) → text ≡ f y → ⊥) → ⊥
next_item {T} f [] [] text more e none = (let both : [] ≡ text ∷ more = e in cc)
next_item {T} f [] (x ∷ xs) text more e none = (let both : [] ≡ f x ∷ (map f xs ++ text ∷ more) = e in cc)
next_item {T} f (y ∷ ys) [] text more e none = none y (let same : text ≡ f y = cc in same)
next_item {T} f (y ∷ ys) (x ∷ xs) text more e none = next_item f ys xs text more (let same : map f ys ≡ map f xs ++ text ∷ more = cc in same) none

-- the number of a shore stands there
pub next_shore : (ys xs : List Weight) (text : List ℕ) (more : List (List ℕ)) → flat_map weight_words ys ≡ flat_map weight_words xs ++ text ∷ more → IsNoNatural text → ⊥
next_shore [] [] text more e none = (let both : [] ≡ text ∷ more = e in cc)
next_shore [] (x ∷ xs) text more e none = (let both : [] ≡ numeral x.shore ∷ signed_numeral x.weight ∷ (flat_map weight_words xs ++ text ∷ more) = e in cc)
next_shore (y ∷ ys) [] text more e none = none y.shore (let both : numeral y.shore ∷ signed_numeral y.weight ∷ flat_map weight_words ys ≡ text ∷ more = e in let same : text ≡ numeral y.shore = cc in same)
next_shore (y ∷ ys) (x ∷ xs) text more e none =
    next_shore ys xs text more (let both : numeral y.shore ∷ signed_numeral y.weight ∷ flat_map weight_words ys ≡ numeral x.shore ∷ signed_numeral x.weight ∷ (flat_map weight_words xs ++ text ∷ more) = e in
    let same : flat_map weight_words ys ≡ flat_map weight_words xs ++ text ∷ more = cc in same) none

-- a weight stands there
pub next_weight : (ys xs : List Weight) (n : ℕ) (text : List ℕ) (more : List (List ℕ)) → flat_map weight_words ys ≡ flat_map weight_words xs ++ numeral n ∷ text ∷ more → IsNoWhole text → ⊥
next_weight [] [] n text more e none = (let both : [] ≡ numeral n ∷ text ∷ more = e in cc)
next_weight [] (x ∷ xs) n text more e none = (let both : [] ≡ numeral x.shore ∷ signed_numeral x.weight ∷ (flat_map weight_words xs ++ numeral n ∷ text ∷ more) = e in cc)
next_weight (y ∷ ys) [] n text more e none = none y.weight (let both : numeral y.shore ∷ signed_numeral y.weight ∷ flat_map weight_words ys ≡ numeral n ∷ text ∷ more = e in let same : text ≡ signed_numeral y.weight = cc in same)
next_weight (y ∷ ys) (x ∷ xs) n text more e none =
    next_weight ys xs n text more (let both : numeral y.shore ∷ signed_numeral y.weight ∷ flat_map weight_words ys ≡ numeral x.shore ∷ signed_numeral x.weight ∷ (flat_map weight_words xs ++ numeral n ∷ text ∷ more) = e in
    let same : flat_map weight_words ys ≡ flat_map weight_words xs ++ numeral n ∷ text ∷ more = cc in same) none
