-- Lines of which all words have come.
use Rattle.std.proofs.Common.{◌≡◌, ℕ, ◌≤◌, Bool, true, false, not, eqb, ◌&&◌, ◌||◌, List, [], ◌∷◌, ◌++◌, length, map, slice_index, Option, Some, None, refl, sym, ap, subst, ◌∙◌, inl, inr, arith, is_none}
use Rattle.std.specs.List.{flat_map, list_all}
use Rattle.std.specs.Option.{option_map}
use Rattle.std.proofs.lemmas.Bool.{and_parts, and_from, or_cases, eqb-true, eq-eqb, ltb-false, le-ltb, not-true, cases_Bool}
use Rattle.std.proofs.lemmas.List.{append-nil, take_all, length-map}
use Rattle.cert_lines.specs.declared.next.Next.{Next}
use Rattle.branch_rules.specs.Bonds.{GroupWeight}
use Rattle.cert_lines.specs.Lines.{Remainder, nothing, weight_alone, short_of, words_of, weight_words}
use Rattle.cert_lines.specs.Numerals.{numeral}
use Rattle.cert_lines.specs.Order.{LatestFirst, next_of, follows}
use Rattle.cert_lines.specs.Ranges.{IsInRange}
use Rattle.cert_lines.specs.Agreement.{Agrees, AreGroups}
use Rattle.cert_format.specs.declared.items.Items.{Items}
use Rattle.cert_format.specs.declared.line.Context.{Context}
use Rattle.cert_format.specs.declared.line.LineState.{LineState}
use Rattle.cert_format.specs.declared.kind.Kind.{Kind}
use Rattle.cert_format.specs.declared.kind.Kind.TheVariants.{Version, Counts, Cost, Bound, Tours, Tour, Shores, Shore, Sets, Prices, Weights, Bonds, Nodes, Pair, Cut, Price, Void, Fixed, End}
use Rattle.cert_format.specs.Kinds.{expected, field_count, keyword, IsOneOf, next_for}
use Rattle.cert_format.specs.Lists.{HoldsList, fields_ok, items_ok}
use Rattle.cert_format.specs.LineStates.{IsShaped, HoldsItems, lesser}
use Rattle.cert_format.specs.Parts.{LineItems, part_words, waiting_words, line_with}
use Rattle.cert_format.specs.Groups.{Awaits, KnowsGroups, groups_ok}
use Rattle.cert_format.specs.declared.groups.Awaited.{Awaited}
use Rattle.cert_format.specs.declared.groups.Awaited.TheVariants as awaited
use Rattle.cert_format.specs.Judging.{ends_well, list_in_range, has_stated, awaits_weight, are_stated, IsLine}
use Rattle.cert_format.specs.Readiness.{AreKept, IsReady}
use Rattle.cert_format.proofs.Ranges.{IsContext, ranges_hold, ranges_need}
use Rattle.cert_format.proofs.Standing.{next_is}

-- Numbers in range are told as they are.

numbers_two : (a b n m : ℕ) → a ≡ n → b ≡ m → a ∷ b ∷ [] ≡ n ∷ m ∷ []
numbers_two a b n m p q = cc

numbers_five : (a b c d e n m p q r : ℕ) → a ≡ n → b ≡ m → c ≡ p → d ≡ q → e ≡ r → a ∷ b ∷ c ∷ d ∷ e ∷ [] ≡ n ∷ m ∷ p ∷ q ∷ r ∷ []
numbers_five a b c d e n m p q r f g h i j = cc

exact : (kind : Kind) (said : LatestFirst) (c : Context) (x : LineItems) (numbers : List ℕ) → IsContext c said → length numbers ≡ field_count kind → IsInRange said (line_with kind numbers x) → (kind ≡ Version → slice_index numbers 0 ≤ 4) → map lesser numbers ≡ numbers
exact Version said c x [] is count h version = absurd (omega (arith, count))
exact Version said c x (n ∷ []) is count h version = ap (λ (k : ℕ). k ∷ []) (let e : lesser n ≡ n = omega (arith, version refl) in e)
exact Version said c x (n ∷ z ∷ zs) is count h version = absurd (omega (arith, count))
exact Counts said c x [] is count h version = absurd (omega (arith, count))
exact Counts said c x (n ∷ []) is count h version = absurd (omega (arith, count))
exact Counts said c x (n ∷ m ∷ []) is count h version = absurd (omega (arith, count))
exact Counts said c x (n ∷ m ∷ p ∷ []) is count h version = absurd (omega (arith, count))
exact Counts said c x (n ∷ m ∷ p ∷ q ∷ []) is count h version = absurd (omega (arith, count))
exact Counts said c x (n ∷ m ∷ p ∷ q ∷ r ∷ []) is count h version = numbers_five (lesser n) (lesser m) (lesser p) (lesser q) (lesser r) n m p q r (omega (arith, h.vertices.to_last)) (omega (arith, h.edges)) (omega (arith, h.required)) (omega (arith, h.capacity.to_last)) (omega (arith, h.demand))
exact Counts said c x (n ∷ m ∷ p ∷ q ∷ r ∷ z ∷ zs) is count h version = absurd (omega (arith, count))
exact Cost said c x [] is count h version = absurd (omega (arith, count))
exact Cost said c x (n ∷ []) is count h version = ap (λ (k : ℕ). k ∷ []) (let e : lesser n ≡ n = omega (arith, h) in e)
exact Cost said c x (n ∷ z ∷ zs) is count h version = absurd (omega (arith, count))
exact Bound said c x [] is count h version = absurd (omega (arith, count))
exact Bound said c x (n ∷ []) is count h version = ap (λ (k : ℕ). k ∷ []) (let e : lesser n ≡ n = omega (arith, h) in e)
exact Bound said c x (n ∷ z ∷ zs) is count h version = absurd (omega (arith, count))
exact Tours said c x [] is count h version = absurd (omega (arith, count))
exact Tours said c x (n ∷ []) is count h version = ap (λ (k : ℕ). k ∷ []) (let e : lesser n ≡ n = omega (arith, h) in e)
exact Tours said c x (n ∷ z ∷ zs) is count h version = absurd (omega (arith, count))
exact Tour said c x [] is count h version = absurd (omega (arith, count))
exact Tour said c x (n ∷ []) is count h version = ap (λ (k : ℕ). k ∷ []) (let e : lesser n ≡ n = omega (arith, h.0) in e)
exact Tour said c x (n ∷ z ∷ zs) is count h version = absurd (omega (arith, count))
exact Shores said c x [] is count h version = absurd (omega (arith, count))
exact Shores said c x (n ∷ []) is count h version = ap (λ (k : ℕ). k ∷ []) (let e : lesser n ≡ n = omega (arith, h) in e)
exact Shores said c x (n ∷ z ∷ zs) is count h version = absurd (omega (arith, count))
exact Shore said c x [] is count h version = absurd (omega (arith, count))
exact Shore said c x (n ∷ []) is count h version = ap (λ (k : ℕ). k ∷ []) (let e : lesser n ≡ n = omega (arith, h.0.to_last) in e)
exact Shore said c x (n ∷ z ∷ zs) is count h version = absurd (omega (arith, count))
exact Sets said c x [] is count h version = absurd (omega (arith, count))
exact Sets said c x (n ∷ []) is count h version = ap (λ (k : ℕ). k ∷ []) (let e : lesser n ≡ n = omega (arith, h) in e)
exact Sets said c x (n ∷ z ∷ zs) is count h version = absurd (omega (arith, count))
exact Prices said c x [] is count h version = absurd (omega (arith, count))
exact Prices said c x (n ∷ []) is count h version = absurd (omega (arith, count))
exact Prices said c x (n ∷ m ∷ []) is count h version = numbers_two (lesser n) (lesser m) n m (omega (arith, h.0.to_last)) (omega (arith, h.1))
exact Prices said c x (n ∷ m ∷ z ∷ zs) is count h version = absurd (omega (arith, count))
exact Weights said c x [] is count h version = absurd (omega (arith, count))
exact Weights said c x (n ∷ []) is count h version = ap (λ (k : ℕ). k ∷ []) (let e : lesser n ≡ n = omega (arith, h.0, is.shores, is.few_shores) in e)
exact Weights said c x (n ∷ z ∷ zs) is count h version = absurd (omega (arith, count))
exact Bonds said c x [] is count h version = absurd (omega (arith, count))
exact Bonds said c x (n ∷ []) is count h version = ap (λ (k : ℕ). k ∷ []) (let e : lesser n ≡ n = omega (arith, h.few) in e)
exact Bonds said c x (n ∷ z ∷ zs) is count h version = absurd (omega (arith, count))
exact Nodes said c x [] is count h version = absurd (omega (arith, count))
exact Nodes said c x (n ∷ []) is count h version = ap (λ (k : ℕ). k ∷ []) (let e : lesser n ≡ n = omega (arith, h.to_last) in e)
exact Nodes said c x (n ∷ z ∷ zs) is count h version = absurd (omega (arith, count))
exact Pair said c x [] is count h version = absurd (omega (arith, count))
exact Pair said c x (n ∷ []) is count h version = absurd (omega (arith, count))
exact Pair said c x (n ∷ m ∷ []) is count h version = numbers_two (lesser n) (lesser m) n m (omega (arith, h.0.to_last)) (omega (arith, h.1.to_last))
exact Pair said c x (n ∷ m ∷ z ∷ zs) is count h version = absurd (omega (arith, count))
exact Cut said c x [] is count h version = absurd (omega (arith, count))
exact Cut said c x (n ∷ []) is count h version = absurd (omega (arith, count))
exact Cut said c x (n ∷ m ∷ []) is count h version = numbers_two (lesser n) (lesser m) n m (omega (arith, h.0.to_last, is.shores, is.few_shores)) (omega (arith, h.1))
exact Cut said c x (n ∷ m ∷ z ∷ zs) is count h version = absurd (omega (arith, count))
exact Price said c x [] is count h version = absurd (omega (arith, count))
exact Price said c x (n ∷ []) is count h version = ap (λ (k : ℕ). k ∷ []) (let e : lesser n ≡ n = omega (arith, h.to_last, is.sets, is.few_sets) in e)
exact Price said c x (n ∷ z ∷ zs) is count h version = absurd (omega (arith, count))
exact Void said c x [] is count h version = refl
exact Void said c x (z ∷ zs) is count h version = absurd (omega (arith, count))
exact Fixed said c x [] is count h version = refl
exact Fixed said c x (z ∷ zs) is count h version = absurd (omega (arith, count))
exact End said c x [] is count h version = refl
exact End said c x (z ∷ zs) is count h version = absurd (omega (arith, count))

-- A line of its parts.

may_follow : (kind : Kind) (next : Next) (numbers : List ℕ) (x : LineItems) → (kind ≡ Version → (eqb (slice_index numbers 0) 1 || eqb (slice_index numbers 0) 2 || eqb (slice_index numbers 0) 4) ≡ true) → follows (next_for kind next) (line_with kind numbers x) ≡ true
may_follow Version next numbers x version = version refl
may_follow Counts next numbers x version = refl
may_follow Cost next numbers x version = refl
may_follow Bound next numbers x version = refl
may_follow Tours next numbers x version = refl
may_follow Tour next numbers x version = refl
may_follow Shores next numbers x version = refl
may_follow Shore next numbers x version = refl
may_follow Sets next numbers x version = refl
may_follow Prices next numbers x version = refl
may_follow Weights next numbers x version = refl
may_follow Bonds next numbers x version = refl
may_follow Nodes next numbers x version = refl
may_follow Pair next numbers x version = refl
may_follow Cut next numbers x version = refl
may_follow Price next numbers x version = refl
may_follow Void next numbers x version = refl
may_follow Fixed next numbers x version = refl
may_follow End next numbers x version = refl

pub follows_with : (kind : Kind) (next : Next) (numbers : List ℕ) (x : LineItems) → IsOneOf (expected next) kind → (kind ≡ Version → (eqb (slice_index numbers 0) 1 || eqb (slice_index numbers 0) 2 || eqb (slice_index numbers 0) 4) ≡ true) → follows next (line_with kind numbers x) ≡ true
follows_with kind next numbers x one version = subst (λ (k : Next). follows k (line_with kind numbers x) ≡ true) (sym (next_is next kind one)) (may_follow kind next numbers x version)

pub words_with : (kind : Kind) (x : LineItems) (numbers : List ℕ) → length numbers ≡ field_count kind → (kind ≡ Weights → x.waiting ≡ None) → words_of (line_with kind numbers x) ≡ part_words kind numbers x
words_with Version x [] count waits = absurd (omega (arith, count))
words_with Version x (n ∷ []) count waits = refl
words_with Version x (n ∷ z ∷ zs) count waits = absurd (omega (arith, count))
words_with Counts x [] count waits = absurd (omega (arith, count))
words_with Counts x (n ∷ []) count waits = absurd (omega (arith, count))
words_with Counts x (n ∷ m ∷ []) count waits = absurd (omega (arith, count))
words_with Counts x (n ∷ m ∷ p ∷ []) count waits = absurd (omega (arith, count))
words_with Counts x (n ∷ m ∷ p ∷ q ∷ []) count waits = absurd (omega (arith, count))
words_with Counts x (n ∷ m ∷ p ∷ q ∷ r ∷ []) count waits = refl
words_with Counts x (n ∷ m ∷ p ∷ q ∷ r ∷ z ∷ zs) count waits = absurd (omega (arith, count))
words_with Cost x [] count waits = absurd (omega (arith, count))
words_with Cost x (n ∷ []) count waits = refl
words_with Cost x (n ∷ z ∷ zs) count waits = absurd (omega (arith, count))
words_with Bound x [] count waits = absurd (omega (arith, count))
words_with Bound x (n ∷ []) count waits = refl
words_with Bound x (n ∷ z ∷ zs) count waits = absurd (omega (arith, count))
words_with Tours x [] count waits = absurd (omega (arith, count))
words_with Tours x (n ∷ []) count waits = refl
words_with Tours x (n ∷ z ∷ zs) count waits = absurd (omega (arith, count))
words_with Tour x [] count waits = absurd (omega (arith, count))
words_with Tour x (n ∷ []) count waits = refl
words_with Tour x (n ∷ z ∷ zs) count waits = absurd (omega (arith, count))
words_with Shores x [] count waits = absurd (omega (arith, count))
words_with Shores x (n ∷ []) count waits = refl
words_with Shores x (n ∷ z ∷ zs) count waits = absurd (omega (arith, count))
words_with Shore x [] count waits = absurd (omega (arith, count))
words_with Shore x (n ∷ []) count waits = refl
words_with Shore x (n ∷ z ∷ zs) count waits = absurd (omega (arith, count))
words_with Sets x [] count waits = absurd (omega (arith, count))
words_with Sets x (n ∷ []) count waits = refl
words_with Sets x (n ∷ z ∷ zs) count waits = absurd (omega (arith, count))
words_with Prices x [] count waits = absurd (omega (arith, count))
words_with Prices x (n ∷ []) count waits = absurd (omega (arith, count))
words_with Prices x (n ∷ m ∷ []) count waits = refl
words_with Prices x (n ∷ m ∷ z ∷ zs) count waits = absurd (omega (arith, count))
words_with Weights x [] count waits = absurd (omega (arith, count))
words_with Weights x (n ∷ []) count waits = ap (λ (w : List (List ℕ)). keyword Weights ∷ numeral n ∷ w) (sym (append-nil (flat_map weight_words x.weights)) ∙ ap (λ (w : Option ℕ). flat_map weight_words x.weights ++ waiting_words w) (sym (waits refl)))
words_with Weights x (n ∷ z ∷ zs) count waits = absurd (omega (arith, count))
words_with Bonds x [] count waits = absurd (omega (arith, count))
words_with Bonds x (n ∷ []) count waits = refl
words_with Bonds x (n ∷ z ∷ zs) count waits = absurd (omega (arith, count))
words_with Nodes x [] count waits = absurd (omega (arith, count))
words_with Nodes x (n ∷ []) count waits = refl
words_with Nodes x (n ∷ z ∷ zs) count waits = absurd (omega (arith, count))
words_with Pair x [] count waits = absurd (omega (arith, count))
words_with Pair x (n ∷ []) count waits = absurd (omega (arith, count))
words_with Pair x (n ∷ m ∷ []) count waits = refl
words_with Pair x (n ∷ m ∷ z ∷ zs) count waits = absurd (omega (arith, count))
words_with Cut x [] count waits = absurd (omega (arith, count))
words_with Cut x (n ∷ []) count waits = absurd (omega (arith, count))
words_with Cut x (n ∷ m ∷ []) count waits = refl
words_with Cut x (n ∷ m ∷ z ∷ zs) count waits = absurd (omega (arith, count))
words_with Price x [] count waits = absurd (omega (arith, count))
words_with Price x (n ∷ []) count waits = refl
words_with Price x (n ∷ z ∷ zs) count waits = absurd (omega (arith, count))
words_with Void x [] count waits = refl
words_with Void x (z ∷ zs) count waits = absurd (omega (arith, count))
words_with Fixed x [] count waits = refl
words_with Fixed x (z ∷ zs) count waits = absurd (omega (arith, count))
words_with End x [] count waits = refl
words_with End x (z ∷ zs) count waits = absurd (omega (arith, count))

-- Items as many as are stated.

pub list_stated : {T : Type 0} {items : Items T} {stated : ℕ} {head : Bool} {ok : T → Bool} {xs : List T} → HoldsList items stated head ok xs → items.in_range ≡ true → are_stated items ≡ true → (items.kept.items ≡ xs) × (length xs ≡ stated)
list_stated {T} {items} {stated} {head} {ok} {xs} h in_range enough =
    let parts = and_parts (not items.more) (eqb items.found items.stated) enough in
    let few : length xs ≤ stated = ltb-false stated (length xs) (sym h.more ∙ not-true items.more parts.0) in
    let same = eqb-true items.found items.stated parts.1 in
    (h.kept in_range ∙ take_all stated xs few, omega (arith, few, same, h.found, h.states))

pub list_unstated : {T : Type 0} {items : Items T} {stated : ℕ} {head : Bool} {ok : T → Bool} {xs : List T} → HoldsList items stated head ok xs → are_stated items ≡ false → length xs ≡ stated → ⊥
list_unstated {T} {items} {stated} {head} {ok} {xs} h other same =
    let more : items.more ≡ false = h.more ∙ le-ltb stated (length xs) (omega (arith, same)) in
    let found : eqb items.found items.stated ≡ true = eq-eqb items.found items.stated (omega (arith, h.found, h.states, same)) in
    let both : true ≡ false = sym (and_from (not items.more) (eqb items.found items.stated) (ap not more) found) ∙ other in
    absurd (let e : true ≡ false = both in cc)

list_fits : {T : Type 0} {items : Items T} {stated : ℕ} {head : Bool} {ok : T → Bool} {xs : List T} → HoldsList items stated head ok xs → items.in_range ≡ true → list_all ok xs ≡ true
list_fits {T} {items} {stated} {head} {ok} {xs} h in_range = (and_parts head (list_all ok xs) (sym h.in_range ∙ in_range)).1

list_is_in : {T : Type 0} {items : Items T} {stated : ℕ} {head : Bool} {ok : T → Bool} {xs : List T} → HoldsList items stated head ok xs → head ≡ true → list_all ok xs ≡ true → items.in_range ≡ true
list_is_in {T} {items} {stated} {head} {ok} {xs} h first all = h.in_range ∙ and_from head (list_all ok xs) first all

items_fit : (kind : Kind) (c : Context) (line : LineState) (x : LineItems) → HoldsItems kind c line x → list_in_range kind line ≡ true → items_ok kind c x ≡ true
items_fit Version c line x h fits = refl
items_fit Counts c line x h fits = refl
items_fit Cost c line x h fits = refl
items_fit Bound c line x h fits = refl
items_fit Tours c line x h fits = refl
items_fit Tour c line x h fits = list_fits h fits
items_fit Shores c line x h fits = refl
items_fit Shore c line x h fits = list_fits h fits
items_fit Sets c line x h fits = refl
items_fit Prices c line x h fits = list_fits h fits
items_fit Weights c line x h fits = list_fits h.0 fits
items_fit Bonds c line x h fits = (and_parts line.in_range (groups_ok x.groups x.rest) (sym h.in_range ∙ fits)).1
items_fit Nodes c line x h fits = refl
items_fit Pair c line x h fits = refl
items_fit Cut c line x h fits = refl
items_fit Price c line x h fits = refl
items_fit Void c line x h fits = refl
items_fit Fixed c line x h fits = refl
items_fit End c line x h fits = refl

items_are_in : (kind : Kind) (c : Context) (line : LineState) (x : LineItems) → HoldsItems kind c line x → line.in_range ≡ true → items_ok kind c x ≡ true → list_in_range kind line ≡ true
items_are_in Version c line x h first fits = refl
items_are_in Counts c line x h first fits = refl
items_are_in Cost c line x h first fits = refl
items_are_in Bound c line x h first fits = refl
items_are_in Tours c line x h first fits = refl
items_are_in Tour c line x h first fits = list_is_in h first fits
items_are_in Shores c line x h first fits = refl
items_are_in Shore c line x h first fits = list_is_in h first fits
items_are_in Sets c line x h first fits = refl
items_are_in Prices c line x h first fits = list_is_in h first fits
items_are_in Weights c line x h first fits = list_is_in h.0 first fits
items_are_in Bonds c line x h first fits = h.in_range ∙ and_from line.in_range (groups_ok x.groups x.rest) first fits
items_are_in Nodes c line x h first fits = refl
items_are_in Pair c line x h first fits = refl
items_are_in Cut c line x h first fits = refl
items_are_in Price c line x h first fits = refl
items_are_in Void c line x h first fits = refl
items_are_in Fixed c line x h first fits = refl
items_are_in End c line x h first fits = refl

-- the last group is complete just where a weight is awaited
none_behind : (held : Awaited) (rest : Remainder) → Awaits held rest → awaits_weight held ≡ true → rest ≡ nothing
none_behind awaited.Weight nothing awaits is = refl
none_behind awaited.Weight (weight_alone z) awaits is = absurd awaits
none_behind awaited.Weight (short_of missing z edges) awaits is = absurd awaits
none_behind (awaited.Size weight) rest awaits is = absurd (let both : false ≡ true = is in cc)
none_behind (awaited.Edge weight left exact) rest awaits is = absurd (let both : false ≡ true = is in cc)

weight_behind : (held : Awaited) → Awaits held nothing → awaits_weight held ≡ true
weight_behind awaited.Weight awaits = refl
weight_behind (awaited.Size weight) awaits = absurd awaits
weight_behind (awaited.Edge weight left exact) awaits = absurd awaits

-- groups that agree are held as such
bonds_stated : (line : LineState) (n : ℕ) (groups : List GroupWeight) (rest : Remainder) → KnowsGroups line.groups groups rest → Awaits line.groups.awaited rest → AreGroups n groups rest →
    slice_index line.fields.items 0 ≡ n → has_stated Bonds line ≡ true
bonds_stated line n groups rest k awaits agrees same =
    let in_order : line.groups.in_order ≡ true = elim (cases_Bool line.groups.in_order) [ inl kind ↦ kind | inr odd ↦ absurd (k.odd odd agrees.in_order) ] in
    let kept = k.kept in_order in
    let weight = weight_behind line.groups.awaited (subst (λ (r : Remainder). Awaits line.groups.awaited r) agrees.complete awaits) in
    and_from (line.groups.in_order && awaits_weight line.groups.awaited) (eqb (length line.groups.kept.items) (slice_index line.fields.items 0))
    (and_from line.groups.in_order (awaits_weight line.groups.awaited) in_order weight)
    (eq-eqb (length line.groups.kept.items) (slice_index line.fields.items 0) (ap length kept.0 ∙ agrees.stated ∙ sym same))

kept_are : (kind : Kind) (c : Context) (line : LineState) (numbers : List ℕ) (x : LineItems) → line.fields.items ≡ numbers → HoldsItems kind c line x → list_in_range kind line ≡ true → has_stated kind line ≡ true → AreKept kind line numbers x
kept_are Version c line numbers x same h fits enough = tt
kept_are Counts c line numbers x same h fits enough = tt
kept_are Cost c line numbers x same h fits enough = tt
kept_are Bound c line numbers x same h fits enough = tt
kept_are Tours c line numbers x same h fits enough = tt
kept_are Tour c line numbers x same h fits enough =
    let parts = and_parts (not line.steps.more) (eqb (length line.steps.kept.items) (slice_index line.fields.items 0)) enough in
    let few : length x.steps ≤ slice_index line.fields.items 0 = ltb-false (slice_index line.fields.items 0) (length x.steps) (sym h.more ∙ not-true line.steps.more parts.0) in
    let kept : line.steps.kept.items ≡ x.steps = h.kept fits ∙ take_all (slice_index line.fields.items 0) x.steps few in
    (kept, ap length (sym kept) ∙ eqb-true (length line.steps.kept.items) (slice_index line.fields.items 0) parts.1 ∙ ap (λ (f : List ℕ). slice_index f 0) same)
kept_are Shores c line numbers x same h fits enough = tt
kept_are Shore c line numbers x same h fits enough = (let s = list_stated h fits enough in (s.0, s.1 ∙ ap (λ (f : List ℕ). slice_index f 0) same))
kept_are Sets c line numbers x same h fits enough = tt
kept_are Prices c line numbers x same h fits enough = (let s = list_stated h fits enough in (s.0, s.1 ∙ ap (λ (f : List ℕ). slice_index f 1) same))
kept_are Weights c line numbers x same h fits enough = (let s = list_stated h.0 fits enough in (s.0, s.1 ∙ ap (λ (f : List ℕ). slice_index f 0) same))
kept_are Bonds c line numbers x same h fits enough =
    let k = h.known fits in
    let a = and_parts (line.groups.in_order && awaits_weight line.groups.awaited) (eqb (length line.groups.kept.items) (slice_index line.fields.items 0)) enough in
    let b = and_parts line.groups.in_order (awaits_weight line.groups.awaited) a.0 in
    let kept = k.kept b.0 in (
      kept.0,
      record {
        stated = ap length (sym kept.0) ∙ eqb-true (length line.groups.kept.items) (slice_index line.fields.items 0) a.1 ∙ ap (λ (f : List ℕ). slice_index f 0) same;
        complete = none_behind line.groups.awaited x.rest h.awaits b.1;
        in_order = kept.1;
      },
    )
kept_are Nodes c line numbers x same h fits enough = tt
kept_are Pair c line numbers x same h fits enough = tt
kept_are Cut c line numbers x same h fits enough = tt
kept_are Price c line numbers x same h fits enough = tt
kept_are Void c line numbers x same h fits enough = tt
kept_are Fixed c line numbers x same h fits enough = tt
kept_are End c line numbers x same h fits enough = tt

not_stated : (kind : Kind) (said : LatestFirst) (c : Context) (line : LineState) (numbers : List ℕ) (x : LineItems) → line.fields.items ≡ numbers → HoldsItems kind c line x → list_in_range kind line ≡ true → has_stated kind line ≡ false → Agrees said (line_with kind numbers x) → ⊥
not_stated Version said c line numbers x same h fits other agrees = (let both : true ≡ false = other in cc)
not_stated Counts said c line numbers x same h fits other agrees = (let both : true ≡ false = other in cc)
not_stated Cost said c line numbers x same h fits other agrees = (let both : true ≡ false = other in cc)
not_stated Bound said c line numbers x same h fits other agrees = (let both : true ≡ false = other in cc)
not_stated Tours said c line numbers x same h fits other agrees = (let both : true ≡ false = other in cc)
not_stated Tour said c line numbers x same h fits other agrees =
    let long : length x.steps ≡ slice_index line.fields.items 0 = agrees ∙ ap (λ (f : List ℕ). slice_index f 0) (sym same) in
    let more : line.steps.more ≡ false = h.more ∙ le-ltb (slice_index line.fields.items 0) (length x.steps) (omega (arith, long)) in
    let kept : line.steps.kept.items ≡ x.steps = h.kept fits ∙ take_all (slice_index line.fields.items 0) x.steps (omega (arith, long)) in
    let found = eq-eqb (length line.steps.kept.items) (slice_index line.fields.items 0) (ap length kept ∙ long) in
    let both : true ≡ false = sym (and_from (not line.steps.more) (eqb (length line.steps.kept.items) (slice_index line.fields.items 0)) (ap not more) found) ∙ other in
    absurd (let e : true ≡ false = both in cc)
not_stated Shores said c line numbers x same h fits other agrees = (let both : true ≡ false = other in cc)
not_stated Shore said c line numbers x same h fits other agrees = list_unstated h other (agrees.stated ∙ ap (λ (f : List ℕ). slice_index f 0) (sym same))
not_stated Sets said c line numbers x same h fits other agrees = (let both : true ≡ false = other in cc)
not_stated Prices said c line numbers x same h fits other agrees = list_unstated h other (agrees ∙ ap (λ (f : List ℕ). slice_index f 1) (sym same))
not_stated Weights said c line numbers x same h fits other agrees = list_unstated h.0 other (agrees.stated ∙ ap (λ (f : List ℕ). slice_index f 0) (sym same))
not_stated Bonds said c line numbers x same h fits other agrees =
    let yes = bonds_stated line (slice_index numbers 0) x.groups x.rest (h.known fits) h.awaits agrees.0 (ap (λ (f : List ℕ). slice_index f 0) same) in
    let both : true ≡ false = sym yes ∙ other in
    absurd (let e : true ≡ false = both in cc)
not_stated Nodes said c line numbers x same h fits other agrees = (let both : true ≡ false = other in cc)
not_stated Pair said c line numbers x same h fits other agrees = (let both : true ≡ false = other in cc)
not_stated Cut said c line numbers x same h fits other agrees = (let both : true ≡ false = other in cc)
not_stated Price said c line numbers x same h fits other agrees = (let both : true ≡ false = other in cc)
not_stated Void said c line numbers x same h fits other agrees = (let both : true ≡ false = other in cc)
not_stated Fixed said c line numbers x same h fits other agrees = (let both : true ≡ false = other in cc)
not_stated End said c line numbers x same h fits other agrees = (let both : true ≡ false = other in cc)

version_small : (n : ℕ) → (eqb (lesser n) 1 || eqb (lesser n) 2 || eqb (lesser n) 4) ≡ true → n ≤ 4
version_small n holds = elim (or_cases (eqb (lesser n) 1 || eqb (lesser n) 2) (eqb (lesser n) 4) holds) [
  | inl two ↦ elim (or_cases (eqb (lesser n) 1) (eqb (lesser n) 2) two) [
    | inl one ↦ (let e = eqb-true (lesser n) 1 one in omega (arith, e))
    | inr two ↦ (let e = eqb-true (lesser n) 2 two in omega (arith, e))
  ]
  | inr four ↦ (let e = eqb-true (lesser n) 4 four in omega (arith, e))
]

version_same : (n : ℕ) → n ≤ 4 → (eqb (lesser n) 1 || eqb (lesser n) 2 || eqb (lesser n) 4) ≡ true → (eqb n 1 || eqb n 2 || eqb n 4) ≡ true
version_same n small holds = subst (λ (k : ℕ). (eqb k 1 || eqb k 2 || eqb k 4) ≡ true) (let e : lesser n ≡ n = omega (arith, small) in e) holds

first_number : (numbers : List ℕ) → length numbers ≡ 1 → slice_index (map lesser numbers) 0 ≡ lesser (slice_index numbers 0)
first_number [] one = absurd (omega (arith, one))
first_number (n ∷ ns) one = refl

version_first : (kind : Kind) (line : LineState) (numbers : List ℕ) → line.fields.items ≡ map lesser numbers → length numbers ≡ field_count kind → ends_well kind line ≡ true → kind ≡ Version →
    (eqb (lesser (slice_index numbers 0)) 1 || eqb (lesser (slice_index numbers 0)) 2 || eqb (lesser (slice_index numbers 0)) 4) ≡ true
version_first kind line numbers fields count well is =
    let test : ends_well Version line ≡ true = subst (λ (k : Kind). ends_well k line ≡ true) is well in
    let one : length numbers ≡ 1 = count ∙ ap field_count is in
    subst (λ (k : ℕ). (eqb k 1 || eqb k 2 || eqb k 4) ≡ true) (ap (λ (f : List ℕ). slice_index f 0) fields ∙ first_number numbers one) test

none_told : (x : Option ℕ) (held : Option ℕ) → held ≡ option_map lesser x → is_none held ≡ true → x ≡ None
none_told None held same none = refl
none_told (Some n) held same none = (let both : false ≡ true = sym (ap is_none same) ∙ none in cc)

weights_wait : (kind : Kind) (c : Context) (line : LineState) (x : LineItems) → HoldsItems kind c line x → ends_well kind line ≡ true → kind ≡ Weights → x.waiting ≡ None
weights_wait kind c line x h well is =
    let held : HoldsItems Weights c line x = subst (λ (k : Kind). HoldsItems k c line x) is h in
    let test : ends_well Weights line ≡ true = subst (λ (k : Kind). ends_well k line ≡ true) is well in
    none_told x.waiting line.waiting held.1 test

-- the words are those of a line, whatever its numbers
pub whole_line : {c : Context} {line : LineState} {words : List (List ℕ)} {kind : Kind} (said : LatestFirst) → (s : IsShaped c line words kind) → c.next ≡ next_of said → length line.fields.items ≡ field_count kind → ends_well kind line ≡ true → IsLine said words (line_with kind s.numbers s.items)
whole_line {c} {line} {words} {kind} said s next all well =
    let count : length s.numbers ≡ field_count kind = sym (length-map s.numbers lesser) ∙ ap length (sym s.fields) ∙ all in
    let version = version_first kind line s.numbers s.fields count well in
    record {
      follows = subst (λ (n : Next). follows n (line_with kind s.numbers s.items) ≡ true) next
          (follows_with kind c.next s.numbers s.items s.expected (λ e. version_same (slice_index s.numbers 0) (version_small (slice_index s.numbers 0) (version e)) (version e)));
      spells = words_with kind s.items s.numbers count (weights_wait kind c line s.items (s.held count) well) ∙ sym s.spelled;
    }

pub ready : {c : Context} {line : LineState} {words : List (List ℕ)} {kind : Kind} (said : LatestFirst) → IsContext c said → (s : IsShaped c line words kind) → c.next ≡ next_of said → length line.fields.items ≡ field_count kind → ends_well kind line ≡ true →
    fields_ok kind c line.fields.items ≡ true → list_in_range kind line ≡ true → IsReady kind said line words
ready {c} {line} {words} {kind} said is s next all well first fits =
    let count : length s.numbers ≡ field_count kind = sym (length-map s.numbers lesser) ∙ ap length (sym s.fields) ∙ all in
    let version = version_first kind line s.numbers s.fields count well in
    let in_range = ranges_hold kind said c s.numbers s.items is count (subst (λ (f : List ℕ). fields_ok kind c f ≡ true) s.fields first) (items_fit kind c line s.items (s.held count) fits) in
    let same : line.fields.items ≡ s.numbers = s.fields ∙ exact kind said c s.items s.numbers is count in_range (λ e. version_small (slice_index s.numbers 0) (version e)) in
    record {
      numbers = s.numbers;
      items = s.items;
      fields = same;
      count = count;
      is = whole_line said s next all well;
      in_range = in_range;
      kept = λ enough. kept_are kind c line s.numbers s.items same (s.held count) fits enough;
      unstated = λ other. not_stated kind said c line s.numbers s.items same (s.held count) fits other;
    }

-- a number of a line is past its range
pub past_line : {c : Context} {line : LineState} {words : List (List ℕ)} {kind : Kind} (said : LatestFirst) → IsContext c said → (s : IsShaped c line words kind) → length line.fields.items ≡ field_count kind →
    (fields_ok kind c line.fields.items && list_in_range kind line) ≡ false → IsInRange said (line_with kind s.numbers s.items) → ⊥
past_line {c} {line} {words} {kind} said is s all past in_range =
    let count : length s.numbers ≡ field_count kind = sym (length-map s.numbers lesser) ∙ ap length (sym s.fields) ∙ all in
    let needs = ranges_need kind said c s.numbers s.items is count in_range in
    let first : fields_ok kind c line.fields.items ≡ true = subst (λ (f : List ℕ). fields_ok kind c f ≡ true) (sym s.fields) needs.0 in
    let fits = items_are_in kind c line s.items (s.held count) (s.in_range count ∙ first) needs.1 in
    let both : true ≡ false = sym (and_from (fields_ok kind c line.fields.items) (list_in_range kind line) first fits) ∙ past in
    absurd (let e : true ≡ false = both in cc)

-- the same, where one test says both
pub ready_both : {c : Context} {line : LineState} {words : List (List ℕ)} {kind : Kind} (said : LatestFirst) → IsContext c said → (s : IsShaped c line words kind) → c.next ≡ next_of said → length line.fields.items ≡ field_count kind → ends_well kind line ≡ true →
    (fields_ok kind c line.fields.items && list_in_range kind line) ≡ true → IsReady kind said line words
ready_both {c} {line} {words} {kind} said is s next all well both =
    let parts = and_parts (fields_ok kind c line.fields.items) (list_in_range kind line) both in
    ready said is s next all well parts.0 parts.1
