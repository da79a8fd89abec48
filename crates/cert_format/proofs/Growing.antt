-- A line of which one word more has come.
use Rattle.std.proofs.Common.{◌≡◌, ◌≢◌, ℕ, ◌+◌, ◌<◌, ◌≤◌, min, Bool, true, false, ◌&&◌, nat_lt, List, [], ◌∷◌, ◌++◌, length, map, take, None, refl, sym, ap, subst, ◌∙◌, append_assoc, length-append, inl, inr, arith, if◌then◌else◌}
use Rattle.std.specs.List.{list_all}
use Rattle.std.proofs.lemmas.Bool.{and_parts, lt-ltb, le-ltb, cases_lt}
use Rattle.std.proofs.lemmas.List.{append-nil, length-map, take_all, take-append-le}
use Rattle.std.proofs.lemmas.List.Folds.{list_all-append}
use Rattle.cert_lines.specs.Numerals.{numeral}
use Rattle.cert_lines.specs.Numbers.{IsNatural, IsNoNatural}
use Rattle.cert_format.specs.declared.items.Items.{Items}
use Rattle.cert_format.specs.declared.line.Context.{Context}
use Rattle.cert_format.specs.declared.line.LineState.{LineState}
use Rattle.cert_format.specs.declared.kind.Kind.{Kind}
use Rattle.cert_format.specs.Kinds.{field_count, keyword, IsKindOf, IsOfNoKind}
use Rattle.cert_format.specs.declared.kind.Kind.TheVariants.{Version, Counts, Cost, Bound, Tours, Tour, Shores, Shore, Sets, Prices, Weights, Bonds, Nodes, Pair, Cut, Price, Void, Fixed, End}
use Rattle.cert_format.specs.Lists.{HoldsList, fields_ok}
use Rattle.cert_format.specs.LineStates.{IsShaped, HoldsItems, HoldsLine, FormHolds, lesser}
use Rattle.cert_format.specs.declared.line.Form.{Form}
use Rattle.cert_format.specs.declared.line.Form.TheVariants.{Start, Shapeless, Shaped}
use Rattle.cert_format.specs.Parts.{LineItems, no_items, item_words, part_words, IsHopeless}
use Rattle.cert_format.proofs.Hopeless.{field_hopeless, item_hopeless, no_items_words, first_hopeless}

pub not_nil : (words : List (List ℕ)) (text : List ℕ) → words ++ text ∷ [] ≢ []
not_nil [] text e = cc
not_nil (w ∷ words) text e = cc

pub map-append : {X Y : Type 0} (f : X → Y) (xs ys : List X) → map f (xs ++ ys) ≡ map f xs ++ map f ys
map-append {X} {Y} f [] ys = refl
map-append {X} {Y} f (x ∷ xs) ys = ap (λ (r : List Y). f x ∷ r) (map-append f xs ys)

-- as many numbers are held as have come
pub count_held : {context : Context} {line : LineState} {words : List (List ℕ)} {kind : Kind} → (s : IsShaped context line words kind) → length line.fields.items ≡ length s.numbers
count_held {context} {line} {words} {kind} s = ap length s.fields ∙ length-map s.numbers lesser

pub field_fails : {context : Context} {line : LineState} {words : List (List ℕ)} {kind : Kind} (text : List ℕ) → IsShaped context line words kind → length line.fields.items < field_count kind → IsNoNatural text →
    (words ++ text ∷ [] ≢ []) × IsHopeless context.next (words ++ text ∷ [])
field_fails {context} {line} {words} {kind} text s fewer none =
    let few : length s.numbers < field_count kind = omega (arith, fewer, count_held s) in
    let parts : words ≡ part_words kind s.numbers no_items = s.spelled ∙ ap (part_words kind s.numbers) (s.early few) in
    (not_nil words text, subst (λ (w : List (List ℕ)). IsHopeless context.next (w ++ text ∷ [])) (sym parts) (field_hopeless kind s.numbers text few none))

-- one number more behind the first word
field_words : (kind : Kind) (numbers : List ℕ) (n : ℕ) → part_words kind numbers no_items ++ numeral n ∷ [] ≡ part_words kind (numbers ++ n ∷ []) no_items
field_words kind numbers n =
    ap (λ (x : List (List ℕ)). keyword kind ∷ ((map numeral numbers ++ x) ++ numeral n ∷ [])) (no_items_words kind)
    ∙ ap (λ (x : List (List ℕ)). keyword kind ∷ (x ++ numeral n ∷ [])) (append-nil (map numeral numbers))
    ∙ ap (λ (x : List (List ℕ)). keyword kind ∷ x) (sym (map-append numeral numbers (n ∷ [])))
    ∙ ap (λ (x : List (List ℕ)). keyword kind ∷ x) (sym (append-nil (map numeral (numbers ++ n ∷ []))))
    ∙ ap (λ (x : List (List ℕ)). keyword kind ∷ (map numeral (numbers ++ n ∷ []) ++ x)) (sym (no_items_words kind))

pub field_more : {context : Context} {old new : LineState} {words : List (List ℕ)} {kind : Kind} (text : List ℕ) (told : ℕ) → IsShaped context old words kind → length old.fields.items < field_count kind → IsNatural text told →
    new.fields.items ≡ old.fields.items ++ told ∷ [] → (length new.fields.items ≡ field_count kind → new.in_range ≡ fields_ok kind context new.fields.items) → (length new.fields.items ≡ field_count kind → HoldsItems kind context new no_items) →
    IsShaped context new (words ++ text ∷ []) kind
field_more {context} {old} {new} {words} {kind} text told s fewer natural fields in_range held =
    let few : length s.numbers < field_count kind = omega (arith, fewer, count_held s) in
    let long : length (s.numbers ++ natural.n ∷ []) ≡ length s.numbers + 1 = length-append s.numbers (natural.n ∷ []) in
    let same : new.fields.items ≡ map lesser (s.numbers ++ natural.n ∷ []) =
    fields ∙ ap (λ (x : List ℕ). x ++ told ∷ []) s.fields ∙ ap (λ (k : ℕ). map lesser s.numbers ++ k ∷ []) natural.value ∙ sym (map-append lesser s.numbers (natural.n ∷ [])) in
    let count : length new.fields.items ≡ length (s.numbers ++ natural.n ∷ []) = ap length same ∙ length-map (s.numbers ++ natural.n ∷ []) lesser in
    record {
      expected = s.expected;
      numbers = s.numbers ++ natural.n ∷ [];
      items = no_items;
      spelled = ap (λ (w : List (List ℕ)). w ++ text ∷ []) (s.spelled ∙ ap (part_words kind s.numbers) (s.early few))
          ∙ ap (λ (x : List ℕ). part_words kind s.numbers no_items ++ x ∷ []) natural.spelled ∙ field_words kind s.numbers natural.n;
      few = omega (arith, few, long);
      fields = same;
      early = λ e. refl;
      in_range = λ e. in_range (count ∙ e);
      held = λ e. held (count ∙ e);
    }

pub all_come : {context : Context} {line : LineState} {words : List (List ℕ)} {kind : Kind} → (s : IsShaped context line words kind) → field_count kind ≤ length line.fields.items → length s.numbers ≡ field_count kind
all_come {context} {line} {words} {kind} s all = omega (arith, all, count_held s, s.few)

pub item_fails : {context : Context} {line : LineState} {words : List (List ℕ)} {kind : Kind} (text : List ℕ) → (s : IsShaped context line words kind) → field_count kind ≤ length line.fields.items →
    ((y : LineItems) (more : List (List ℕ)) → y.waiting ≡ None → item_words kind y ≡ item_words kind s.items ++ text ∷ more → ⊥) →
    (words ++ text ∷ [] ≢ []) × IsHopeless context.next (words ++ text ∷ [])
item_fails {context} {line} {words} {kind} text s all none =
    (not_nil words text, subst (λ (w : List (List ℕ)). IsHopeless context.next (w ++ text ∷ [])) (sym s.spelled) (item_hopeless kind s.numbers s.items text (all_come s all) none))

pub item_more : {context : Context} {old new : LineState} {words : List (List ℕ)} {kind : Kind} (text : List ℕ) (x : LineItems) → (s : IsShaped context old words kind) → field_count kind ≤ length old.fields.items →
    new.fields.items ≡ old.fields.items → new.in_range ≡ old.in_range → item_words kind x ≡ item_words kind s.items ++ text ∷ [] → HoldsItems kind context new x → IsShaped context new (words ++ text ∷ []) kind
item_more {context} {old} {new} {words} {kind} text x s all fields in_range item held =
    let full : length s.numbers ≡ field_count kind = all_come s all in
    record {
      expected = s.expected;
      numbers = s.numbers;
      items = x;
      spelled = ap (λ (w : List (List ℕ)). w ++ text ∷ []) s.spelled
          ∙ ap (λ (w : List (List ℕ)). keyword kind ∷ w) (append_assoc (map numeral s.numbers) (item_words kind s.items) (text ∷ []) ∙ ap (λ (w : List (List ℕ)). map numeral s.numbers ++ w) (sym item));
      few = s.few;
      fields = fields ∙ s.fields;
      early = λ e. absurd (omega (arith, e, full));
      in_range = λ e. in_range ∙ s.in_range full ∙ ap (fields_ok kind context) (sym fields);
      held = λ e. held;
    }

-- one item more
and_assoc : (a b c : Bool) → ((a && b) && c) ≡ (a && (b && c))
and_assoc true b c = refl
and_assoc false b c = refl

and_unit : (b : Bool) → (b && true) ≡ b
and_unit true = refl
and_unit false = refl

take_within : {T : Type 0} (n : ℕ) (xs : List T) → length xs ≤ n → take n xs ≡ xs
take_within {T} n xs short = take_all n xs short

kept_more : {T : Type 0} (kept xs : List T) (x told : T) (n : ℕ) → kept ≡ take n xs → told ≡ x →
    (if nat_lt (min (length xs) n) n then kept ++ told ∷ [] else kept) ≡ take n (xs ++ x ∷ [])
kept_more {T} kept xs x told n is same = elim (cases_lt (length xs) n) [
  | inl room ↦
      (let test : nat_lt (min (length xs) n) n ≡ true = lt-ltb (min (length xs) n) n (omega (arith, room)) in
      let whole : take n xs ≡ xs = take_within n xs (omega (arith, room)) in
      let wider : take n (xs ++ x ∷ []) ≡ xs ++ x ∷ [] = take_within n (xs ++ x ∷ []) (omega (arith, room, length-append xs (x ∷ []))) in
      ap (λ (b : Bool). if b then kept ++ told ∷ [] else kept) test ∙ ap (λ (k : List T). k ++ told ∷ []) (is ∙ whole) ∙ ap (λ (k : T). xs ++ k ∷ []) same ∙ sym wider)
  | inr full ↦
      (let test : nat_lt (min (length xs) n) n ≡ false = le-ltb (min (length xs) n) n (omega (arith, full)) in
      ap (λ (b : Bool). if b then kept ++ told ∷ [] else kept) test ∙ is ∙ sym (take-append-le n xs (x ∷ []) full))
]

found_more : (l n : ℕ) → (if nat_lt (min l n) n then min l n + 1 else min l n) ≡ min (l + 1) n
found_more l n = elim (cases_lt l n) [
  | inl room ↦ ap (λ (b : Bool). if b then min l n + 1 else min l n) (lt-ltb (min l n) n (omega (arith, room))) ∙ (let e : min l n + 1 ≡ min (l + 1) n = omega (arith, room) in e)
  | inr full ↦ ap (λ (b : Bool). if b then min l n + 1 else min l n) (le-ltb (min l n) n (omega (arith, full))) ∙ (let e : min l n ≡ min (l + 1) n = omega (arith, full) in e)
]

more_more : (l n : ℕ) → (if nat_lt (min l n) n then nat_lt n l else true) ≡ nat_lt n (l + 1)
more_more l n = elim (cases_lt l n) [
  | inl room ↦ ap (λ (b : Bool). if b then nat_lt n l else true) (lt-ltb (min l n) n (omega (arith, room))) ∙ le-ltb n l (omega (arith, room)) ∙ sym (le-ltb n (l + 1) (omega (arith, room)))
  | inr full ↦ ap (λ (b : Bool). if b then nat_lt n l else true) (le-ltb (min l n) n (omega (arith, full))) ∙ sym (lt-ltb n (l + 1) (omega (arith, full)))
]

pub list_more : {T : Type 0} {old new : Items T} {stated : ℕ} {head : Bool} {ok : T → Bool} {xs : List T} (x told : T) (fits : Bool) → HoldsList old stated head ok xs →
    new.stated ≡ old.stated → new.found ≡ (if nat_lt old.found old.stated then old.found + 1 else old.found) → new.more ≡ (if nat_lt old.found old.stated then old.more else true) →
    new.in_range ≡ (old.in_range && fits) → new.kept.items ≡ (if (old.in_range && fits) && nat_lt old.found old.stated then old.kept.items ++ told ∷ [] else old.kept.items) →
    fits ≡ ok x → (ok x ≡ true → told ≡ x) → HoldsList new stated head ok (xs ++ x ∷ [])
list_more {T} {old} {new} {stated} {head} {ok} {xs} x told fits h states found more in_range kept same exact =
    let long : length (xs ++ x ∷ []) ≡ length xs + 1 = length-append xs (x ∷ []) in
    let test : nat_lt old.found old.stated ≡ nat_lt (min (length xs) stated) stated = ap (λ (k : ℕ). nat_lt k old.stated) h.found ∙ ap (nat_lt (min (length xs) stated)) h.states in
    record {
      states = states ∙ h.states;
      found = found ∙ ap (λ (b : Bool). if b then old.found + 1 else old.found) test ∙ ap (λ (k : ℕ). if nat_lt (min (length xs) stated) stated then k + 1 else k) h.found ∙ found_more (length xs) stated ∙ ap (λ (k : ℕ). min k stated) (sym long);
      more = more ∙ ap (λ (b : Bool). if b then old.more else true) test ∙ ap (λ (b : Bool). if nat_lt (min (length xs) stated) stated then b else true) h.more ∙ more_more (length xs) stated ∙ ap (nat_lt stated) (sym long);
      in_range = in_range ∙ ap (λ (b : Bool). b && fits) h.in_range ∙ ap (λ (b : Bool). (head && list_all ok xs) && b) same ∙ and_assoc head (list_all ok xs) (ok x) ∙ ap (λ (b : Bool). head && b) (ap (λ (b : Bool). list_all ok xs && b) (sym (and_unit (ok x))) ∙ sym (list_all-append ok xs (x ∷ [])));
      kept = λ yes. (let both = and_parts old.in_range fits (sym in_range ∙ yes) in
          kept ∙ ap (λ (b : Bool). if b && nat_lt old.found old.stated then old.kept.items ++ told ∷ [] else old.kept.items) (sym in_range ∙ yes)
          ∙ ap (λ (b : Bool). if b then old.kept.items ++ told ∷ [] else old.kept.items) test
          ∙ kept_more old.kept.items xs x told stated (h.kept both.0) (exact (sym same ∙ both.1)));
    }

-- what is held, where the form is known
pub line_shaped : {context : Context} {line : LineState} {words : List (List ℕ)} {kind : Kind} → line.form ≡ Shaped kind → IsShaped context line words kind → HoldsLine context line words
line_shaped {context} {line} {words} {kind} form s = subst (λ (f : Form). FormHolds f context line words) (sym form) s

pub line_shapeless : (context : Context) (line : LineState) (words : List (List ℕ)) → line.form ≡ Shapeless → (words ≢ []) × IsHopeless context.next words → HoldsLine context line words
line_shapeless context line words form s = subst (λ (f : Form). FormHolds f context line words) (sym form) s

-- the form of a line tells what is held
pub shaped_line : {context : Context} {line : LineState} {words : List (List ℕ)} {kind : Kind} → line.form ≡ Shaped kind → HoldsLine context line words → IsShaped context line words kind
shaped_line {context} {line} {words} {kind} form h = subst (λ (f : Form). FormHolds f context line words) form h

pub shapeless_line : (context : Context) (line : LineState) (words : List (List ℕ)) → line.form ≡ Shapeless → HoldsLine context line words → (words ≢ []) × IsHopeless context.next words
shapeless_line context line words form h = subst (λ (f : Form). FormHolds f context line words) form h

pub start_line : (context : Context) (line : LineState) (words : List (List ℕ)) → line.form ≡ Start → HoldsLine context line words → (words ≡ []) × (line.fields.items ≡ [])
start_line context line words form h = subst (λ (f : Form). FormHolds f context line words) form h

-- the first word
first_items : (kind : Kind) (context : Context) (line : LineState) → 0 ≡ field_count kind → HoldsItems kind context line no_items
first_items Version context line none = tt
first_items Counts context line none = tt
first_items Cost context line none = tt
first_items Bound context line none = tt
first_items Tours context line none = tt
first_items Tour context line none = absurd (omega (arith, none))
first_items Shores context line none = tt
first_items Shore context line none = absurd (omega (arith, none))
first_items Sets context line none = tt
first_items Prices context line none = absurd (omega (arith, none))
first_items Weights context line none = absurd (omega (arith, none))
first_items Bonds context line none = absurd (omega (arith, none))
first_items Nodes context line none = tt
first_items Pair context line none = tt
first_items Cut context line none = tt
first_items Price context line none = tt
first_items Void context line none = tt
first_items Fixed context line none = tt
first_items End context line none = tt

first_ok : (kind : Kind) (context : Context) (f : List ℕ) → 0 ≡ field_count kind → true ≡ fields_ok kind context f
first_ok Version context f none = absurd (omega (arith, none))
first_ok Counts context f none = absurd (omega (arith, none))
first_ok Cost context f none = absurd (omega (arith, none))
first_ok Bound context f none = absurd (omega (arith, none))
first_ok Tours context f none = absurd (omega (arith, none))
first_ok Tour context f none = absurd (omega (arith, none))
first_ok Shores context f none = absurd (omega (arith, none))
first_ok Shore context f none = absurd (omega (arith, none))
first_ok Sets context f none = absurd (omega (arith, none))
first_ok Prices context f none = absurd (omega (arith, none))
first_ok Weights context f none = absurd (omega (arith, none))
first_ok Bonds context f none = absurd (omega (arith, none))
first_ok Nodes context f none = absurd (omega (arith, none))
first_ok Pair context f none = absurd (omega (arith, none))
first_ok Cut context f none = absurd (omega (arith, none))
first_ok Price context f none = absurd (omega (arith, none))
first_ok Void context f none = refl
first_ok Fixed context f none = refl
first_ok End context f none = refl

pub first_word : (context : Context) (line : LineState) (text : List ℕ) (kind : Kind) → line.fields.items ≡ [] → IsKindOf context.next text kind → line.form ≡ Shaped kind → line.in_range ≡ true → HoldsLine context line (text ∷ [])
first_word context line text kind none is form in_range = line_shaped form (record {
  expected = is.expected;
  numbers = [];
  items = no_items;
  spelled = ap (λ (x : List ℕ). x ∷ []) is.word ∙ ap (λ (x : List (List ℕ)). keyword kind ∷ x) (sym (no_items_words kind));
  few = omega arith;
  fields = none;
  early = λ e. refl;
  in_range = λ e. in_range ∙ first_ok kind context line.fields.items e;
  held = λ e. first_items kind context line e;
})

pub no_first_word : (context : Context) (line : LineState) (text : List ℕ) → IsOfNoKind context.next text → line.form ≡ Shapeless → HoldsLine context line (text ∷ [])
no_first_word context line text none form = line_shapeless context line (text ∷ []) form ((λ e. cc), first_hopeless context.next text none)
