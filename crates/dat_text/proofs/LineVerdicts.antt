-- What a line says, or its fault, is determined by the line and what was said before.
use Rattle.std.proofs.Common.{◌≡◌, ℕ, ◌<◌, ◌≤◌, cond, eqb, List, [], ◌∷◌, length, map, get_or, Option, Some, None, ◌⊎◌, refl, sym, ap, subst, ◌∙◌, inl, inr, arith}
use Rattle.std.specs.Prelude.{IfSome}
use Rattle.std.specs.Option.{option_map}
use Rattle.std.specs.Char.{to_ascii_lowercase}
use Rattle.std.specs.Str.Parse.{digits_value}
use Rattle.std.proofs.lemmas.Bool.{true≢false}
use Rattle.dat_text.specs.declared.key.Key.{Key}
use Rattle.dat_text.specs.declared.key.Key.TheVariants.{Vertices, RequiredCount, OtherCount, Capacity, Depot, RequiredList, OtherList}
use Rattle.dat_text.specs.declared.fault.DatFault.{DatFault}
use Rattle.dat_text.specs.declared.fault.DatFault.TheVariants.{Syntax, MissingKey, DoubleKey, CountDiffers, NumberTooLong, Refused}
use Rattle.dat_text.specs.Lines.{is_blank, is_key_byte, SameLetters, key_name, HasKey, HasKeyShape, IsKeyLine, IsOpened, EdgeNumbers, IsEdgeLine, IsShort, AreShort, numbers_of, edge_of}
use Rattle.dat_text.specs.Reading.{run_at, after_run, after_byte}
use Rattle.dat_text.specs.Text.{Statement, stands, Says, IsBadEdge, IsBadKey, IsLongEdge, IsLongKey, IsDouble, IsBad, LatestFirst}
use Rattle.dat_text.specs.Text.Statement.{nothing, states, lists}
use Rattle.dat_text.proofs.LineParts.{byte_found, first_found}
use Rattle.dat_text.proofs.KeyLines.{key_found}
use Rattle.dat_text.proofs.KeyShapes.{stated_found}
use Rattle.dat_text.proofs.EdgeLines.{edge_found, some_is}

-- A line has one key at most.

-- the key whose name has these small letters
abbrev key_of : List ℕ → Key
key_of letters =
    cond (eqb (length letters) 8) (cond (eqb (get_or letters 0 0) 118) Vertices Depot)
    (cond (eqb (length letters) 11) RequiredCount
    (cond (eqb (length letters) 13) OtherCount
    (cond (eqb (length letters) 9) Capacity
    (cond (eqb (length letters) 17) RequiredList OtherList))))

key_by_letters : (key : Key) → key_of (map to_ascii_lowercase (key_name key)) ≡ key
key_by_letters Vertices = refl
key_by_letters RequiredCount = refl
key_by_letters OtherCount = refl
key_by_letters Capacity = refl
key_by_letters Depot = refl
key_by_letters RequiredList = refl
key_by_letters OtherList = refl

key_is : (key : Key) (line rest : List ℕ) → HasKey key line rest → key_of (map to_ascii_lowercase (run_at is_key_byte (after_run is_blank line))) ≡ key
key_is key line rest h = ap (λ (x : List ℕ). key_of (map to_ascii_lowercase x)) (key_found key line rest h).0 ∙ ap key_of h.is_key ∙ key_by_letters key

one_key : (k l : Key) (line rest other : List ℕ) → HasKey k line rest → HasKey l line other → k ≡ l
one_key k l line rest other a b = sym (key_is k line rest a) ∙ key_is l line other b

one_rest : (k l : Key) (line rest other : List ℕ) → HasKey k line rest → HasKey l line other → rest ≡ other
one_rest k l line rest other a b = sym (key_found k line rest a).1 ∙ (key_found l line other b).1

some_name : (key : Key) → SameLetters [] (key_name key) → ⊥
some_name Vertices same = cc
some_name RequiredCount same = cc
some_name OtherCount same = cc
some_name Capacity same = cc
some_name Depot same = cc
some_name RequiredList same = cc
some_name OtherList same = cc

no_key_opened : (key : Key) (line rest : List ℕ) → HasKey key line rest → IsOpened line → ⊥
unfolding after_byte
no_key_opened key line rest h opened =
    let behind : after_run is_blank line ≡ 40 ∷ opened.rest = first_found 40 (after_run is_blank line) opened.rest (byte_found 40 line opened.rest refl opened.begins) in
    let empty : h.run ≡ [] = sym (key_found key line rest h).0 ∙ ap (run_at is_key_byte) behind in
    some_name key (subst (λ (x : List ℕ). SameLetters x (key_name key)) empty h.is_key)

one_shape : (key : Key) (d e : Option (List ℕ)) (text : List ℕ) → HasKeyShape key d text → HasKeyShape key e text → d ≡ e
one_shape key None None text a b = refl
one_shape key None (Some e) text a b = absurd (true≢false (sym b.0 ∙ a))
one_shape key (Some d) None text a b = absurd (true≢false (sym a.0 ∙ b))
one_shape key (Some d) (Some e) text a b = sym (stated_found text d a.1) ∙ stated_found text e b.1

-- the shape of what follows one key is that of what follows the other
shape_there : (k l : Key) (line rest other : List ℕ) (d : Option (List ℕ)) → HasKey k line rest → HasKey l line other → HasKeyShape k d rest → HasKeyShape l d other
shape_there k l line rest other d a b shape =
    subst (λ (key : Key). HasKeyShape key d other) (one_key k l line rest other a b)
    (subst (λ (text : List ℕ). HasKeyShape k d text) (one_rest k l line rest other a b) shape)

one_key_line : (k l : Key) (d e : Option (List ℕ)) (line : List ℕ) → IsKeyLine k d line → IsKeyLine l e line → (k ≡ l) × (d ≡ e)
one_key_line k l d e line a b = (
  one_key k l line a.rest b.rest a.has_key b.has_key,
  one_shape l d e b.rest (shape_there k l line a.rest b.rest d a.has_key b.has_key a.has_shape) b.has_shape,
)

-- An edge line has one edge at most.

opens : (list : Key) (x : EdgeNumbers) (line : List ℕ) → IsEdgeLine list x line → IsOpened line
opens list x line h = record { rest = h.consists.0; begins = h.consists.1 }

one_edge_line : (k l : Key) (x y : EdgeNumbers) (line : List ℕ) → IsEdgeLine k x line → IsEdgeLine l y line → x ≡ y
one_edge_line k l x y line a b = some_is x y (sym (edge_found k x line a) ∙ edge_found l y line b)

no_key_edge : (key list : Key) (line rest : List ℕ) (x : EdgeNumbers) → HasKey key line rest → IsEdgeLine list x line → ⊥
no_key_edge key list line rest x a b = no_key_opened key line rest a (opens list x line b)

-- A line says one thing at most.

pub one_entry : (before : LatestFirst) (line : List ℕ) (e f : Statement) → Says before line e → Says before line f → e ≡ f
one_entry before line nothing nothing a b = refl
one_entry before line nothing (states k n) a b = absurd (a.no_key k b.is_line.rest b.is_line.has_key)
one_entry before line nothing (lists list x) a b = absurd (a.no_edge (opens list b.numbers line b.is_line))
one_entry before line (states k n) nothing a b = absurd (b.no_key k a.is_line.rest a.is_line.has_key)
one_entry before line (states k n) (states l m) a b =
    let same = one_key_line k l a.digits b.digits line a.is_line b.is_line in
    let value : n ≡ m = a.value ∙ ap (option_map (digits_value 10)) same.1 ∙ sym b.value in
    ap (λ (key : Key). states key n) same.0 ∙ ap (states l) value
one_entry before line (states k n) (lists list x) a b = absurd (no_key_edge k list line a.is_line.rest b.numbers a.is_line.has_key b.is_line)
one_entry before line (lists list x) nothing a b = absurd (b.no_edge (opens list a.numbers line a.is_line))
one_entry before line (lists list x) (states k n) a b = absurd (no_key_edge k list line b.is_line.rest a.numbers b.is_line.has_key a.is_line)
one_entry before line (lists list x) (lists other y) a b =
    let same : list ≡ other = some_is list other (sym a.under ∙ b.under) in
    let numbers = one_edge_line list other a.numbers b.numbers line a.is_line b.is_line in
    let edge : x ≡ y = a.value ∙ ap (λ (key : Key). edge_of key a.numbers) same ∙ ap (edge_of other) numbers ∙ sym b.value in
    ap (λ (key : Key). lists key x) same ∙ ap (lists other) edge

-- A good line has no fault.

no_bad_edge : (before : LatestFirst) (line : List ℕ) (e : Statement) → Says before line e → IsBadEdge before line → ⊥
no_bad_edge before line nothing a bad = a.no_edge bad.opened
no_bad_edge before line (states k n) a bad = no_key_opened k line a.is_line.rest a.is_line.has_key bad.opened
no_bad_edge before line (lists list x) a bad = bad.no_shape list a.numbers a.under a.is_line

no_bad_key : (before : LatestFirst) (line : List ℕ) (e : Statement) → Says before line e → IsBadKey line → ⊥
no_bad_key before line nothing a bad = a.no_key bad.k bad.rest bad.has_key
no_bad_key before line (states k n) a bad = bad.no_shape a.digits (shape_there k bad.k line a.is_line.rest bad.rest a.digits a.is_line.has_key bad.has_key a.is_line.has_shape)
no_bad_key before line (lists list x) a bad = no_key_edge bad.k list line bad.rest a.numbers bad.has_key a.is_line

no_long_edge : (before : LatestFirst) (line : List ℕ) (e : Statement) → Says before line e → IsLongEdge before line → ⊥
no_long_edge before line nothing a bad = a.no_edge (opens bad.list bad.numbers line bad.is_line)
no_long_edge before line (states k n) a bad = no_key_edge k bad.list line a.is_line.rest bad.numbers a.is_line.has_key bad.is_line
no_long_edge before line (lists list x) a bad =
    bad.long (subst (λ (y : EdgeNumbers). AreShort (numbers_of y)) (one_edge_line list bad.list a.numbers bad.numbers line a.is_line bad.is_line) a.short)

long_and_short : (d : Option (List ℕ)) (digits : List ℕ) → d ≡ Some digits → IfSome d IsShort → 18 < length digits → ⊥
long_and_short d digits same short long =
    let within : length digits ≤ 18 = subst (λ (o : Option (List ℕ)). IfSome o IsShort) same short in
    omega arith

no_long_key : (before : LatestFirst) (line : List ℕ) (e : Statement) → Says before line e → IsLongKey line → ⊥
no_long_key before line nothing a bad = a.no_key bad.k bad.is_line.rest bad.is_line.has_key
no_long_key before line (states k n) a bad = long_and_short a.digits bad.digits (one_key_line k bad.k a.digits (Some bad.digits) line a.is_line bad.is_line).1 a.short bad.long
no_long_key before line (lists list x) a bad = no_key_edge bad.k list line bad.is_line.rest a.numbers bad.is_line.has_key a.is_line

no_double : (before : LatestFirst) (line : List ℕ) (e : Statement) (l : Key) → Says before line e → IsDouble before line l → ⊥
no_double before line nothing l a bad = a.no_key l bad.is_line.rest bad.is_line.has_key
no_double before line (states k n) l a bad =
    true≢false (sym bad.again ∙ ap (λ (key : Key). stands key before) (sym (one_key_line k l a.digits bad.digits line a.is_line bad.is_line).0) ∙ a.once)
no_double before line (lists list x) l a bad = no_key_edge l list line bad.is_line.rest a.numbers bad.is_line.has_key a.is_line

pub no_bad : (before : LatestFirst) (at : ℕ) (line : List ℕ) (e : Statement) (fault : DatFault) → Says before line e → IsBad before at line fault → ⊥
no_bad before at line e (Syntax n) a bad = elim bad.1 [ inl edge ↦ no_bad_edge before line e a edge | inr key ↦ no_bad_key before line e a key ]
no_bad before at line e (MissingKey k) a bad = bad
no_bad before at line e (DoubleKey k) a bad = no_double before line e k a bad
no_bad before at line e (CountDiffers k stated found) a bad = bad
no_bad before at line e (NumberTooLong n) a bad = elim bad.1 [ inl edge ↦ no_long_edge before line e a edge | inr key ↦ no_long_key before line e a key ]
no_bad before at line e (Refused fault) a bad = bad

-- A line has one fault at most.

syntax_or_long : (before : LatestFirst) (line : List ℕ) → IsBadEdge before line ⊎ IsBadKey line → IsLongEdge before line ⊎ IsLongKey line → ⊥
syntax_or_long before line (inl a) (inl b) = a.no_shape b.list b.numbers b.under b.is_line
syntax_or_long before line (inl a) (inr b) = no_key_opened b.k line b.is_line.rest b.is_line.has_key a.opened
syntax_or_long before line (inr a) (inl b) = no_key_edge a.k b.list line a.rest b.numbers a.has_key b.is_line
syntax_or_long before line (inr a) (inr b) = a.no_shape (Some b.digits) (shape_there b.k a.k line b.is_line.rest a.rest (Some b.digits) b.is_line.has_key a.has_key b.is_line.has_shape)

syntax_or_double : (before : LatestFirst) (line : List ℕ) (k : Key) → IsBadEdge before line ⊎ IsBadKey line → IsDouble before line k → ⊥
syntax_or_double before line k (inl a) b = no_key_opened k line b.is_line.rest b.is_line.has_key a.opened
syntax_or_double before line k (inr a) b = a.no_shape b.digits (shape_there k a.k line b.is_line.rest a.rest b.digits b.is_line.has_key a.has_key b.is_line.has_shape)

long_or_double : (before : LatestFirst) (line : List ℕ) (k : Key) → IsLongEdge before line ⊎ IsLongKey line → IsDouble before line k → ⊥
long_or_double before line k (inl a) b = no_key_edge k a.list line b.is_line.rest a.numbers b.is_line.has_key a.is_line
long_or_double before line k (inr a) b = long_and_short b.digits a.digits (one_key_line k a.k b.digits (Some a.digits) line b.is_line a.is_line).1 b.short a.long

pub one_bad : (before : LatestFirst) (at : ℕ) (line : List ℕ) (f g : DatFault) → IsBad before at line f → IsBad before at line g → f ≡ g
one_bad before at line (MissingKey k) g a b = absurd a
one_bad before at line (CountDiffers k stated found) g a b = absurd a
one_bad before at line (Refused fault) g a b = absurd a
one_bad before at line f (MissingKey k) a b = absurd b
one_bad before at line f (CountDiffers k stated found) a b = absurd b
one_bad before at line f (Refused fault) a b = absurd b
one_bad before at line (Syntax n) (Syntax m) a b = ap Syntax (a.0 ∙ sym b.0)
one_bad before at line (Syntax n) (NumberTooLong m) a b = absurd (syntax_or_long before line a.1 b.1)
one_bad before at line (Syntax n) (DoubleKey k) a b = absurd (syntax_or_double before line k a.1 b)
one_bad before at line (NumberTooLong n) (Syntax m) a b = absurd (syntax_or_long before line b.1 a.1)
one_bad before at line (NumberTooLong n) (NumberTooLong m) a b = ap NumberTooLong (a.0 ∙ sym b.0)
one_bad before at line (NumberTooLong n) (DoubleKey k) a b = absurd (long_or_double before line k a.1 b)
one_bad before at line (DoubleKey k) (Syntax m) a b = absurd (syntax_or_double before line k b.1 a)
one_bad before at line (DoubleKey k) (NumberTooLong m) a b = absurd (long_or_double before line k b.1 a)
one_bad before at line (DoubleKey k) (DoubleKey l) a b = ap DoubleKey (one_key_line k l a.digits b.digits line a.is_line b.is_line).0
