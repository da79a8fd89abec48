-- Bytes begin with the lines of edits in one way.
use Rattle.std.proofs.Common.{◌≡◌, ℕ, ◌+◌, List, [], ◌∷◌, ◌++◌, length, refl, sym, ap, subst, ◌∙◌, append_assoc}
use Rattle.std.specs.List.{AllByRecursion, flat_map}
use Rattle.std.proofs.lemmas.List.{append-nil}
use Rattle.std.proofs.lemmas.List.Elements.{recursion_from_All}
use Rattle.carp_base.specs.Problem.{Problem}
use Rattle.instance_edits.specs.declared.edit.Edit.{Edit}
use Rattle.instance_edits.specs.declared.edit.EditFault.TheVariants.{Syntax, Unknown, Refused}
use Rattle.instance_edits.specs.Edits.{AreKnown, IsKnown}
use Rattle.instance_edits.specs.Texts.{edit_text, HasShortNumbers, NoEditBegins, BeginsWith, IsUnreadAt, IsUnknownAt}
use Rattle.instance_edits.specs.Laws.{EditsAreUnique, EditsHaveNoFault, BadLineIsUnique}
use Rattle.instance_edits.proofs.Lines.{line_same, line_some}

-- no edit that may follow stands at the front of the rest
abbrev Stops : Problem → List Edit → List ℕ → Type 0
Stops p before rest = (edit : Edit) (after : List ℕ) → HasShortNumbers edit → rest ≡ edit_text edit ++ after → IsKnown p before edit → ⊥

record IsSame (xs ys : List Edit) (r s : List ℕ) : Type 0 where
  pub edits : xs ≡ ys
  pub rest : r ≡ s

abbrev AllShort : List Edit → Type 0
AllShort xs = AllByRecursion HasShortNumbers xs

same_from : (p : Problem) (xs ys : List Edit) (before : List Edit) (r s : List ℕ) → flat_map edit_text xs ++ r ≡ flat_map edit_text ys ++ s →
    AllShort xs → AllShort ys → AreKnown p before xs → AreKnown p before ys → Stops p (before ++ xs) r → Stops p (before ++ ys) s → IsSame xs ys r s
same_from p [] [] before r s e xshort yshort xknown yknown rstops sstops = record { edits = refl; rest = e }
same_from p [] (y ∷ ys) before r s e xshort yshort xknown yknown rstops sstops =
    absurd (rstops y (flat_map edit_text ys ++ s) yshort.0 (e ∙ append_assoc (edit_text y) (flat_map edit_text ys) s) (subst (λ (b : List Edit). IsKnown p b y) (sym (append-nil before)) yknown.0))
same_from p (x ∷ xs) [] before r s e xshort yshort xknown yknown rstops sstops =
    absurd (sstops x (flat_map edit_text xs ++ r) xshort.0 (sym e ∙ append_assoc (edit_text x) (flat_map edit_text xs) r) (subst (λ (b : List Edit). IsKnown p b x) (sym (append-nil before)) xknown.0))
same_from p (x ∷ xs) (y ∷ ys) before r s e xshort yshort xknown yknown rstops sstops =
    let line = line_same x y (flat_map edit_text xs ++ r) (flat_map edit_text ys ++ s) xshort.0 yshort.0
    (sym (append_assoc (edit_text x) (flat_map edit_text xs) r) ∙ e ∙ append_assoc (edit_text y) (flat_map edit_text ys) s) in
    let known : AreKnown p (before ++ x ∷ []) ys = subst (λ (z : Edit). AreKnown p (before ++ z ∷ []) ys) (sym line.edit) yknown.1 in
    let stops : Stops p ((before ++ x ∷ []) ++ ys) s =
    subst (λ (b : List Edit). Stops p b s) (ap (λ (z : Edit). before ++ z ∷ ys) (sym line.edit) ∙ sym (append_assoc before (x ∷ []) ys)) sstops in
    let more = same_from p xs ys (before ++ x ∷ []) r s line.rest xshort.1 yshort.1 xknown.1 known
    (subst (λ (b : List Edit). Stops p b r) (sym (append_assoc before (x ∷ []) xs)) rstops) stops in
    record { edits = ap (λ (z : Edit). z ∷ xs) line.edit ∙ ap (λ (zs : List Edit). y ∷ zs) more.edits; rest = more.rest }

same_begin : (p : Problem) (bytes : List ℕ) (xs ys : List Edit) (r s : List ℕ) → BeginsWith p bytes xs r → BeginsWith p bytes ys s → Stops p xs r → Stops p ys s → IsSame xs ys r s
same_begin p bytes xs ys r s one other rstops sstops =
    same_from p xs ys [] r s (sym one.cut ∙ other.cut) (recursion_from_All HasShortNumbers xs one.short) (recursion_from_All HasShortNumbers ys other.short) one.known other.known rstops sstops

-- nothing, no line, and a line that names a wrong edge
none_stops : (p : Problem) (xs : List Edit) → Stops p xs []
none_stops p xs = λ edit after short e known. line_some edit after (sym e)

unread_stops : (p : Problem) (xs : List Edit) (r : List ℕ) → NoEditBegins r → Stops p xs r
unread_stops p xs r bad = λ edit after short e known. bad edit after short e

unknown_stops : (p : Problem) (xs : List Edit) (x : Edit) (r : List ℕ) → HasShortNumbers x → ¬ (IsKnown p xs x) → Stops p xs (edit_text x ++ r)
unknown_stops p xs x r small unknown =
    λ edit after short e known. unknown (subst (λ (z : Edit). IsKnown p xs z) (sym (line_same x edit r after small short e).edit) known)

pub edits_same : EditsAreUnique
edits_same p bytes edits others one other = (same_begin p bytes edits others [] [] one other (none_stops p edits) (none_stops p others)).edits

pub no_fault : EditsHaveNoFault
no_fault p bytes edits (Syntax line) one bad =
    bad.some (sym (same_begin p bytes edits bad.edits [] bad.rest one bad.begins (none_stops p edits) (unread_stops p bad.edits bad.rest bad.bad)).rest)
no_fault p bytes edits (Unknown line) one bad =
    line_some bad.edit bad.rest
    (sym (same_begin p bytes edits bad.edits [] (edit_text bad.edit ++ bad.rest) one bad.begins (none_stops p edits) (unknown_stops p bad.edits bad.edit bad.rest bad.short bad.unknown)).rest)
no_fault p bytes edits (Refused fault) one bad = bad

apart : (p : Problem) (bytes : List ℕ) (line other : ℕ) → IsUnreadAt p bytes line → IsUnknownAt p bytes other → ⊥
apart p bytes line other one bad =
    one.bad bad.edit bad.rest bad.short
    (same_begin p bytes one.edits bad.edits one.rest (edit_text bad.edit ++ bad.rest) one.begins bad.begins (unread_stops p one.edits one.rest one.bad) (unknown_stops p bad.edits bad.edit bad.rest bad.short bad.unknown)).rest

pub bad_same : BadLineIsUnique
bad_same p bytes (Syntax line) (Syntax other) one two =
    let same = same_begin p bytes one.edits two.edits one.rest two.rest one.begins two.begins (unread_stops p one.edits one.rest one.bad) (unread_stops p two.edits two.rest two.bad) in
    ap (λ (n : ℕ). Syntax n) (one.line_is ∙ ap (λ (zs : List Edit). length zs + 1) same.edits ∙ sym two.line_is)
bad_same p bytes (Unknown line) (Unknown other) one two =
    let same = same_begin p bytes one.edits two.edits (edit_text one.edit ++ one.rest) (edit_text two.edit ++ two.rest) one.begins two.begins
    (unknown_stops p one.edits one.edit one.rest one.short one.unknown) (unknown_stops p two.edits two.edit two.rest two.short two.unknown) in
    ap (λ (n : ℕ). Unknown n) (one.line_is ∙ ap (λ (zs : List Edit). length zs + 1) same.edits ∙ sym two.line_is)
bad_same p bytes (Syntax line) (Unknown other) one two = absurd (apart p bytes line other one two)
bad_same p bytes (Unknown line) (Syntax other) one two = absurd (apart p bytes other line two one)
bad_same p bytes (Refused fault) other one two = absurd one
bad_same p bytes (Syntax line) (Refused other) one two = absurd two
bad_same p bytes (Unknown line) (Refused other) one two = absurd two
