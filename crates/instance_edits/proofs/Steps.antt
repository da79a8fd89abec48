-- One line more, and the fault of a line.
use Rattle.std.proofs.Common.{◌≡◌, ℕ, ◌+◌, ◌<◌, List, [], ◌∷◌, ◌++◌, length, refl, sym, ap, subst, ◌∙◌, arith, append_assoc}
use Rattle.std.specs.Prelude.{◌≢◌}
use Rattle.std.specs.List.{flat_map}
use Rattle.std.proofs.lemmas.Grind.{flat_map-append}
use Rattle.std.proofs.lemmas.List.{append-nil, length-append}
use Rattle.std.proofs.lemmas.List.Elements.{All-push, All-nil}
use Rattle.carp_base.specs.Problem.{Problem}
use Rattle.instance_edits.specs.declared.edit.Edit.{Edit}
use Rattle.instance_edits.specs.declared.edit.EditFault.{EditFault}
use Rattle.instance_edits.specs.declared.edit.EditFault.TheVariants.{Syntax, Unknown, Refused}
use Rattle.instance_edits.specs.Edits.{AreKnown, IsKnown}
use Rattle.instance_edits.specs.Texts.{edit_text, HasShortNumbers, BeginsWith, IsFirstBad}
use Rattle.instance_edits.specs.Reading.{IsNext, IsBad}
use Rattle.instance_edits.proofs.Lines.{line_some}

pub nothing_yet : (p : Problem) (bytes : List ℕ) → BeginsWith p bytes [] bytes
nothing_yet p bytes = record { cut = refl; short = All-nil HasShortNumbers; known = tt }

known_push : (p : Problem) (xs before : List Edit) (x : Edit) → AreKnown p before xs → IsKnown p (before ++ xs) x → AreKnown p before (xs ++ x ∷ [])
known_push p [] before x known last = (subst (λ (b : List Edit). IsKnown p b x) (append-nil before) last, tt)
known_push p (y ∷ xs) before x known last =
    (known.0, known_push p xs (before ++ y ∷ []) x known.1 (subst (λ (b : List Edit). IsKnown p b x) (sym (append_assoc before (y ∷ []) xs)) last))

one_text : (edit : Edit) → flat_map edit_text (edit ∷ []) ≡ edit_text edit
one_text edit = append-nil (edit_text edit)

pub one_more : (p : Problem) (bytes : List ℕ) (edits : List Edit) (text : List ℕ) (edit : Edit) (rest : List ℕ) → BeginsWith p bytes edits text → IsNext p edits text edit rest →
    BeginsWith p bytes (edits ++ edit ∷ []) rest
one_more p bytes edits text edit rest begun next = record {
  cut =
      begun.cut
      ∙ ap (λ (x : List ℕ). flat_map edit_text edits ++ x) next.cut
      ∙ sym (append_assoc (flat_map edit_text edits) (edit_text edit) rest)
      ∙ ap (λ (x : List ℕ). (flat_map edit_text edits ++ x) ++ rest) (sym (one_text edit))
      ∙ ap (λ (x : List ℕ). x ++ rest) (sym (flat_map-append edit_text edits (edit ∷ [])));
  short = All-push HasShortNumbers edits edit begun.short next.short;
  known = known_push p edits [] edit begun.known next.known;
}

pub fault_told : (p : Problem) (bytes : List ℕ) (edits : List Edit) (text : List ℕ) (line : ℕ) (fault : EditFault) → BeginsWith p bytes edits text → text ≢ [] → line ≡ length edits + 1 →
    IsBad p edits text line fault → IsFirstBad p bytes fault
fault_told p bytes edits text line (Syntax at) begun some numbered bad = record {
  edits = edits;
  rest = text;
  begins = begun;
  some = some;
  bad = bad.1;
  line_is = bad.0 ∙ numbered;
}
fault_told p bytes edits text line (Unknown at) begun some numbered bad = record {
  edits = edits;
  edit = bad.1.edit;
  rest = bad.1.rest;
  begins = subst (λ (x : List ℕ). BeginsWith p bytes edits x) bad.1.cut begun;
  short = bad.1.short;
  unknown = bad.1.unknown;
  line_is = bad.0 ∙ numbered;
}
fault_told p bytes edits text line (Refused fault) begun some numbered bad = absurd bad

shorter : (a r : List ℕ) → (a ++ r ≡ [] → ⊥) → ((a ≡ [] → ⊥)) → length r < length (a ++ r)
shorter [] r some word = absurd (word refl)
shorter (x ∷ a) r some word = omega (arith, length-append a r)

pub line_shorter : (p : Problem) (edits : List Edit) (text : List ℕ) (edit : Edit) (rest : List ℕ) → IsNext p edits text edit rest → length rest < length text
line_shorter p edits text edit rest next =
    let word : edit_text edit ≡ [] → ⊥ = λ none. line_some edit [] (append-nil (edit_text edit) ∙ none) in
    let less : length rest < length (edit_text edit ++ rest) = shorter (edit_text edit) rest (line_some edit rest) word in
    omega (arith, less, ap length next.cut)
