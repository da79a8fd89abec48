-- Marks of closed edges, and edits that name an edge that they may name.
use Rattle.std.proofs.Common.{Bor, ◌≡◌, ℕ, zero, suc, ◌+◌, ◌<◌, ◌≤◌, Option, Some, None, Bool, true, false, ◌&&◌, not, leb, List, [], ◌∷◌, length, refl, sym, ap, ◌∙◌, arith, eq-eqb, inl, inr}
use Rattle.std.specs.Prelude.{slice_index_or, ◌⊎◌}
use Rattle.std.specs.List.{list_any}
use Rattle.std.specs.Option.{option_map}
use Rattle.std.proofs.lemmas.Bool.{and_parts, and_from, leb-true, le-leb, false≢true, eqb-true, or_cases, or_left, or_right, both_ways, not-true, not_from_false, false_from_ne_true}
use Rattle.std.proofs.lemmas.List.Elements.{Contains-append_left, Contains-append_right}
use Rattle.carp_base.specs.Problem.{Problem, IsEdgeNumber, IsRequired}
use Rattle.instance_edits.specs.declared.edit.Edit.{Edit}
use Rattle.instance_edits.specs.declared.edit.Edit.TheVariants.{Cost, Service, Demand, Close}
use Rattle.instance_edits.specs.Edits.{closes, IsClosed, IsKnown}
use Rattle.instance_edits.specs.Reading.{edit_of, is_open, is_required, is_known, line_at, MarksClosedEdges, IsNext, IsUnknown}
use Rattle.instance_edits.specs.declared.line.Line.{Line}
use Rattle.instance_edits.proofs.Lines.{line_told}

closes_told : (e : ℕ) (x : Edit) → closes e x ≡ true → x ≡ Close e
closes_told e (Close d) is = ap (λ (k : ℕ). Close k) (eqb-true d e is)
closes_told e (Cost d n) is = absurd (false≢true is)
closes_told e (Service d n) is = absurd (false≢true is)
closes_told e (Demand d n) is = absurd (false≢true is)

pub closed_from : (e : ℕ) (xs : List Edit) → list_any (closes e) xs ≡ true → IsClosed xs e
closed_from e [] is = absurd (false≢true is)
closed_from e (x ∷ xs) is = closed_step (or_cases (closes e x) (list_any (closes e) xs) is) (closed_from e xs)
  where
    closed_step : (closes e x ≡ true) ⊎ (list_any (closes e) xs ≡ true) → (list_any (closes e) xs ≡ true → IsClosed xs e) → IsClosed (x ∷ xs) e
    closed_step (inl here) more = Contains-append_left (x ∷ []) xs (Close e) (0, omega arith, closes_told e x here)
    closed_step (inr later) more = Contains-append_right (x ∷ []) xs (Close e) (more later)

marked_at : (e : ℕ) (xs : List Edit) (k : ℕ) → k < length xs → slice_index_or xs k (Close e) ≡ Close e → list_any (closes e) xs ≡ true
marked_at e [] k below at = absurd (omega arith)
marked_at e (x ∷ xs) zero below at = or_left (closes e x) (list_any (closes e) xs) (ap (closes e) at ∙ eq-eqb e e refl)
marked_at e (x ∷ xs) (suc k) below at = or_right (closes e x) (list_any (closes e) xs) (marked_at e xs k (omega arith) at)

pub any_from : (e : ℕ) (xs : List Edit) → IsClosed xs e → list_any (closes e) xs ≡ true
any_from e xs closed = marked_at e xs closed.0 closed.1 closed.2

open_parts : (p : Problem) (marks : List Bool) (e : ℕ) → is_open p marks e ≡ true → (1 ≤ e) × (e ≤ length p.edges) × (slice_index_or marks e false ≡ false)
open_parts p marks e is =
    let one = and_parts (leb 1 e && leb e (length p.edges)) (not (slice_index_or marks e false)) is in
    let two = and_parts (leb 1 e) (leb e (length p.edges)) one.0 in
    (leb-true 1 e two.0, leb-true e (length p.edges) two.1, not-true (slice_index_or marks e false) one.1)

open_from : (p : Problem) (marks : List Bool) (e : ℕ) → 1 ≤ e → e ≤ length p.edges → slice_index_or marks e false ≡ false → is_open p marks e ≡ true
open_from p marks e low high none =
    and_from (leb 1 e && leb e (length p.edges)) (not (slice_index_or marks e false))
    (and_from (leb 1 e) (leb e (length p.edges)) (le-leb 1 e low) (le-leb e (length p.edges) high)) (not_from_false (slice_index_or marks e false) none)

required_parts : (p : Problem) (e : ℕ) → is_required p e ≡ true → IsRequired p e
required_parts p e is =
    let two = and_parts (leb 1 e) (leb e p.required) is in
    record { from_one = leb-true 1 e two.0; in_range = leb-true e p.required two.1 }

required_from : (p : Problem) (e : ℕ) → IsRequired p e → is_required p e ≡ true
required_from p e is = and_from (leb 1 e) (leb e p.required) (le-leb 1 e is.from_one) (le-leb e p.required is.in_range)

module _ (p : Problem) (marks : List Bool) (before : List Edit) (all : length marks ≡ length p.edges + 1) (marked : MarksClosedEdges marks before) where
  open_told : (e : ℕ) → is_open p marks e ≡ true → IsEdgeNumber p e × ¬ (IsClosed before e)
  open_told e is =
      let parts = open_parts p marks e is in
      (record { from_one = parts.0; in_range = parts.1 }, λ closed. both_ways (slice_index_or marks e false) parts.2 (marked e (omega (arith, parts.1, all)) ∙ any_from e before closed))

  told_open : (e : ℕ) → IsEdgeNumber p e → ¬ (IsClosed before e) → is_open p marks e ≡ true
  told_open e edge never =
      open_from p marks e edge.from_one edge.in_range
      (false_from_ne_true (slice_index_or marks e false) (λ on. never (closed_from e before (sym (marked e (omega (arith, edge.in_range, all))) ∙ on))))

  pub known_when : (edit : Edit) → is_known p marks edit ≡ true → IsKnown p before edit
  unfolding is_known
  known_when (Cost e n) is = open_told e is
  known_when (Service e n) is = required_parts p e is
  known_when (Demand e n) is = required_parts p e is
  known_when (Close e) is =
      let parts = and_parts (is_open p marks e) (not (leb e p.required)) is in
      let free = open_told e parts.0 in
      (free.0, (λ needed. both_ways (leb e p.required) (not-true (leb e p.required) parts.1) (le-leb e p.required needed.in_range)), free.1)

  pub when_known : (edit : Edit) → IsKnown p before edit → is_known p marks edit ≡ true
  unfolding is_known
  when_known (Cost e n) known = told_open e known.0 known.1
  when_known (Service e n) known = required_from p e known
  when_known (Demand e n) known = required_from p e known
  when_known (Close e) known =
      and_from (is_open p marks e) (not (leb e p.required)) (told_open e known.0 known.2)
      (not_from_false (leb e p.required) (false_from_ne_true (leb e p.required) (λ within. known.1 (record { from_one = known.0.from_one; in_range = leb-true e p.required within }))))

-- what becomes of the next line
module _ (p : Problem) (marks : List Bool) (before : List Edit) (all : length marks ≡ length p.edges + 1) (marked : MarksClosedEdges marks before)
    (text : List ℕ) (edit : Edit) (rest : List ℕ) (read : line_at text ≡ Some (edit, rest)) where
  pub next_is : is_known p marks edit ≡ true → IsNext p before text edit rest
  next_is is =
      let line = line_told text edit rest read in
      record { cut = line.cut; short = line.short; known = known_when p marks before all marked edit is }

  pub unknown_is : is_known p marks edit ≡ false → IsUnknown p before text
  unknown_is is =
      let line = line_told text edit rest read in
      record {
        edit = edit;
        rest = rest;
        cut = line.cut;
        short = line.short;
        unknown = λ known. both_ways (is_known p marks edit) is (when_known p marks before all marked edit known);
      }

-- the answer of the reader of lines
abbrev shown : Line × Bor (List ℕ) → Edit × List ℕ
shown p = (edit_of p.0, p.1.now)

pub line_some : (text : List ℕ) (answer : Option (Line × Bor (List ℕ))) (line : Line) (rest : Bor (List ℕ)) → option_map shown answer ≡ line_at text → answer ≡ Some (line, rest) →
    line_at text ≡ Some (edit_of line, rest.now)
line_some text answer line rest e is = sym e ∙ ap (option_map shown) is

pub line_none : (text : List ℕ) (answer : Option (Line × Bor (List ℕ))) → option_map shown answer ≡ line_at text → answer ≡ None → line_at text ≡ None
line_none text answer e is = sym e ∙ ap (option_map shown) is
