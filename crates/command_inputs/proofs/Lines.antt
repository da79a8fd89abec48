-- Each edit takes a byte of its text or more.
use Rattle.std.proofs.Common.{◌≡◌, ℕ, ◌+◌, ◌≤◌, List, [], ◌∷◌, ◌++◌, length, codes, ap, arith}
use Rattle.std.proofs.lemmas.List.{length-append}
use Rattle.std.specs.Prelude.{decimal}
use Rattle.std.specs.List.{flat_map}
use Rattle.carp_base.specs.Problem.{Problem}
use Rattle.instance_edits.specs.declared.edit.Edit.{Edit}
use Rattle.instance_edits.specs.declared.edit.Edit.TheVariants.{Cost, Service, Demand, Close}
use Rattle.instance_edits.specs.Texts.{IsEditsText, edit_text}

ends : (front : List ℕ) → 1 ≤ length (front ++ codes "\n")
ends front = rw (length-append front (codes "\n")) (omega arith)

some_byte : (edit : Edit) → 1 ≤ length (edit_text edit)
some_byte (Cost e n) = ends (codes "cost " ++ decimal e ++ codes " " ++ decimal n)
some_byte (Service e n) = ends (codes "service " ++ decimal e ++ codes " " ++ decimal n)
some_byte (Demand e n) = ends (codes "demand " ++ decimal e ++ codes " " ++ decimal n)
some_byte (Close e) = ends (codes "close " ++ decimal e)

few_lines : (edits : List Edit) → length edits ≤ length (flat_map edit_text edits)
few_lines [] = omega arith
few_lines (edit ∷ edits) = rw (length-append (edit_text edit) (flat_map edit_text edits)) (omega (arith, some_byte edit, few_lines edits))

pub few_edits : (p : Problem) (bytes : List ℕ) (edits : List Edit) (most : ℕ) → IsEditsText p bytes edits → length bytes ≤ most → length edits ≤ most
few_edits p bytes edits most text short =
    let whole : length bytes ≡ length (flat_map edit_text edits ++ []) = ap length text.cut in
    let parts : length (flat_map edit_text edits ++ []) ≡ length (flat_map edit_text edits) + 0 = length-append (flat_map edit_text edits) [] in
    omega (arith, whole, parts, few_lines edits, short)
