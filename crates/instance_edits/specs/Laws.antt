-- Bytes are the text of at most one list of edits, or have one first bad line.
use Rattle.std.specs.Prelude.{◌≡◌, ℕ, List}
use Rattle.carp_base.specs.Problem.{Problem}
use Rattle.instance_edits.specs.declared.edit.Edit.{Edit}
use Rattle.instance_edits.specs.declared.edit.EditFault.{EditFault}
use Rattle.instance_edits.specs.Texts.{IsEditsText, IsFirstBad}

abbrev pub EditsAreUnique : Type 0
EditsAreUnique = (p : Problem) (bytes : List ℕ) (edits others : List Edit) → IsEditsText p bytes edits → IsEditsText p bytes others → edits ≡ others

abbrev pub EditsHaveNoFault : Type 0
EditsHaveNoFault = (p : Problem) (bytes : List ℕ) (edits : List Edit) (fault : EditFault) → IsEditsText p bytes edits → ¬ (IsFirstBad p bytes fault)

abbrev pub BadLineIsUnique : Type 0
BadLineIsUnique = (p : Problem) (bytes : List ℕ) (fault other : EditFault) → IsFirstBad p bytes fault → IsFirstBad p bytes other → fault ≡ other
