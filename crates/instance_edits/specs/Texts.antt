-- The text of edits, and its first bad line.
use Rattle.std.specs.Prelude.{◌≡◌, ◌≢◌, ℕ, ◌+◌, ◌^◌, ◌<◌, List, [], ◌++◌, length, codes, decimal}
use Rattle.std.specs.List.{All, flat_map}
use Rattle.carp_base.specs.Problem.{Problem}
use Rattle.carp_base.specs.declared.fail.Fail.{Fail}
use Rattle.carp_base.specs.declared.fail.Fail.TheVariants as fails
use Rattle.instance_edits.specs.declared.edit.Edit.{Edit}
use Rattle.instance_edits.specs.declared.edit.Edit.TheVariants.{Cost, Service, Demand, Close}
use Rattle.instance_edits.specs.declared.edit.EditFault.{EditFault}
use Rattle.instance_edits.specs.declared.edit.EditFault.TheVariants.{Syntax, Unknown, Refused}
use Rattle.instance_edits.specs.Edits.{AreKnown, IsKnown}

-- the line of an edit: single blanks, plain decimals, and LF at the end
abbrev pub two_numbers : List ℕ → ℕ → ℕ → List ℕ
two_numbers word e n = word ++ decimal e ++ codes " " ++ decimal n ++ codes "\n"

abbrev pub edit_text : Edit → List ℕ
edit_text (Cost e n) = two_numbers (codes "cost ") e n
edit_text (Service e n) = two_numbers (codes "service ") e n
edit_text (Demand e n) = two_numbers (codes "demand ") e n
edit_text (Close e) = codes "close " ++ decimal e ++ codes "\n"

-- its numbers have at most 12 digits
abbrev pub HasShortNumbers : Edit → Type 0
HasShortNumbers (Cost e n) = (e < 10 ^ 12) × (n < 10 ^ 12)
HasShortNumbers (Service e n) = (e < 10 ^ 12) × (n < 10 ^ 12)
HasShortNumbers (Demand e n) = (e < 10 ^ 12) × (n < 10 ^ 12)
HasShortNumbers (Close e) = e < 10 ^ 12

-- the bytes begin with the lines of these edits, each of which names an edge that it may name
pub record BeginsWith (p : Problem) (bytes : List ℕ) (edits : List Edit) (rest : List ℕ) : Type 0 where
  pub cut : bytes ≡ flat_map edit_text edits ++ rest
  pub short : All HasShortNumbers edits
  pub known : AreKnown p [] edits

-- the bytes are the text of these edits
abbrev pub IsEditsText : Problem → List ℕ → List Edit → Type 0
IsEditsText p bytes edits = BeginsWith p bytes edits []

-- the bytes do not begin with the line of an edit
abbrev pub NoEditBegins : List ℕ → Type 0
NoEditBegins bytes = (edit : Edit) (rest : List ℕ) → HasShortNumbers edit → bytes ≢ edit_text edit ++ rest

-- the line of this number is the first bad one: it is there, and cannot be read
pub record IsUnreadAt (p : Problem) (bytes : List ℕ) (line : ℕ) : Type 0 where
  pub edits : List Edit
  pub rest : List ℕ
  pub begins : BeginsWith p bytes edits rest
  pub some : rest ≢ []
  pub bad : NoEditBegins rest
  pub line_is : line ≡ length edits + 1

-- or it is an edit that names an edge that it may not name
pub record IsUnknownAt (p : Problem) (bytes : List ℕ) (line : ℕ) : Type 0 where
  pub edits : List Edit
  pub edit : Edit
  pub rest : List ℕ
  pub begins : BeginsWith p bytes edits (edit_text edit ++ rest)
  pub short : HasShortNumbers edit
  pub unknown : ¬ (IsKnown p edits edit)
  pub line_is : line ≡ length edits + 1

-- the fault of the first bad line; the instance that edits make is not looked at
abbrev pub IsFirstBad : Problem → List ℕ → EditFault → Type 0
IsFirstBad p bytes (Syntax line) = IsUnreadAt p bytes line
IsFirstBad p bytes (Unknown line) = IsUnknownAt p bytes line
IsFirstBad p bytes (Refused fault) = ⊥

-- a refusal names the first bad line; want of memory says nothing of the bytes
abbrev pub RefusesFirstBad : Problem → List ℕ → Fail EditFault → Type 0
RefusesFirstBad p bytes fails.Memory = Unit {0}
RefusesFirstBad p bytes (fails.Refused fault) = IsFirstBad p bytes fault
