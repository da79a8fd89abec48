-- What has been read so far, as the private functions keep it, against what the lines say. No public contract cites this.
use Rattle.std.specs.Prelude.{◌≡◌, ℕ, Bool, true, false, List, [], ◌∷◌, slice_index_or, IsTrue, Option, Some, None, is_some, Result, Ok, Err}
use Rattle.carp_base.specs.declared.fail.Fail.{Fail}
use Rattle.carp_base.specs.declared.fail.Fail.TheVariants as fails
use Rattle.dat_text.specs.declared.key.Key.{Key}
use Rattle.dat_text.specs.declared.key.Key.TheVariants.{RequiredList, OtherList}
use Rattle.dat_text.specs.declared.fault.DatFault.{DatFault}
use Rattle.dat_text.specs.declared.draft.Draft.{Draft}
use Rattle.dat_text.specs.declared.draft.Stated.{Stated}
use Rattle.dat_text.specs.declared.draft.Stated.TheVariants as stated
use Rattle.dat_text.specs.declared.draft.Described.{Described}
use Rattle.dat_text.specs.Lines.{has_number}
use Rattle.dat_text.specs.Text.{Description, Describes, IsComplete, IsIncomplete, IsFaultOf, Statement, key_place, stands, number_of, list_of, edges_of, lines_of, Says, IsBad, AreGood, HasFirstBad, LatestFirst}

abbrev pub is_there : Stated → Bool
is_there stated.Nowhere = false
is_there stated.List = true
is_there (stated.Number n) = true

abbrev pub number_there : Stated → Option ℕ
number_there stated.Nowhere = None
number_there stated.List = None
number_there (stated.Number n) = Some n

abbrev pub at_key : Key → Draft → Stated
at_key k draft = slice_index_or draft.stated (key_place k) stated.Nowhere

-- the draft holds what is said
pub record Matches (said : LatestFirst) (draft : Draft) : Type 0 where
  pub stands : (k : Key) → is_there (at_key k draft) ≡ stands k said
  pub numbers : (k : Key) → number_there (at_key k draft) ≡ number_of k said
  pub fits : (k : Key) → IsTrue (has_number k) → is_there (at_key k draft) ≡ is_some (number_there (at_key k draft))
  pub list : draft.list ≡ list_of said
  pub required : draft.required.items ≡ edges_of RequiredList said
  pub others : draft.others.items ≡ edges_of OtherList said

-- a line was taken after what is said: it is good, and the draft holds what it says too, or it is bad with this fault
abbrev pub Takes : LatestFirst → ℕ → List ℕ → Draft → Result (Unit {0}) (Fail DatFault) → Type 0
Takes said at line draft (Ok _) = (statement : Statement) × Says said line statement × Matches (statement ∷ said) draft
Takes said at line draft (Err fails.Memory) = Unit {0}
Takes said at line draft (Err (fails.Refused fault)) = IsBad said at line fault

-- all lines were taken
abbrev pub ReadsLines : List ℕ → Result Draft (Fail DatFault) → Type 0
ReadsLines bytes (Ok draft) = (said : LatestFirst) × AreGood [] (lines_of bytes) said × Matches said draft
ReadsLines bytes (Err fails.Memory) = Unit {0}
ReadsLines bytes (Err (fails.Refused fault)) = HasFirstBad [] 1 (lines_of bytes) fault

-- the description, apart from where it lies in memory
abbrev pub description_of : Described → Description
description_of d = record { vertices = d.vertices; depot = d.depot; capacity = d.capacity; required = d.required.items; others = d.others.items }

-- what is said was ended: it is complete, and this is described, or this is its fault
abbrev pub Ends : LatestFirst → Result Described DatFault → Type 0
Ends said (Ok d) = IsComplete said (description_of d)
Ends said (Err fault) = IsIncomplete said fault

-- what the bytes describe, or their first fault but for those of the instance
abbrev pub ReadsText : List ℕ → Result Described (Fail DatFault) → Type 0
ReadsText bytes (Ok d) = Describes bytes (description_of d)
ReadsText bytes (Err fails.Memory) = Unit {0}
ReadsText bytes (Err (fails.Refused fault)) = IsFaultOf bytes fault
