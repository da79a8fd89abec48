-- Laws over all texts.
use Rattle.std.specs.Prelude.{◌≡◌, ℕ, ◌≤◌, List, length}
use Rattle.carp_base.specs.Problem.{Problem, IsValid}
use Rattle.dat_text.specs.declared.fault.DatFault.{DatFault}
use Rattle.dat_text.specs.DatText.{dat_of}
use Rattle.dat_text.specs.Text.{IsTextOf, IsFaultOf}

-- the text that is written of an instance is a text of this instance
abbrev pub WrittenIsRead : Type 0
WrittenIsRead = (p : Problem) → IsValid p → IsTextOf (dat_of p) p

-- the text that is written of a valid instance has at most 4,194,304 bytes
abbrev pub WrittenIsShort : Type 0
WrittenIsShort = (p : Problem) → IsValid p → length (dat_of p) ≤ 4194304

-- bytes are a text of at most one instance
abbrev pub InstanceIsUnique : Type 0
InstanceIsUnique = (bytes : List ℕ) (p q : Problem) → IsTextOf bytes p → IsTextOf bytes q → p ≡ q

-- bytes have at most one first fault
abbrev pub FaultIsUnique : Type 0
FaultIsUnique = (bytes : List ℕ) (f g : DatFault) → IsFaultOf bytes f → IsFaultOf bytes g → f ≡ g

-- no text of an instance has a fault
abbrev pub TextHasNoFault : Type 0
TextHasNoFault = (bytes : List ℕ) (p : Problem) (fault : DatFault) → IsTextOf bytes p → ¬ (IsFaultOf bytes fault)
