-- An instance, a certificate and edits that are read from three files, and when they are refused.
use Rattle.std.specs.Prelude.{◌≡◌, ℕ, List, [], ◌∷◌, Option, Result, ◌⊎◌}
use Rattle.carp_base.specs.Problem.{Problem, IsValid}
use Rattle.carp_outside.specs.Causes.{Rose}
use Rattle.carp_base.specs.Faults.{IsFirstFault}
use Rattle.carp_base.specs.declared.fail.Fail.{Fail}
use Rattle.carp_base.specs.declared.fault.InstanceFault.{InstanceFault}
use Rattle.dat_text.specs.Text.{IsTextOf}
use Rattle.cert_lines.specs.Spelling.{IsSpellable}
use Rattle.cert_lines.specs.Texts as certificates
use Rattle.cert_format.specs.Certs.{certificate_in}
use Rattle.cert_format.specs.Good.{IsGood}
use Rattle.instance_edits.specs.declared.edit.Edit.{Edit}
use Rattle.instance_edits.specs.declared.edit.EditFault.{EditFault}
use Rattle.instance_edits.specs.declared.edit.EditFault.TheVariants.{Refused}
use Rattle.instance_edits.specs.Edits.{AreKnown, edited}
use Rattle.instance_edits.specs.Texts.{IsEditsText, IsFirstBad}
use Rattle.command_line.specs.Commands.{instance_at, certificate_at, edits_at}
use Rattle.command_line.specs.Commands.{Source}
use Rattle.command_inputs.specs.Files.{Holds, IsBadInstance, IsGoodText, IsBadCertificate, IsBadFile}
use Rattle.command_inputs.specs.Reads.{EachIsGood, IsOfCertificate, IsOfFile, IsOfInstance, IsTried, Seen}
use Rattle.command_inputs.specs.declared.status.Status.{Status}
use Rattle.command_inputs.specs.declared.status.Status.TheVariants.{BadEdit}
use Rattle.command_inputs.specs.declared.edited.Edited.{Edited}

-- the bytes are no text of edits of the instance, for this first bad line
pub record IsUnreadEdits (p : Problem) (bytes : List ℕ) (status : Status) : Type 0 where
  pub fault : EditFault
  pub first : IsFirstBad p bytes fault
  pub named : status ≡ BadEdit fault

-- or they are the text of edits, and the edited instance has this first fault
pub record IsRefusedEdits (p : Problem) (bytes : List ℕ) (status : Status) : Type 0 where
  pub edits : List Edit
  pub text : IsEditsText p bytes edits
  pub fault : InstanceFault
  pub first : IsFirstFault (edited p edits) fault
  pub named : status ≡ BadEdit (Refused fault)

abbrev pub IsBadEdits : Problem → List ℕ → Status → Type 0
IsBadEdits p bytes status = IsUnreadEdits p bytes status ⊎ IsRefusedEdits p bytes status

-- the bytes are the text of edits of the instance, and the edited instance is valid
pub record IsGoodEdits (p : Problem) (bytes : List ℕ) : Type 0 where
  pub edits : List Edit
  pub text : IsEditsText p bytes edits
  pub valid : IsValid (edited p edits)

-- of three texts the first is of an instance, and the second is bad for it
pub record IsBadSecondText (file cert : List ℕ) (status : Status) : Type 0 where
  pub instance : Problem
  pub read : IsTextOf file instance
  pub bad : IsBadCertificate instance cert status

-- or the second is of a certificate that is good for it, and the third is bad
pub record IsBadThirdText (file cert edits : List ℕ) (status : Status) : Type 0 where
  pub instance : Problem
  pub read : IsTextOf file instance
  pub good : IsGoodText instance cert
  pub bad : IsBadEdits instance edits status

-- the first of three texts that is bad has them refused so
abbrev pub AreBadTexts : (file cert edits : List ℕ) → Status → Type 0
AreBadTexts file cert edits status = IsBadInstance file status ⊎ (IsBadSecondText file cert status ⊎ IsBadThirdText file cert edits status)

-- none of them is bad
pub record AreGoodTexts (file cert edits : List ℕ) : Type 0 where
  pub instance : Problem
  pub read : IsTextOf file instance
  pub good : IsGoodText instance cert
  pub edits_good : IsGoodEdits instance edits

-- an answer by which edits are refused
abbrev pub IsOfEdits : Status → Type 0
IsOfEdits (BadEdit fault) = Unit {0}
IsOfEdits status = ⊥

-- an answer by which one of three texts is refused: of an instance, of a certificate, or of edits
abbrev pub IsOfTexts : Status → Type 0
IsOfTexts status = IsOfInstance status ⊎ (IsOfCertificate status ⊎ IsOfEdits status)

-- each of three files in turn is refused as too long; all three are read before what they hold is looked at
abbrev pub AreBadFiles : (file cert edits : List ℕ) → (List ℕ → Option (List ℕ)) → Status → Type 0
AreBadFiles file cert edits contents status =
    IsBadFile (λ a. IsBadFile (λ b. IsBadFile (AreBadTexts a b) (edits_at edits) contents) (certificate_at cert) contents) (instance_at file) contents status

abbrev pub AreGoodFiles : (file cert edits : List ℕ) → (List ℕ → Option (List ℕ)) → Type 0
AreGoodFiles file cert edits contents =
    Holds (instance_at file) contents (λ a. Holds (certificate_at cert) contents (λ b. Holds (edits_at edits) contents (AreGoodTexts a b)))

-- a look failed at one of three files that are read in turn: those before it are held, and not too long
abbrev pub AreUnreadTwo : (cert edits : List ℕ) → (List ℕ → Option (List ℕ)) → (List ℕ → ℕ) → (List ℕ → ℕ) → Type 0
AreUnreadTwo cert edits contents before now = Rose (before cert) (now cert) ⊎ (Holds (certificate_at cert) contents EachIsGood × Rose (before edits) (now edits))

abbrev pub AreUnread : (file cert edits : List ℕ) → (List ℕ → Option (List ℕ)) → (List ℕ → ℕ) → (List ℕ → ℕ) → Type 0
AreUnread file cert edits contents before now = Rose (before file) (now file) ⊎ (Holds (instance_at file) contents EachIsGood × AreUnreadTwo cert edits contents before now)

-- what becomes of three files that are read so
abbrev pub AreTried : (file cert edits : List ℕ) → Seen → Result Edited (Fail Status) → Type 0
AreTried file cert edits seen result =
    IsTried seen (instance_at file ∷ certificate_at cert ∷ edits_at edits ∷ []) (λ status. IsOfFile status ⊎ IsOfTexts status)
    (AreUnread file cert edits seen.contents seen.looks_before seen.looks_now)
    (AreBadFiles file cert edits seen.contents) (AreGoodFiles file cert edits seen.contents) result

-- an instance, a certificate that is good for it and can be spelled, edits that it knows, and the edited instance
pub record IsEdited (x : Edited) : Type 0 where
  pub spellable : IsSpellable (certificate_in x.cert)
  pub good : IsGood x.before (certificate_in x.cert)
  pub known : AreKnown x.before [] x.edits.items
  pub after : x.after ≡ edited x.before x.edits.items

-- they are those of three texts, and the edited instance is valid
pub record IsEditedBy (file cert edits : List ℕ) (x : Edited) : Type 0 where
  pub read : IsTextOf file x.before
  pub certified : certificates.IsTextOf cert (certificate_in x.cert)
  pub edits_read : IsEditsText x.before edits x.edits.items
  pub is : IsEdited x
  pub valid : IsValid x.after

-- and these are the texts of three files, which are read in this way
abbrev pub IsEditedFrom : (file cert edits : List ℕ) → (Source → (List ℕ → Type 0) → Type 0) → Edited → Type 0
IsEditedFrom file cert edits Reads x =
    Reads (instance_at file) (λ a. Reads (certificate_at cert) (λ b. Reads (edits_at edits) (λ c. IsEditedBy a b c x)))
