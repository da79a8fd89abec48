-- What told bytes of an instance file and of a certificate ask for.
use Rattle.std.specs.Prelude.{◌≡◌, ℕ, ◌<◌, ◌≤◌, List, [], ◌∷◌, length, Option, IsSomeAnd, ◌⊎◌}
use Rattle.carp_base.specs.Problem.{Problem}
use Rattle.carp_outside.specs.Causes.{Rose, RoseBy}
use Rattle.dat_text.specs.declared.fault.DatFault.{DatFault}
use Rattle.dat_text.specs.Text.{IsTextOf, IsFaultOf}
use Rattle.cert_lines.specs.declared.fault.CertFault.{CertFault}
use Rattle.cert_lines.specs.Certificates.{Certificate}
use Rattle.cert_lines.specs.Texts as certificates
use Rattle.cert_format.specs.Good.{IsGood}
use Rattle.cert_checker.specs.declared.reason.Reason.{Reason}
use Rattle.cert_checker.specs.Reasons.{IsFirstReason}
use Rattle.command_line.specs.Commands.{Source}
use Rattle.postman.specs.Rounds.{AreJoined, IsFirstApart}
use Rattle.command_inputs.specs.declared.status.Status.{Status}
use Rattle.command_inputs.specs.declared.status.Status.TheVariants.{BadInstance, BadCertificate, NotJoined, Rejected, TooLong}

-- the file is held and not too long, and this is so of its bytes
abbrev pub Holds : Source → (List ℕ → Option (List ℕ)) → (List ℕ → Type 0) → Type 0
Holds source contents Is = IsSomeAnd (contents source.name) (λ bytes. (length bytes ≤ source.limit) × Is bytes)

-- the same, as one way of reading texts: the bytes of each file are those that its name holds
abbrev pub HeldIn : (List ℕ → Option (List ℕ)) → Source → (List ℕ → Type 0) → Type 0
HeldIn contents source Is = Holds source contents Is

-- the other way: this is so of bytes that the files gave while the count of given bytes went from one number to another; whether the name held them is
-- not told
abbrev pub GivenIn : (given_before given_now : ℕ) → Source → (List ℕ → Type 0) → Type 0
GivenIn given_before given_now source Is = (bytes : List ℕ) × RoseBy (length bytes) given_before given_now × Is bytes

-- the file is held, and too long
abbrev pub IsTooLong : Source → (List ℕ → Option (List ℕ)) → Type 0
IsTooLong source contents = IsSomeAnd (contents source.name) (λ bytes. source.limit < length bytes)

-- the bytes are the text of a valid instance
pub record IsInstance (bytes : List ℕ) : Type 0 where
  pub instance : Problem
  pub text : IsTextOf bytes instance

-- the bytes are no text of an instance, for this first fault
pub record IsBadInstance (bytes : List ℕ) (status : Status) : Type 0 where
  pub fault : DatFault
  pub first : IsFaultOf bytes fault
  pub named : status ≡ BadInstance fault

-- the bytes are the text of a certificate that is good for the instance
pub record IsGoodText (p : Problem) (bytes : List ℕ) : Type 0 where
  pub certificate : Certificate
  pub text : certificates.IsTextOf bytes certificate
  pub good : IsGood p certificate

-- the bytes are no text of a certificate, for this first fault
pub record IsBadText (bytes : List ℕ) (status : Status) : Type 0 where
  pub fault : CertFault
  pub first : certificates.IsFaultOf bytes fault
  pub named : status ≡ BadCertificate fault

-- the bytes are the text of a certificate that is not good, for this first reason
pub record IsRejectedText (p : Problem) (bytes : List ℕ) (status : Status) : Type 0 where
  pub certificate : Certificate
  pub text : certificates.IsTextOf bytes certificate
  pub reason : Reason
  pub first : IsFirstReason p certificate reason
  pub named : status ≡ Rejected reason

abbrev pub IsBadCertificate : Problem → List ℕ → Status → Type 0
IsBadCertificate p bytes status = IsBadText bytes status ⊎ IsRejectedText p bytes status

-- the bytes are the text of an instance, whose required edges hang together with the depot
pub record IsJoinedText (bytes : List ℕ) : Type 0 where
  pub instance : Problem
  pub text : IsTextOf bytes instance
  pub joined : AreJoined instance

-- or of one whose required edges do not, and this is the least one apart
pub record IsApartText (bytes : List ℕ) (status : Status) : Type 0 where
  pub instance : Problem
  pub text : IsTextOf bytes instance
  pub edge : ℕ
  pub first : IsFirstApart instance edge
  pub named : status ≡ NotJoined edge

abbrev pub IsBadRound : List ℕ → Status → Type 0
IsBadRound bytes status = IsBadInstance bytes status ⊎ IsApartText bytes status

-- the file is refused with this status: it is too long, or its bytes are bad
abbrev pub IsBadFile : (List ℕ → Status → Type 0) → Source → (List ℕ → Option (List ℕ)) → Status → Type 0
IsBadFile Bad source contents status =
    ((status ≡ TooLong source.limit) × IsTooLong source contents) ⊎ Holds source contents (λ bytes. Bad bytes status)

-- the count of failed looks rose at one of these files
abbrev pub RoseAtSome : List Source → (List ℕ → ℕ) → (List ℕ → ℕ) → Type 0
RoseAtSome [] before now = ⊥
RoseAtSome (source ∷ sources) before now = Rose (before source.name) (now source.name) ⊎ RoseAtSome sources before now

-- one of these files has this limit
abbrev pub HasLimit : ℕ → List Source → Type 0
HasLimit limit [] = ⊥
HasLimit limit (source ∷ sources) = (limit ≡ source.limit) ⊎ HasLimit limit sources
