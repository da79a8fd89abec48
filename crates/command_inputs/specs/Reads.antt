-- What becomes of reading the files of a command: the contracts of this crate's calls.
use Rattle.std.specs.Prelude.{◌≡◌, ℕ, ◌+◌, List, [], ◌∷◌, Bool, IsTrue, Option, Result, Ok, Err, IsOk, IfOk, IsErrOf, ◌⊎◌}
use Rattle.std.specs.declared.alloc.Global.{Global}
use Rattle.std.specs.declared.vec.Vec.{Vec}
use Rattle.carp_base.specs.Problem.{Problem}
use Rattle.carp_base.specs.declared.fail.Fail.{Fail}
use Rattle.carp_base.specs.declared.fail.Fail.TheVariants.{Refused, Memory as NoMemory}
use Rattle.carp_outside.specs.Causes.{Rose, RoseBy}
use Rattle.cert_lines.specs.Certificates.{Certificate}
use Rattle.cert_lines.specs.Spelling.{IsSpellable}
use Rattle.cert_lines.specs.Texts as certificates
use Rattle.cert_format.specs.Certs.{certificate_in}
use Rattle.cert_format.specs.Good.{IsGood}
use Rattle.cert_format.specs.declared.cert.Cert.{Cert}
use Rattle.cert_checker.specs.declared.reason.Answer.TheVariants as answers
use Rattle.cert_checker.specs.declared.reason.Answer.{Answer}
use Rattle.cert_checker.specs.declared.streaming.Checked.{Checked}
use Rattle.dat_text.specs.Text.{IsTextOf}
use Rattle.postman.specs.Rounds.{IsShownRound}
use Rattle.postman.specs.declared.fault.PostmanFault.{PostmanFault}
use Rattle.postman.specs.declared.fault.PostmanFault.TheVariants as faults
use Rattle.command_line.specs.Commands.{Source}
use Rattle.command_inputs.specs.declared.reading.Stated.{Stated}
use Rattle.command_inputs.specs.declared.rounds.Laid.{Laid}
use Rattle.command_inputs.specs.Files.{GivenIn, HeldIn, Holds, IsBadFile, HasLimit, RoseAtSome}
use Rattle.command_inputs.specs.declared.status.Status.{Status}
use Rattle.command_inputs.specs.declared.status.Status.TheVariants.{BadInstance, BadCertificate, BadEdit, NotJoined, Rejected, ReadFault, TooLong}

-- an answer by which a file is refused before its bytes are looked at
abbrev pub IsOfFile : Status → Type 0
IsOfFile ReadFault = Unit {0}
IsOfFile (TooLong limit) = Unit {0}
IsOfFile status = ⊥

-- an answer by which bytes are refused
abbrev pub IsOfBytes : Status → Type 0
IsOfBytes (BadInstance fault) = Unit {0}
IsOfBytes (BadCertificate fault) = Unit {0}
IsOfBytes (Rejected reason) = Unit {0}
IsOfBytes (NotJoined edge) = Unit {0}
IsOfBytes (BadEdit fault) = Unit {0}
IsOfBytes status = ⊥

-- an answer by which the bytes of an instance are refused
abbrev pub IsOfInstance : Status → Type 0
IsOfInstance (BadInstance fault) = Unit {0}
IsOfInstance status = ⊥

-- an answer by which the bytes of a certificate are refused
abbrev pub IsOfCertificate : Status → Type 0
IsOfCertificate (BadCertificate fault) = Unit {0}
IsOfCertificate (Rejected reason) = Unit {0}
IsOfCertificate status = ⊥

-- an answer by which the bytes of an instance are refused over which a round is laid
abbrev pub IsOfRound : Status → Type 0
IsOfRound (BadInstance fault) = Unit {0}
IsOfRound (NotJoined edge) = Unit {0}
IsOfRound status = ⊥

-- bytes that are only read are refused by no answer
abbrev pub IsOfNone : Status → Type 0
IsOfNone status = ⊥

-- what is made of bytes. `Is` says what it is, `Bad` how bytes are refused, and `Good` when they are not
pub record IsParsed {X : Type 0} (bytes : List ℕ) (Is : List ℕ → X → Type 0) (Bad : List ℕ → Status → Type 0) (Good : List ℕ → Type 0) (result : Result X (Fail Status)) : Type 0 where
  pub made : IfOk result (Is bytes)
  pub refusal : (status : Status) → IsErrOf result (Refused status) → IsOfBytes status
  pub refused : (status : Status) → IsErrOf result (Refused status) → Bad bytes status
  pub bad : (status : Status) → Bad bytes status → IsErrOf result (Refused status) ⊎ IsErrOf result NoMemory
  pub good : Good bytes → IsOk result ⊎ IsErrOf result NoMemory

-- What a call saw of the files: whether what they hold is told, what they held at its beginning, and how many looks at each failed and how many bytes
-- were given, at its beginning and at its end.
pub record Seen : Type 0 where
  pub contents_told : Bool
  pub contents : List ℕ → Option (List ℕ)
  pub looks_before : List ℕ → ℕ
  pub looks_now : List ℕ → ℕ
  pub given_before : ℕ
  pub given_now : ℕ

abbrev pub seen_by : (contents_told : Bool) (contents : List ℕ → Option (List ℕ)) (looks_before looks_now : List ℕ → ℕ) (given_before given_now : ℕ) → Seen
seen_by contents_told contents looks_before looks_now given_before given_now = record {
  contents_told = contents_told;
  contents = contents;
  looks_before = looks_before;
  looks_now = looks_now;
  given_before = given_before;
  given_now = given_now;
}

-- What becomes of reading these files: each refusal is one of those that belong here (`Refuses`) and has its cause. If contents are told, a file could not
-- be read only if a look failed at one that had to be looked at (`Unread`). Otherwise what is bad is refused and what is good is not.
pub record IsTried {X : Type 0} (seen : Seen) (sources : List Source)
    (Refuses : Status → Type 0) (Unread : Type 0) (Bad : Status → Type 0) (Good : Type 0) (result : Result X (Fail Status)) : Type 0 where
  pub refusal : (status : Status) → IsErrOf result (Refused status) → Refuses status
  pub read : IsErrOf result (Refused ReadFault) → RoseAtSome sources seen.looks_before seen.looks_now
  pub order : IsTrue seen.contents_told → IsErrOf result (Refused ReadFault) → Unread
  pub too_long : (limit : ℕ) → IsErrOf result (Refused (TooLong limit)) → HasLimit limit sources × RoseBy (limit + 1) seen.given_before seen.given_now
  pub refused : IsTrue seen.contents_told → (status : Status) → IsErrOf result (Refused status) → (status ≡ ReadFault) ⊎ Bad status
  pub bad : IsTrue seen.contents_told → (status : Status) → Bad status → ¬ (Unread) → IsErrOf result (Refused status) ⊎ IsErrOf result NoMemory
  pub good : IsTrue seen.contents_told → Good → ¬ (Unread) → IsOk result ⊎ IsErrOf result NoMemory

-- what the reading of a file gives. `Of` says by which answers its bytes can be refused
pub record IsFileRead {X : Type 0} (seen : Seen) (source : Source)
    (Of : Status → Type 0) (Is : List ℕ → X → Type 0) (Bad : List ℕ → Status → Type 0) (Good : List ℕ → Type 0) (result : Result X (Fail Status)) : Type 0 where
  pub made : IsTrue seen.contents_told → IfOk result (λ x. HeldIn seen.contents source (λ bytes. Is bytes x))
  pub founded : IfOk result (λ x. GivenIn seen.given_before seen.given_now source (λ bytes. Is bytes x))
  pub tried : IsTried seen (source ∷ []) (λ status. IsOfFile status ⊎ Of status) (Rose (seen.looks_before source.name) (seen.looks_now source.name))
      (IsBadFile Bad source seen.contents) (Holds source seen.contents Good) result

-- the bytes themselves, which nothing refuses
abbrev pub AreBytes : List ℕ → Vec ℕ Global → Type 0
AreBytes bytes list = list.items ≡ bytes

abbrev pub NoneIsBad : List ℕ → Status → Type 0
NoneIsBad bytes status = ⊥

abbrev pub EachIsGood : List ℕ → Type 0
EachIsGood bytes = Unit {0}

-- a good certificate with this text states this
pub record IsAcceptedText (p : Problem) (bytes : List ℕ) (stated : Stated) : Type 0 where
  pub certificate : Certificate
  pub text : certificates.IsTextOf bytes certificate
  pub good : IsGood p certificate
  pub cost : stated.cost ≡ certificate.cost
  pub bound : stated.bound ≡ certificate.bound
  pub plan : stated.plan ≡ certificate.plan

-- what was checked, or why it is rejected
abbrev pub accepted_of : Checked → Answer → Result Stated (Fail Status)
accepted_of checked answers.Accepted = Ok (record { cost = checked.cost; bound = checked.bound; plan = checked.plan })
accepted_of checked (answers.Rejected reason) = Err (Refused (Rejected reason))

-- the instance with this text, and a least round of it
pub record IsRoundOf (bytes : List ℕ) (laid : Laid) : Type 0 where
  pub text : IsTextOf bytes laid.inst
  pub round : IsShownRound laid.inst laid.round.walk laid.round.shores.items laid.round.cost

-- the status names the fault
abbrev pub IsNamed : PostmanFault → Status → Type 0
IsNamed (faults.NotJoined edge) status = status ≡ NotJoined edge

-- a good certificate with this text
pub record IsGoodCert (p : Problem) (bytes : List ℕ) (cert : Cert) : Type 0 where
  pub text : certificates.IsTextOf bytes (certificate_in cert)
  pub spellable : IsSpellable (certificate_in cert)
  pub good : IsGood p (certificate_in cert)
