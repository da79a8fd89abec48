-- The job of a command, and what is read for it.
use Rattle.std.specs.Prelude.{◌≡◌, ℕ, Bool, List, [], Option, Result, IsTrue}
use Rattle.carp_base.specs.Problem.{Problem}
use Rattle.carp_base.specs.declared.fail.Fail.{Fail}
use Rattle.plan_model.specs.Plans.{IsLawful}
use Rattle.plan_model.specs.declared.step.Step.{Step}
use Rattle.dat_text.specs.Text.{IsTextOf}
use Rattle.cert_lines.specs.Certificates.{Certificate}
use Rattle.cert_lines.specs.Spelling.{IsSpellable}
use Rattle.cert_lines.specs.Texts as certificates
use Rattle.cert_format.specs.Certs.{certificate_in}
use Rattle.cert_format.specs.Good.{IsGood, IsProof, with_counts}
use Rattle.cert_format.specs.declared.cert.Cert.{Cert}
use Rattle.command_line.specs.Commands.{Command, Source, Solve, Check, Sheet, Make, Drill, Upgrade, Postman, Fleet, Edit, Improve, instance_at, certificate_at, reads}
use Rattle.postman.specs.Rounds.{IsShownRound}
use Rattle.command_line.specs.Laws.{HasBudget}
use Rattle.command_inputs.specs.Files.{GivenIn, HeldIn}
use Rattle.command_inputs.specs.Edited.{IsEdited, IsEditedFrom}
use Rattle.command_inputs.specs.Inputs.{IsRefusalOf, IsRefused, CanBeDone, IsUnread}
use Rattle.command_inputs.specs.Reads.{IsTried, Seen}
use Rattle.command_inputs.specs.declared.status.Status.{Status}
use Rattle.command_inputs.specs.declared.job.Job.{Job}
use Rattle.command_inputs.specs.declared.job.Job.TheVariants as jobs

-- the job has the names and the numbers of the command
abbrev pub IsFor : Command → Job → Type 0
IsFor (Solve file cert turns seed) (jobs.Solve inst name asked drawn) = (name.now ≡ cert) × (asked ≡ turns) × (drawn ≡ seed)
IsFor (Check file cert) (jobs.Check cost bound) = Unit {0}
IsFor (Sheet file cert) (jobs.Sheet inst plan) = Unit {0}
IsFor (Make file seed) (jobs.Make name drawn) = (name.now ≡ file) × (drawn ≡ seed)
IsFor (Drill turns seed) (jobs.Drill asked drawn) = (asked ≡ turns) × (drawn ≡ seed)
IsFor (Upgrade file cert renewed) (jobs.Upgrade c name) = name.now ≡ renewed
IsFor (Postman file) (jobs.Postman laid) = Unit {0}
IsFor (Fleet file turns) (jobs.Fleet inst asked) = asked ≡ turns
IsFor (Edit file cert edits edited carried) (jobs.Edit read first second) = (first.now ≡ edited) × (second.now ≡ carried)
IsFor (Improve file cert improved turns seed) (jobs.Improve inst c name asked drawn) = (name.now ≡ improved) × (asked ≡ turns) × (drawn ≡ seed)
IsFor _ _ = ⊥

-- It can be done: its turns are in their range, its plan is lawful, its certificate can be spelled, its round is least, and its certificate
-- is good for the instance that is edited, or with which it is gone on.
abbrev pub IsSoundJob : Job → Type 0
IsSoundJob (jobs.Solve inst name turns seed) = HasBudget (Solve name.now name.now turns seed)
IsSoundJob (jobs.Check cost bound) = Unit {0}
IsSoundJob (jobs.Sheet inst plan) = IsLawful inst plan
IsSoundJob (jobs.Make name seed) = Unit {0}
IsSoundJob (jobs.Drill turns seed) = HasBudget (Drill turns seed)
IsSoundJob (jobs.Upgrade c name) = IsSpellable (certificate_in c)
IsSoundJob (jobs.Postman laid) = IsShownRound laid.inst laid.round.walk laid.round.shores.items laid.round.cost
IsSoundJob (jobs.Fleet inst turns) = HasBudget (Fleet [] turns)
IsSoundJob (jobs.Edit read edited carried) = IsEdited read
IsSoundJob (jobs.Improve inst c name turns seed) = HasBudget (Improve [] [] [] turns seed) × IsSpellable (certificate_in c) × IsGood inst (certificate_in c)

-- What follows is said for each way of reading files (`Reads`): of the bytes that their names hold, or of bytes that they gave in this call.

-- The two files are the texts of an instance and of a certificate that is good for it: its plan is lawful and costs what is stated, and no
-- lawful plan costs less than its bound.
pub record AreCertified (Reads : Source → (List ℕ → Type 0) → Type 0) (file cert : List ℕ) (instance : Problem) (certificate : Certificate) : Type 0 where
  pub read : Reads (instance_at file) (λ bytes. IsTextOf bytes instance)
  pub certified : Reads (certificate_at cert) (λ bytes. certificates.IsTextOf bytes certificate)
  pub good : IsGood instance certificate
  pub proof : IsProof instance certificate

-- the certificate that was checked is of this cost and this bound
pub record WasChecked (Reads : Source → (List ℕ → Type 0) → Type 0) (file cert : List ℕ) (cost bound : ℕ) : Type 0 where
  pub instance : Problem
  pub certificate : Certificate
  pub certified : AreCertified Reads file cert instance certificate
  pub cost_is : cost ≡ certificate.cost
  pub bound_is : bound ≡ certificate.bound

-- this is the instance, and the plan of the certificate
pub record HasPlan (Reads : Source → (List ℕ → Type 0) → Type 0) (file cert : List ℕ) (instance : Problem) (plan : List (List Step)) : Type 0 where
  pub certificate : Certificate
  pub certified : AreCertified Reads file cert instance certificate
  pub plan_is : plan ≡ certificate.plan

-- this is the certificate with the numbers of the instance, for which it is good too
pub record WasRenewed (Reads : Source → (List ℕ → Type 0) → Type 0) (file cert : List ℕ) (renewed : Cert) : Type 0 where
  pub instance : Problem
  pub certificate : Certificate
  pub certified : AreCertified Reads file cert instance certificate
  pub renewed_is : certificate_in renewed ≡ with_counts instance certificate
  pub still_good : IsGood instance (with_counts instance certificate)

-- what was read for the job is what the files of the command gave
abbrev pub WasRead : (Source → (List ℕ → Type 0) → Type 0) → Command → Job → Type 0
WasRead Reads (Solve file cert turns seed) (jobs.Solve inst name asked drawn) = Reads (instance_at file) (λ bytes. IsTextOf bytes inst)
WasRead Reads (Check file cert) (jobs.Check cost bound) = WasChecked Reads file cert cost bound
WasRead Reads (Sheet file cert) (jobs.Sheet inst plan) = HasPlan Reads file cert inst plan
WasRead Reads (Make file seed) (jobs.Make name drawn) = Unit {0}
WasRead Reads (Drill turns seed) (jobs.Drill asked drawn) = Unit {0}
WasRead Reads (Upgrade file cert renewed) (jobs.Upgrade c name) = WasRenewed Reads file cert c
WasRead Reads (Postman file) (jobs.Postman laid) = Reads (instance_at file) (λ bytes. IsTextOf bytes laid.inst)
WasRead Reads (Fleet file turns) (jobs.Fleet inst asked) = Reads (instance_at file) (λ bytes. IsTextOf bytes inst)
WasRead Reads (Edit file cert edits edited carried) (jobs.Edit read first second) = IsEditedFrom file cert edits Reads read
WasRead Reads (Improve file cert improved turns seed) (jobs.Improve inst c name asked drawn) = AreCertified Reads file cert inst (certificate_in c)
WasRead Reads _ _ = ⊥

-- The job of a command: it rests on bytes that the files gave in this call, whether or not contents are told, and on those that the names hold if
-- contents are told (`contents_told`).
pub record IsJobOf (contents_told : Bool) (c : Command) (contents : List ℕ → Option (List ℕ)) (given_before given_now : ℕ) (job : Job) : Type 0 where
  pub is_for : IsFor c job
  pub sound : IsSoundJob job
  pub founded : WasRead (GivenIn given_before given_now) c job
  pub was_read : IsTrue contents_told → WasRead (HeldIn contents) c job

-- what becomes of the files of a command, of which a call saw this: its job, or the status of the first bad one
abbrev pub IsGathered : Command → Seen → Result Job (Fail Status) → Type 0
IsGathered c seen result =
    IsTried seen (reads c) (IsRefusalOf c) (IsUnread c seen.contents seen.looks_before seen.looks_now)
    (IsRefused c seen.contents) (CanBeDone c seen.contents) result
