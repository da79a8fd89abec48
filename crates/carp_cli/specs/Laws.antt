-- Laws over two runs: what one command keeps, the next one takes. The shelf tells what names hold, and the sink what was written.
use Rattle.std.specs.Prelude.{◌≡◌, ◌≢◌, ℕ, ◌≤◌, ◌++◌, List, Some, true, ◌⊎◌, codes}
use Rattle.carp_base.specs.Problem.{Problem}
use Rattle.dat_text.specs.Text.{IsTextOf}
use Rattle.cert_lines.specs.Certificates.{Certificate}
use Rattle.cert_lines.specs.Texts as certificates
use Rattle.plan_print.specs.Report.{report_text}
use Rattle.town_maker.specs.Towns.{town_of}
use Rattle.command_line.specs.Commands.{Command, Solve, Check, Make, Upgrade, Edit, Improve, instance_at, certificate_at}
use Rattle.command_inputs.specs.Files.{Holds}
use Rattle.command_inputs.specs.declared.status.Status.{Status}
use Rattle.command_inputs.specs.declared.status.Status.TheVariants.{Proven, Gap, Accepted, Done}
use Rattle.command_inputs.specs.Inputs.{IsUnread}
use Rattle.command_outputs.specs.Texts.{answer_text, edit_text}
use Rattle.carp_cli.specs.Outside.{Outside}
use Rattle.carp_cli.specs.Runs.{Leaves, IsNoAnswer}

-- a run of the command left this
abbrev pub RunLeaves : Command → (before now : Outside) → Status → Type 0
RunLeaves c before now status = Leaves true true (Some c) before now status

-- `check` was run on two files that hold what they held, and no look at them failed
pub record IsCheckedLater (file cert : List ℕ) (now after later : Outside) (answer : Status) : Type 0 where
  pub same_file : after.contents file ≡ now.contents file
  pub same_cert : after.contents cert ≡ now.contents cert
  pub run : RunLeaves (Check file cert) after later answer
  pub looked : ¬ (IsUnread (Check file cert) after.contents after.failed_looks later.failed_looks)

-- `check` accepts and writes this cost and this bound, or its text could not be written, or there was no memory
pub record IsAccepted (cost bound : ℕ) (after later : Outside) (answer : Status) : Type 0 where
  pub answered : (answer ≡ Accepted) ⊎ IsNoAnswer answer
  pub wrote : answer ≡ Accepted → later.written ≡ after.written ++ answer_text (codes "accepted\n") cost bound

-- `solve` read an instance and reported a certificate, which it kept, and which is accepted
pub record IsSolvedThenAccepted (file cert : List ℕ) (before now after later : Outside) (answer : Status) : Type 0 where
  pub instance : Problem
  pub read : Holds (instance_at file) before.contents (λ bytes. IsTextOf bytes instance)
  pub certificate : Certificate
  pub kept : Holds (certificate_at cert) now.contents (λ bytes. certificates.IsTextOf bytes certificate)
  pub turns : ℕ
  pub reported : now.written ≡ before.written ++ report_text instance certificate turns
  pub accepted : IsAccepted certificate.cost certificate.bound after later answer

-- `upgrade` reported a cost and a bound, with which its certificate is accepted
pub record IsUpgradedThenAccepted (before now after later : Outside) (answer : Status) : Type 0 where
  pub cost : ℕ
  pub bound : ℕ
  pub reported : now.written ≡ before.written ++ answer_text (codes "upgraded\n") cost bound
  pub accepted : IsAccepted cost bound after later answer

-- `edit` reported how many edges there are and how many were closed, and a cost and a bound, with which its certificate is accepted
pub record IsEditedThenAccepted (before now after later : Outside) (answer : Status) : Type 0 where
  pub edges : ℕ
  pub closed : ℕ
  pub cost : ℕ
  pub bound : ℕ
  pub reported : now.written ≡ before.written ++ edit_text edges closed cost bound
  pub accepted : IsAccepted cost bound after later answer

-- `improve` read an instance and a certificate, and reported another one, which it kept, and which is accepted, costs no more, and has no
-- lower bound
pub record IsImprovedThenAccepted (file cert improved : List ℕ) (before now after later : Outside) (answer : Status) : Type 0 where
  pub instance : Problem
  pub read : Holds (instance_at file) before.contents (λ bytes. IsTextOf bytes instance)
  pub old : Certificate
  pub old_text : Holds (certificate_at cert) before.contents (λ bytes. certificates.IsTextOf bytes old)
  pub new : Certificate
  pub kept : Holds (certificate_at improved) now.contents (λ bytes. certificates.IsTextOf bytes new)
  pub turns : ℕ
  pub reported : now.written ≡ before.written ++ report_text instance new turns
  pub no_dearer : new.cost ≤ old.cost
  pub no_lower : old.bound ≤ new.bound
  pub accepted : IsAccepted new.cost new.bound after later answer

-- What `solve` keeps, `check` accepts.
abbrev pub SolvedIsAccepted : Type 0
SolvedIsAccepted =
    (file cert : List ℕ) (turns seed : ℕ) (before now after later : Outside) (status answer : Status) →
    file ≢ cert → RunLeaves (Solve file cert turns seed) before now status → (status ≡ Proven) ⊎ (status ≡ Gap) →
    IsCheckedLater file cert now after later answer → IsSolvedThenAccepted file cert before now after later answer

-- What `upgrade` keeps, `check` accepts beside the same instance.
abbrev pub UpgradedIsAccepted : Type 0
UpgradedIsAccepted =
    (file cert renewed : List ℕ) (before now after later : Outside) (status answer : Status) →
    file ≢ renewed → RunLeaves (Upgrade file cert renewed) before now status → status ≡ Done →
    IsCheckedLater file renewed now after later answer → IsUpgradedThenAccepted before now after later answer

-- The two files that `edit` keeps, `check` accepts beside each other.
abbrev pub EditedIsAccepted : Type 0
EditedIsAccepted =
    (file cert edits new_file new_cert : List ℕ) (before now after later : Outside) (status answer : Status) →
    new_file ≢ new_cert → RunLeaves (Edit file cert edits new_file new_cert) before now status → status ≡ Done →
    IsCheckedLater new_file new_cert now after later answer → IsEditedThenAccepted before now after later answer

-- What `improve` keeps, `check` accepts beside the same instance.
abbrev pub ImprovedIsAccepted : Type 0
ImprovedIsAccepted =
    (file cert improved : List ℕ) (turns seed : ℕ) (before now after later : Outside) (status answer : Status) →
    file ≢ improved → RunLeaves (Improve file cert improved turns seed) before now status → (status ≡ Proven) ⊎ (status ≡ Gap) →
    IsCheckedLater file improved now after later answer → IsImprovedThenAccepted file cert improved before now after later answer

-- What `make` keeps is the text of the town, and not too long for an instance file.
abbrev pub MadeIsHeld : Type 0
MadeIsHeld =
    (file : List ℕ) (seed : ℕ) (before now : Outside) (status : Status) → RunLeaves (Make file seed) before now status → status ≡ Done →
    Holds (instance_at file) now.contents (λ bytes. IsTextOf bytes (town_of seed))

-- So `solve` solves it.
abbrev pub MadeIsSolved : Type 0
MadeIsSolved =
    (file cert : List ℕ) (seed turns drawn : ℕ) (before now after later : Outside) (status answer : Status) →
    RunLeaves (Make file seed) before now status → status ≡ Done → after.contents file ≡ now.contents file →
    RunLeaves (Solve file cert turns drawn) after later answer → ¬ (IsUnread (Solve file cert turns drawn) after.contents after.failed_looks later.failed_looks) →
    ((answer ≡ Proven) ⊎ (answer ≡ Gap)) ⊎ IsNoAnswer answer
