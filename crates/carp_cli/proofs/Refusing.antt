-- By which answers commands are refused, and what is known of those that read nothing.
use Rattle.std.proofs.Common.{◌≡◌, List, [], ℕ, Option, Some, inl, inr, IsTrue, Bool, subst, sym}
use Rattle.std.specs.Prelude.{◌⊎◌}
use Rattle.command_line.specs.Commands.{Command, Solve, Check, Sheet, Make, Drill, Upgrade, Postman, Fleet, Edit, Improve, Source, reads}
use Rattle.command_inputs.specs.Files.{HeldIn}
use Rattle.command_inputs.specs.Reads.{IsOfBytes, IsOfCertificate, IsOfFile, IsOfInstance, IsOfRound}
use Rattle.command_inputs.specs.declared.status.Status.{Status}
use Rattle.command_inputs.specs.declared.status.Status.TheVariants.{Proven, Gap, Accepted, Done, Rejected, BadInstance, BadCertificate, ReadFault, TooLong, NotJoined, BadEdit}
use Rattle.command_inputs.specs.Edited.{IsOfEdits}
use Rattle.command_inputs.specs.Inputs.{IsOfPair, IsRefusalOf, IsRefused}
use Rattle.command_inputs.specs.Jobs.{WasRead}
use Rattle.command_inputs.specs.declared.job.Job.{Job}
use Rattle.command_inputs.specs.declared.job.Job.TheVariants as jobs
use Rattle.carp_cli.specs.Answers.{IsDoneStatus, IsKnown}
use Rattle.carp_cli.specs.Refusals.{HasReport}

-- an answer by which some command is refused
abbrev pub IsRefusal : Status → Type 0
IsRefusal ReadFault = Unit {0}
IsRefusal (TooLong limit) = Unit {0}
IsRefusal status = IsOfBytes status

of_file : (status : Status) → IsOfFile status → IsRefusal status
of_file ReadFault is = tt
of_file (TooLong limit) is = tt
of_file _ fails = absurd fails

of_instance : (status : Status) → IsOfInstance status → IsRefusal status
of_instance (BadInstance fault) is = tt
of_instance _ fails = absurd fails

of_certificate : (status : Status) → IsOfCertificate status → IsRefusal status
of_certificate (BadCertificate fault) is = tt
of_certificate (Rejected reason) is = tt
of_certificate _ fails = absurd fails

of_round : (status : Status) → IsOfRound status → IsRefusal status
of_round (BadInstance fault) is = tt
of_round (NotJoined edge) is = tt
of_round _ fails = absurd fails

of_edits : (status : Status) → IsOfEdits status → IsRefusal status
of_edits (BadEdit fault) is = tt
of_edits _ fails = absurd fails

of_one : (status : Status) → IsOfFile status ⊎ IsOfInstance status → IsRefusal status
of_one status (inl is) = of_file status is
of_one status (inr is) = of_instance status is

of_pair : (status : Status) → IsOfFile status ⊎ IsOfPair status → IsRefusal status
of_pair status (inl is) = of_file status is
of_pair status (inr (inl is)) = of_instance status is
of_pair status (inr (inr is)) = of_certificate status is

pub is_refusal : (c : Command) (status : Status) → IsRefusalOf c status → IsRefusal status
is_refusal (Solve file cert turns seed) status is = of_one status is
is_refusal (Check file cert) status is = of_pair status is
is_refusal (Sheet file cert) status is = of_pair status is
is_refusal (Make file seed) status never = absurd never
is_refusal (Drill turns seed) status never = absurd never
is_refusal (Upgrade file cert renewed) status is = of_pair status is
is_refusal (Postman file) status (inl is) = of_file status is
is_refusal (Postman file) status (inr is) = of_round status is
is_refusal (Fleet file turns) status is = of_one status is
is_refusal (Edit file cert edits edited carried) status (inl is) = of_file status is
is_refusal (Edit file cert edits edited carried) status (inr (inl is)) = of_instance status is
is_refusal (Edit file cert edits edited carried) status (inr (inr (inl is))) = of_certificate status is
is_refusal (Edit file cert edits edited carried) status (inr (inr (inr is))) = of_edits status is
is_refusal (Improve file cert improved turns seed) status is = of_pair status is

pub found_reports : (status : Status) → (status ≡ Proven) ⊎ (status ≡ Gap) → HasReport status
found_reports status (inl is) = subst HasReport (sym is) tt
found_reports status (inr is) = subst HasReport (sym is) tt

-- a command that is done has a report
pub done_reports : (c : Command) (status : Status) → IsDoneStatus c status → HasReport status
done_reports (Solve file cert turns seed) status is = found_reports status is
done_reports (Check file cert) status is = subst HasReport (sym is) tt
done_reports (Sheet file cert) status is = subst HasReport (sym is) tt
done_reports (Make file seed) status is = subst HasReport (sym is) tt
done_reports (Drill turns seed) status is = subst HasReport (sym is) tt
done_reports (Upgrade file cert renewed) status is = subst HasReport (sym is) tt
done_reports (Postman file) status is = subst HasReport (sym is) tt
done_reports (Fleet file turns) status is = found_reports status is
done_reports (Edit file cert edits edited carried) status is = subst HasReport (sym is) tt
done_reports (Improve file cert improved turns seed) status is = found_reports status is

-- a refusal has no report
pub refusals_report_nothing : (status : Status) → IsRefusal status → HasReport status → ⊥
refusals_report_nothing status refusal reports = by status refusal reports where
  by : (status : Status) → IsRefusal status → HasReport status → ⊥
  by Proven refusal reports = refusal
  by Gap refusal reports = refusal
  by Accepted refusal reports = refusal
  by Done refusal reports = refusal
  by _ refusal reports = reports

-- what a command reads is told, where it is neither refused nor lacks what it reads
pub reads_nothing_refuses_nothing : (c : Command) (status : Status) → reads c ≡ [] → IsRefusalOf c status → ⊥
reads_nothing_refuses_nothing (Solve file cert turns seed) status none is = cc
reads_nothing_refuses_nothing (Check file cert) status none is = cc
reads_nothing_refuses_nothing (Sheet file cert) status none is = cc
reads_nothing_refuses_nothing (Make file seed) status none is = is
reads_nothing_refuses_nothing (Drill turns seed) status none is = is
reads_nothing_refuses_nothing (Upgrade file cert renewed) status none is = cc
reads_nothing_refuses_nothing (Postman file) status none is = cc
reads_nothing_refuses_nothing (Fleet file turns) status none is = cc
reads_nothing_refuses_nothing (Edit file cert edits edited carried) status none is = cc
reads_nothing_refuses_nothing (Improve file cert improved turns seed) status none is = cc

-- what a job without files says is so of any contents
pub read_or_told : {contents_told : Bool} (Reads : Source → (List ℕ → Type 0) → Type 0) (contents : List ℕ → Option (List ℕ)) (c : Command) (job : Job) → (IsTrue contents_told → WasRead (HeldIn contents) c job) → WasRead Reads c job
    → IsKnown contents_told (Some c) → WasRead (HeldIn contents) c job
read_or_told Reads contents c job told some (inl tells) = told tells
read_or_told Reads contents (Solve file cert turns seed) job told some (inr none) = cc
read_or_told Reads contents (Check file cert) job told some (inr none) = cc
read_or_told Reads contents (Sheet file cert) job told some (inr none) = cc
read_or_told Reads contents (Make file seed) job told some (inr none) = by job some where
  by : (job : Job) → WasRead Reads (Make file seed) job → WasRead (HeldIn contents) (Make file seed) job
  by (jobs.Make name drawn) some = tt
  by _ fails = absurd fails
read_or_told Reads contents (Drill turns seed) job told some (inr none) = by job some where
  by : (job : Job) → WasRead Reads (Drill turns seed) job → WasRead (HeldIn contents) (Drill turns seed) job
  by (jobs.Drill asked drawn) some = tt
  by _ fails = absurd fails
read_or_told Reads contents (Upgrade file cert renewed) job told some (inr none) = cc
read_or_told Reads contents (Postman file) job told some (inr none) = cc
read_or_told Reads contents (Fleet file turns) job told some (inr none) = cc
read_or_told Reads contents (Edit file cert edits edited carried) job told some (inr none) = cc
read_or_told Reads contents (Improve file cert improved turns seed) job told some (inr none) = cc

-- nor is what names hold refused
pub refuses_only_read : {contents_told : Bool} {P : Type 0} (contents : List ℕ → Option (List ℕ)) (status : Status) (c : Command) → IsKnown contents_told (Some c) → IsRefused c contents status → (IsTrue contents_told → P) → P
refuses_only_read contents status c (inl tells) bad f = f tells
refuses_only_read contents status (Solve file cert turns seed) (inr none) bad f = cc
refuses_only_read contents status (Check file cert) (inr none) bad f = cc
refuses_only_read contents status (Sheet file cert) (inr none) bad f = cc
refuses_only_read contents status (Make file seed) (inr none) bad f = absurd bad
refuses_only_read contents status (Drill turns seed) (inr none) bad f = absurd bad
refuses_only_read contents status (Upgrade file cert renewed) (inr none) bad f = cc
refuses_only_read contents status (Postman file) (inr none) bad f = cc
refuses_only_read contents status (Fleet file turns) (inr none) bad f = cc
refuses_only_read contents status (Edit file cert edits edited carried) (inr none) bad f = cc
refuses_only_read contents status (Improve file cert improved turns seed) (inr none) bad f = cc
