-- What is made of a job.
use Rattle.std.specs.Prelude.{◌≡◌, ◌⊎◌, ℕ, Bool, true, false, List, [], ◌∷◌, Option, codes}
use Rattle.cert_lines.specs.Texts as certificates
use Rattle.cert_format.specs.Certs.{certificate_in}
use Rattle.cert_format.specs.declared.cert.Cert.{Cert}
use Rattle.dat_text.specs.DatText.{dat_of}
use Rattle.plan_print.specs.Sheet.{sheet_text}
use Rattle.town_maker.specs.Towns.{town_of}
use Rattle.command_inputs.specs.declared.job.Job.{Job}
use Rattle.command_inputs.specs.declared.job.Job.TheVariants.{Solve, Check, Sheet, Make, Drill, Upgrade, Postman, Fleet, Edit, Improve}
use Rattle.command_inputs.specs.declared.status.Status.{Status}
use Rattle.command_inputs.specs.declared.status.Status.TheVariants.{Proven, Gap, Accepted, Done}
use Rattle.command_outputs.specs.Outputs.{Output}
use Rattle.command_outputs.specs.Solving.{IsSolvedBy}
use Rattle.command_outputs.specs.Improving.{IsImprovedBy}
use Rattle.command_outputs.specs.Drills.{IsDrilled}
use Rattle.command_outputs.specs.Fleets.{IsFleetFound}
use Rattle.command_outputs.specs.Carried.{AreBothKept}
use Rattle.command_outputs.specs.Rounds.{round_text}
use Rattle.command_outputs.specs.Texts.{answer_text, made_text}

-- a name is to hold the text of this certificate, and its cost and its bound are to be written
pub record IsKeptAgain (c : Cert) (renewed : List ℕ) (output : Output) : Type 0 where
  pub kept_text : List ℕ
  pub kept_is : certificates.IsTextOf kept_text (certificate_in c)
  pub keeps : output.kept ≡ record { name = renewed; bytes = kept_text } ∷ []
  pub writes : output.text ≡ answer_text (codes "upgraded\n") c.cost c.bound

-- a job is done with this answer and this output, if helpers offered such costs
abbrev pub IsMade : Job → List (Option ℕ) → Status → Output → Type 0
IsMade (Solve inst cert turns seed) offered status output = ((status ≡ Proven) ⊎ (status ≡ Gap)) × IsSolvedBy inst cert.now turns offered status output
IsMade (Check cost bound) offered status output = (status ≡ Accepted) × (output ≡ record { kept = []; text = answer_text (codes "accepted\n") cost bound })
IsMade (Sheet inst plan) offered status output = (status ≡ Done) × (output ≡ record { kept = []; text = sheet_text inst plan })
IsMade (Make file seed) offered status output =
    (status ≡ Done) × (output ≡ record { kept = record { name = file.now; bytes = dat_of (town_of seed) } ∷ []; text = made_text (town_of seed) })
IsMade (Drill turns seed) offered status output = (status ≡ Done) × IsDrilled seed turns offered output
IsMade (Upgrade c renewed) offered status output = (status ≡ Done) × IsKeptAgain c renewed.now output
IsMade (Postman laid) offered status output = (status ≡ Done) × (output ≡ record { kept = []; text = round_text laid.inst laid.round.walk laid.round.cost })
IsMade (Fleet inst turns) offered status output = ((status ≡ Proven) ⊎ (status ≡ Gap)) × IsFleetFound inst turns status output
IsMade (Edit read edited carried) offered status output = (status ≡ Done) × AreBothKept read edited.now carried.now output
IsMade (Improve inst c improved turns seed) offered status output =
    ((status ≡ Proven) ⊎ (status ≡ Gap)) × IsImprovedBy inst (certificate_in c) improved.now turns offered status output

-- a job only reads what was read for it; the certificate that is gone on from is used up
abbrev pub IsLent : Job → Type 0
IsLent (Improve inst c improved turns seed) = ⊥
IsLent _ = Unit {0}

-- whether a job asks the helpers, and the seed with which it does
abbrev pub job_asks : Job → Bool
job_asks (Solve inst cert turns seed) = true
job_asks (Drill turns seed) = true
job_asks (Improve inst c improved turns seed) = true
job_asks _ = false

abbrev pub job_seed : Job → ℕ
job_seed (Solve inst cert turns seed) = seed
job_seed (Drill turns seed) = seed
job_seed (Improve inst c improved turns seed) = seed
job_seed _ = 0
