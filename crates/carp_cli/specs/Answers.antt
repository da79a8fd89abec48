-- What a command answers, from what it finds.
use Rattle.std.specs.Prelude.{◌≡◌, ℕ, Bool, IsTrue, List, [], ◌∷◌, Option, None, Some, ◌⊎◌}
use Rattle.dat_text.specs.DatText.{dat_of}
use Rattle.town_maker.specs.Towns.{town_of}
use Rattle.command_line.specs.Commands.{Command, Source, Solve, Check, Sheet, Make, Drill, Upgrade, Postman, Fleet, Edit, Improve, sources_of}
use Rattle.command_inputs.specs.Files.{HeldIn}
use Rattle.command_inputs.specs.Inputs.{IsRefused, IsUnread}
use Rattle.command_outputs.specs.Drills.{IsDrilled}
use Rattle.command_outputs.specs.Texts.{made_text}
use Rattle.command_outputs.specs.Outputs.{Output}
use Rattle.carp_cli.specs.Outside.{Finding}
use Rattle.carp_cli.specs.Refusals.{refusal_text}
use Rattle.carp_cli.specs.Solving.{IsSolved}
use Rattle.carp_cli.specs.Improving.{IsImprovedFrom}
use Rattle.carp_cli.specs.Checking.{IsChecked, IsSpelledOut, IsUpgraded}
use Rattle.carp_cli.specs.Neighbours.{IsRoundFound, IsFleetCounted}
use Rattle.carp_cli.specs.Editing.{IsCarriedAlong}
use Rattle.command_inputs.specs.declared.status.Status.{Status}
use Rattle.command_inputs.specs.declared.status.Status.TheVariants.{Proven, Gap, Accepted, Done, BadUsage, ReadFault}

-- the answers of a command that is done
abbrev pub IsDoneStatus : Command → Status → Type 0
IsDoneStatus (Solve file cert turns seed) status = (status ≡ Proven) ⊎ (status ≡ Gap)
IsDoneStatus (Check file cert) status = status ≡ Accepted
IsDoneStatus (Sheet file cert) status = status ≡ Done
IsDoneStatus (Make file seed) status = status ≡ Done
IsDoneStatus (Drill turns seed) status = status ≡ Done
IsDoneStatus (Upgrade file cert renewed) status = status ≡ Done
IsDoneStatus (Postman file) status = status ≡ Done
IsDoneStatus (Fleet file turns) status = (status ≡ Proven) ⊎ (status ≡ Gap)
IsDoneStatus (Edit file cert edits edited carried) status = status ≡ Done
IsDoneStatus (Improve file cert improved turns seed) status = (status ≡ Proven) ⊎ (status ≡ Gap)

-- the text of the town of a number is to be kept, and its numbers are to be written
abbrev pub IsTownKept : (file : List ℕ) (seed : ℕ) → Output → Type 0
IsTownKept file seed output = output ≡ record { kept = record { name = file; bytes = dat_of (town_of seed) } ∷ []; text = made_text (town_of seed) }

-- a command is done with this answer and this output, if its files are read in this way and helpers offered such costs
abbrev pub IsDone : (Source → (List ℕ → Type 0) → Type 0) → Command → List (Option ℕ) → Status → Output → Type 0
IsDone Reads (Solve file cert turns seed) offered status output = IsSolved Reads file cert turns offered status output
IsDone Reads (Check file cert) offered status output = IsChecked Reads file cert output
IsDone Reads (Sheet file cert) offered status output = IsSpelledOut Reads file cert output
IsDone Reads (Make file seed) offered status output = IsTownKept file seed output
IsDone Reads (Drill turns seed) offered status output = IsDrilled seed turns offered output
IsDone Reads (Upgrade file cert renewed) offered status output = IsUpgraded Reads file cert renewed output
IsDone Reads (Postman file) offered status output = IsRoundFound Reads file output
IsDone Reads (Fleet file turns) offered status output = IsFleetCounted Reads file turns status output
IsDone Reads (Edit file cert edits edited carried) offered status output = IsCarriedAlong Reads file cert edits edited carried output
IsDone Reads (Improve file cert improved turns seed) offered status output = IsImprovedFrom Reads file cert improved turns offered status output

-- a refusal keeps nothing, and writes its text
abbrev pub refusal_output : Status → Output
refusal_output status = record { kept = []; text = refusal_text status }

-- what a command reads is told, or it reads nothing
abbrev pub IsKnown : Bool → Option Command → Type 0
IsKnown contents_told command = IsTrue contents_told ⊎ (sources_of command ≡ [])

-- a command answers so: a file could not be read and those before it are good, a file is refused, or the command is done
abbrev pub IsRight : Command → Finding → Status → Output → Type 0
IsRight c found status output =
    ((status ≡ ReadFault) × IsUnread c found.contents found.looks_before found.looks_now × (output ≡ refusal_output status))
    ⊎ ((IsRefused c found.contents status × (output ≡ refusal_output status)) ⊎ (IsDoneStatus c status × IsDone (HeldIn found.contents) c found.offered status output))

-- and words that are no command are refused
abbrev pub IsRightOf : Option Command → Finding → Status → Output → Type 0
IsRightOf None found status output = (status ≡ BadUsage) × (output ≡ refusal_output status)
IsRightOf (Some c) found status output = IsRight c found status output
