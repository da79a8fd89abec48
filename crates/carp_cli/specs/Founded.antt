-- What an answer rests on, whether or not contents are told.
use Rattle.std.specs.Prelude.{◌≡◌, ℕ, List, Option, None, Some, ◌⊎◌}
use Rattle.command_line.specs.Commands.{Command}
use Rattle.command_inputs.specs.Files.{GivenIn}
use Rattle.command_inputs.specs.Inputs.{IsRefusalOf}
use Rattle.command_outputs.specs.Outputs.{Output}
use Rattle.carp_cli.specs.Answers.{IsDone, IsDoneStatus, refusal_output}
use Rattle.command_inputs.specs.declared.status.Status.{Status}
use Rattle.command_inputs.specs.declared.status.Status.TheVariants.{BadUsage}

-- A command answers so: by an answer with which it can be refused, or it is done, and all that this says of its files is so of bytes that the files
-- gave in this call, by the count of given bytes before and now. Thus a certificate is accepted only if bytes that were read now spell one that is good
-- for an instance that such bytes spell, and what is kept and written is that of a plan or a proof of this instance.
abbrev pub IsFounded : Command → (given_before given_now : ℕ) → List (Option ℕ) → Status → Output → Type 0
IsFounded c given_before given_now offered status output =
    (IsRefusalOf c status × (output ≡ refusal_output status)) ⊎ (IsDoneStatus c status × IsDone (GivenIn given_before given_now) c offered status output)

-- and words that are no command are refused
abbrev pub IsFoundedOf : Option Command → (given_before given_now : ℕ) → List (Option ℕ) → Status → Output → Type 0
IsFoundedOf None given_before given_now offered status output = (status ≡ BadUsage) × (output ≡ refusal_output status)
IsFoundedOf (Some c) given_before given_now offered status output = IsFounded c given_before given_now offered status output
