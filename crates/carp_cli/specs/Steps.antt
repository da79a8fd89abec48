-- What is to be answered, before anything is kept or written. No public contract speaks of this.
use Rattle.std.specs.Prelude.{◌≡◌, ◌≢◌, ℕ, ◌+◌, List, Bool, Option, None, Some}
use Rattle.std.specs.List.{AllByRecursion}
use Rattle.carp_outside.specs.Causes.{RoseBy}
use Rattle.command_line.specs.Commands.{Command, sources_of, kept_by}
use Rattle.command_inputs.specs.Files.{RoseAtSome, HasLimit}
use Rattle.command_inputs.specs.Inputs.{IsRefused, CanBeDone, IsUnread}
use Rattle.command_outputs.specs.Outputs.{Output}
use Rattle.carp_cli.specs.Outside.{Finding}
use Rattle.carp_cli.specs.Answers.{IsDoneStatus, IsKnown, IsRightOf, refusal_output}
use Rattle.carp_cli.specs.Founded.{IsFoundedOf}
use Rattle.carp_cli.specs.Refusals.{HasReport}
use Rattle.command_inputs.specs.declared.status.Status.{Status}
use Rattle.command_inputs.specs.declared.status.Status.TheVariants.{BadUsage, ReadFault, WriteFault, Memory, TooLong}

-- what is to be answered, and what for
pub record IsPrepared (contents_told : Bool) (command : Option Command) (found : Finding) (given_before given_now : ℕ) (status : Status) (output : Output) : Type 0 where
  pub right : IsKnown contents_told command → IsRightOf command found status output
  pub founded : IsFoundedOf command given_before given_now found.offered status output
  pub refusal : ¬ (HasReport status) → output ≡ refusal_output status
  pub written : status ≢ WriteFault
  pub remembered : status ≢ Memory
  pub names : (other : List ℕ) → AllByRecursion (λ name. other ≢ name) (kept_by command) → AllByRecursion (λ k. other ≢ k.name) output.kept
  pub usage : status ≡ BadUsage → command ≡ None
  pub read : status ≡ ReadFault → RoseAtSome (sources_of command) found.looks_before found.looks_now
  pub too_long : (limit : ℕ) → status ≡ TooLong limit → HasLimit limit (sources_of command) × RoseBy (limit + 1) given_before given_now
  pub no_command : command ≡ None → status ≡ BadUsage
  pub refused : IsKnown contents_told command → (c : Command) (wanted : Status) → command ≡ Some c → IsRefused c found.contents wanted
      → ¬ (IsUnread c found.contents found.looks_before found.looks_now) → status ≡ wanted
  pub done : IsKnown contents_told command → (c : Command) → command ≡ Some c → CanBeDone c found.contents
      → ¬ (IsUnread c found.contents found.looks_before found.looks_now) → IsDoneStatus c status
