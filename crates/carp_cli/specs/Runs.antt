-- What a run leaves, by its answer: each clause is said once for all commands.
use Rattle.std.specs.Prelude.{◌≡◌, ◌≢◌, ℕ, ◌+◌, ◌%◌, ◌^◌, ◌≤◌, ◌++◌, List, Bool, false, IsTrue, Option, None, Some, ◌⊎◌, All, EachIndex, map, slice_index}
use Rattle.std.specs.List.{AllByRecursion}
use Rattle.carp_outside.specs.Causes.{Rose, RoseBy}
use Rattle.carp_outside.specs.Told.{SameContents}
use Rattle.command_line.specs.Commands.{Command, asks_helpers, is_helped, sources_of, kept_by, seed_by}
use Rattle.command_inputs.specs.Files.{RoseAtSome, HasLimit}
use Rattle.command_inputs.specs.Inputs.{IsRefused, CanBeDone, IsUnread}
use Rattle.command_outputs.specs.Outputs.{Output}
use Rattle.carp_cli.specs.Outside.{Outside, found, AreKept, IsLeftShort}
use Rattle.carp_cli.specs.Answers.{IsDoneStatus, IsKnown, IsRightOf, refusal_output}
use Rattle.carp_cli.specs.Founded.{IsFoundedOf}
use Rattle.carp_cli.specs.Refusals.{HasReport}
use Rattle.command_inputs.specs.declared.status.Status.{Status}
use Rattle.command_inputs.specs.declared.status.Status.TheVariants.{BadUsage, ReadFault, WriteFault, Memory, TooLong}

-- an answer with its output: it is founded, whatever is told; and if what the command reads is told, it is right for what was found
pub record IsRunAnswer (contents_told : Bool) (command : Option Command) (before now : Outside) (status : Status) (output : Output) : Type 0 where
  pub right : IsKnown contents_told command → IsRightOf command (found before now) status output
  pub founded : IsFoundedOf command before.given now.given now.offered status output
  pub refusal : ¬ (HasReport status) → output ≡ refusal_output status

-- an answer was given whole: what it keeps is kept, and its text is written
pub record IsWhole (contents_told written_told : Bool) (command : Option Command) (before now : Outside) (status : Status) : Type 0 where
  pub output : Output
  pub answer : IsRunAnswer contents_told command before now status output
  pub kept : IsTrue contents_told → AreKept output.kept before.contents now.contents
  pub wrote : IsTrue written_told → now.written ≡ before.written ++ output.text

-- an answer was cut short by a call that failed: at a keep, with nothing written, or at the text, with all kept
pub record IsCutShort (contents_told written_told : Bool) (command : Option Command) (before now : Outside) : Type 0 where
  pub status : Status
  pub output : Output
  pub answer : IsRunAnswer contents_told command before now status output
  pub left : IsLeftShort contents_told written_told output before now

-- nothing is kept or written
pub record IsUntouched (contents_told written_told : Bool) (before now : Outside) : Type 0 where
  pub kept : IsTrue contents_told → SameContents before.contents now.contents
  pub wrote : IsTrue written_told → now.written ≡ before.written

-- the helpers were asked: a command that asks them is done
abbrev pub IsHelped : Option Command → Status → Type 0
IsHelped None status = ⊥
IsHelped (Some c) status = IsTrue (asks_helpers c) × IsDoneStatus c status

-- What a run leaves of its helpers. They stay in their order, and only a command that asks them changes them. If it is done, they have the seeds
-- from that of the command on, each was asked, and each offered one unlawful plan at most.
pub record LeavesHelpers {H : Type 0} (id seed times_asked fouls : H → ℕ) (command : Option Command) (before after : List H) (status : Status) : Type 0 where
  pub order : map id after ≡ map id before
  pub unasked : is_helped command ≡ false → after ≡ before
  pub seeds : IsHelped command status → EachIndex after (λ k. slice_index (map seed after) k ≡ (seed_by command + k) % 2 ^ 64)
  pub asked : IsHelped command status → All (λ helper. 1 ≤ times_asked helper) after
  pub few_fouls : IsHelped command status → All (λ helper. fouls helper ≤ 1) after

-- an answer that could not be written, or for which there was no memory
abbrev pub IsNoAnswer : Status → Type 0
IsNoAnswer status = (status ≡ WriteFault) ⊎ (status ≡ Memory)

-- What a run leaves. `contents_told` and `written_told` say whether contents and what was written are told.
pub record Leaves (contents_told written_told : Bool) (command : Option Command) (before now : Outside) (status : Status) : Type 0 where
  -- each answer is given whole, or cut short, or there was no memory and nothing was done
  pub whole : status ≢ WriteFault → status ≢ Memory → IsWhole contents_told written_told command before now status
  pub cut : status ≡ WriteFault → IsCutShort contents_told written_told command before now
  pub untouched : status ≡ Memory → IsUntouched contents_told written_told before now
  -- names that the command does not keep hold what they held
  pub elsewhere : IsTrue contents_told → (other : List ℕ) → AllByRecursion (λ name. other ≢ name) (kept_by command) → now.contents other ≡ before.contents other
  -- each refusal has its cause
  pub usage : status ≡ BadUsage → command ≡ None
  pub read : status ≡ ReadFault → RoseAtSome (sources_of command) before.failed_looks now.failed_looks
  pub write : status ≡ WriteFault → Rose before.failed_keeps now.failed_keeps ⊎ Rose before.failed_puts now.failed_puts
  pub too_long : (limit : ℕ) → status ≡ TooLong limit → HasLimit limit (sources_of command) × RoseBy (limit + 1) before.given now.given
  -- and if no look failed at a file that the command had to look at, what the names hold decides
  pub no_command : command ≡ None → (status ≡ BadUsage) ⊎ IsNoAnswer status
  pub refused : IsKnown contents_told command → (c : Command) (wanted : Status) → command ≡ Some c → IsRefused c before.contents wanted
      → ¬ (IsUnread c before.contents before.failed_looks now.failed_looks) → (status ≡ wanted) ⊎ IsNoAnswer status
  pub done : IsKnown contents_told command → (c : Command) → command ≡ Some c → CanBeDone c before.contents
      → ¬ (IsUnread c before.contents before.failed_looks now.failed_looks) → IsDoneStatus c status ⊎ IsNoAnswer status
