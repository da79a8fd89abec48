-- What a run leaves that makes its helpers itself.
use Rattle.std.specs.Prelude.{◌≡◌, ℕ, Bool, List, [], Option, length, ◌⊎◌}
use Rattle.command_line.specs.Commands.{Command}
use Rattle.command_inputs.specs.declared.status.Status.{Status}
use Rattle.command_inputs.specs.declared.status.Status.TheVariants.{Memory}
use Rattle.carp_cli.specs.Outside.{Outside}
use Rattle.carp_cli.specs.Runs.{IsUntouched, Leaves}

-- There was no memory for the helpers, and nothing was done; or so many helpers were there, and the run leaves what the top call says for
-- what they offered before and afterwards. The outside is told but for what helpers offered.
abbrev pub LeavesByHelpers : (number : ℕ) (contents_told written_told : Bool) (command : Option Command) (before now : List (Option ℕ) → Outside) (status : Status) → Type 0
LeavesByHelpers number contents_told written_told command before now status =
    ((status ≡ Memory) × IsUntouched contents_told written_told (before []) (now []))
    ⊎ ((first offered : List (Option ℕ)) × (length offered ≡ number) × Leaves contents_told written_told command (before first) (now offered) status)
