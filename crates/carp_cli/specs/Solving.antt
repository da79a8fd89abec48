-- What `solve` does: the headline, for each way of reading files.
use Rattle.std.specs.Prelude.{ℕ, List, Option}
use Rattle.carp_base.specs.Problem.{Problem}
use Rattle.dat_text.specs.Text.{IsTextOf}
use Rattle.command_line.specs.Commands.{Source, instance_at}
use Rattle.command_inputs.specs.declared.status.Status.{Status}
use Rattle.command_outputs.specs.Solving.{IsSolvedBy}
use Rattle.command_outputs.specs.Outputs.{Output}

-- The headline: the file is the text of an instance, which is solved.
pub record IsSolved (Reads : Source → (List ℕ → Type 0) → Type 0) (file cert : List ℕ) (asked : ℕ) (offered : List (Option ℕ)) (status : Status) (output : Output) : Type 0 where
  pub instance : Problem
  pub read : Reads (instance_at file) (λ bytes. IsTextOf bytes instance)
  pub solution : IsSolvedBy instance cert asked offered status output
