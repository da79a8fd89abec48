-- What `improve` does, for each way of reading files.
use Rattle.std.specs.Prelude.{ℕ, List, Option}
use Rattle.carp_base.specs.Problem.{Problem}
use Rattle.cert_lines.specs.Certificates.{Certificate}
use Rattle.command_line.specs.Commands.{Source}
use Rattle.command_inputs.specs.Jobs.{AreCertified}
use Rattle.command_inputs.specs.declared.status.Status.{Status}
use Rattle.command_outputs.specs.Improving.{IsImprovedBy}
use Rattle.command_outputs.specs.Outputs.{Output}

-- the two files are the texts of an instance and of a certificate that is good for it, which is gone on with
pub record IsImprovedFrom (Reads : Source → (List ℕ → Type 0) → Type 0) (file cert improved : List ℕ) (asked : ℕ) (offered : List (Option ℕ)) (status : Status) (output : Output) : Type 0 where
  pub instance : Problem
  pub old : Certificate
  pub certified : AreCertified Reads file cert instance old
  pub improvement : IsImprovedBy instance old improved asked offered status output
