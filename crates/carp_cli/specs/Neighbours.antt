-- What `postman` and `fleet` do, for each way of reading files.
use Rattle.std.specs.Prelude.{◌≡◌, ℕ, List, []}
use Rattle.carp_base.specs.Problem.{Problem}
use Rattle.plan_model.specs.declared.step.Step.{Step}
use Rattle.cut_pool.specs.declared.shore.Weighted.{Weighted}
use Rattle.dat_text.specs.Text.{IsTextOf}
use Rattle.postman.specs.Rounds.{IsShownRound}
use Rattle.command_line.specs.Commands.{Source, instance_at}
use Rattle.command_inputs.specs.declared.status.Status.{Status}
use Rattle.command_outputs.specs.Fleets.{IsFleetFound}
use Rattle.command_outputs.specs.Rounds.{round_text}
use Rattle.command_outputs.specs.Outputs.{Output}

-- the file is the text of an instance, and a least closed walk over its required edges is to be written: no other costs less
pub record IsRoundFound (Reads : Source → (List ℕ → Type 0) → Type 0) (file : List ℕ) (output : Output) : Type 0 where
  pub instance : Problem
  pub read : Reads (instance_at file) (λ bytes. IsTextOf bytes instance)
  pub walk : List Step
  pub shores : List Weighted
  pub cost : ℕ
  pub round : IsShownRound instance walk shores cost
  pub keeps : output.kept ≡ []
  pub writes : output.text ≡ round_text instance walk cost

-- the file is the text of an instance, whose vehicles are counted
pub record IsFleetCounted (Reads : Source → (List ℕ → Type 0) → Type 0) (file : List ℕ) (asked : ℕ) (status : Status) (output : Output) : Type 0 where
  pub instance : Problem
  pub read : Reads (instance_at file) (λ bytes. IsTextOf bytes instance)
  pub fleet : IsFleetFound instance asked status output
