-- What was improved, as it is delivered.
use Rattle.std.proofs.Common.{◌≡◌, ℕ, ◌+◌, List, Option, All}
use Rattle.std.specs.Prelude.{◌⊎◌, min}
use Rattle.carp_base.specs.Problem.{Problem}
use Rattle.cert_lines.specs.Certificates.{Certificate}
use Rattle.helper_rounds.specs.Helpers.{IsAtMost}
use Rattle.carp_engine.specs.Improved.{IsImproved}
use Rattle.command_inputs.specs.declared.status.Status.{Status}
use Rattle.command_inputs.specs.declared.status.Status.TheVariants.{Proven, Gap}
use Rattle.command_outputs.specs.Improving.{IsImprovedBy}
use Rattle.command_outputs.specs.Solving.{IsTold}
use Rattle.command_outputs.specs.Outputs.{Output}
use Rattle.command_outputs.proofs.Solved.{ending}

pub improved_by : {p : Problem} {old : Certificate} {improved : List ℕ} {offered : List (Option ℕ)} (c : Certificate) (asked turns : ℕ) (status : Status) (output : Output)
    → IsImproved p old c asked turns → All (IsAtMost c.cost) offered
    → IsTold p c turns improved status output → ((status ≡ Proven) ⊎ (status ≡ Gap)) × IsImprovedBy p old improved asked offered status output
improved_by c asked turns status output better helped told = (
  told.either,
  record {
    certificate = c;
    turns = turns;
    better = better;
    ending = ending c (min (better.before + asked) 1048576) turns status output better.went_on told;
    helped = helped;
    kept_text = told.kept_text;
    kept_is = told.kept_is;
    keeps = told.keeps;
    writes = told.writes;
  },
)
