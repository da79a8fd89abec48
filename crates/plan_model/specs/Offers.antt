-- What a helper's numbers are after it was asked for a plan.
use Rattle.std.specs.Prelude.{◌≡◌, ℕ, ◌+◌, List, min, Option, None, Some, Result, Ok}
use Rattle.carp_base.specs.declared.fail.Memory.{Memory}
use Rattle.carp_base.specs.Problem.{Problem}
use Rattle.plan_model.specs.declared.step.Step.{Step}
use Rattle.plan_model.specs.Plans.{IsLawful, plan_cost}

-- the smaller of two costs, where none is no cost
abbrev pub smaller : Option ℕ → Option ℕ → Option ℕ
smaller None other = other
smaller (Some c) None = Some c
smaller (Some c) (Some d) = Some (min c d)

-- the numbers of a helper that offers can change
pub record Tally : Type 0 where
  pub fouls : ℕ
  pub least : Option ℕ
  pub last : Option ℕ

-- a lawful offer makes `last` its cost; any other answer leaves no `last`, and an unlawful offer is a foul
abbrev pub AfterOffer : Problem → Result (Option (List (List Step))) Memory → Tally → Tally → Type 0
AfterOffer p (Ok (Some plan)) before now =
    (IsLawful p plan → now ≡ record { fouls = before.fouls; least = smaller before.least (Some (plan_cost p plan)); last = Some (plan_cost p plan) })
    × (¬ (IsLawful p plan) → now ≡ record { fouls = before.fouls + 1; least = before.least; last = None })
AfterOffer p _ before now = now ≡ record { fouls = before.fouls; least = before.least; last = None }
