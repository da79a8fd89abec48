-- What holds of a helper that was asked.
use Rattle.std.specs.Prelude.{◌≡◌, ℕ, ◌<◌, ◌≤◌, List, Option, None, Some}
use Rattle.carp_base.specs.Problem.{Problem}
use Rattle.plan_model.specs.declared.step.Step.{Step}
use Rattle.deadhead_paths.specs.Tidy.{IsTidied}
use Rattle.plan_model.specs.Offers.{Tally}
use Rattle.plan_model.specs.Plans.{IsLawful, plan_cost}
use Rattle.helper_rounds.specs.declared.consulting.Heard.{Heard}
use Rattle.helper_rounds.specs.declared.consulting.Heard.TheVariants.{Better, Same, Foul}

-- this cost is at most that one, if there is one
abbrev pub IsAtMost : ℕ → Option ℕ → Type 0
IsAtMost cost None = Unit {0}
IsAtMost cost (Some other) = cost ≤ other

-- a helper that was asked at most so often, was foul at most once, and offered nothing cheaper
pub record IsFit (rounds cost asked : ℕ) (tally : Tally) : Type 0 where
  pub not_often : asked ≤ rounds
  pub one_foul : tally.fouls ≤ 1
  pub foul_when_asked : tally.fouls ≤ asked
  pub no_cheaper : IsAtMost cost tally.least

-- what an offer is, beside the best lawful plan
abbrev pub Hears : Problem → List (List Step) → Option (List (List Step)) → Heard → Type 0
Hears p best None heard = heard ≡ Same
Hears p best (Some plan) Better = IsLawful p plan × (plan_cost p plan < plan_cost p best)
Hears p best (Some plan) Same = IsLawful p plan × (plan_cost p best ≤ plan_cost p plan)
Hears p best (Some plan) Foul = ¬ (IsLawful p plan)

-- a plan is the offer of this cost, with each tour's services joined by least paths and without empty tours
pub record IsTidiedOffer (p : Problem) (last : Option ℕ) (tidied : List (List Step)) : Type 0 where
  pub plan : List (List Step)
  pub cost : last ≡ Some (plan_cost p plan)
  pub is_tidied : IsTidied p plan tidied
