-- From which plan on helpers were asked, and what their best plan costs.
use Rattle.std.specs.Prelude.{ℕ, ◌≤◌, List, replicate}
use Rattle.carp_base.specs.Problem.{Problem}
use Rattle.plan_model.specs.Plans.{plan_cost}
use Rattle.plan_model.specs.declared.step.Step.{Step}
use Rattle.deadhead_paths.specs.Singles.{AreLeastTours}
use Rattle.deadhead_paths.specs.Tidy.{IsTidied}
use Rattle.helper_rounds.specs.Asking.{AreRounds, Standing, fresh}

-- so many seeded helpers were asked in rounds, from the tidied form of a plan on, and the best plan after the rounds costs at least this much
pub record AreAskedFrom (p : Problem) (plan : List (List Step)) (count : ℕ) (helpers : List Standing) (cost : ℕ) : Type 0 where
  pub start : List (List Step)
  pub tidied : IsTidied p plan start
  pub best : List (List Step)
  pub rounds : AreRounds p (record { best = start; helpers = replicate count fresh }) (record { best = best; helpers = helpers })
  pub no_dearer : cost ≤ plan_cost p best

-- the plan is one tour for each required edge by least paths
pub record AreAskedFromSingles (p : Problem) (count : ℕ) (helpers : List Standing) (cost : ℕ) : Type 0 where
  pub singles : List (List Step)
  pub tours : AreLeastTours p singles
  pub asked : AreAskedFrom p singles count helpers cost
