-- How helpers are asked in rounds, and what becomes of the best plan.
use Rattle.std.specs.Prelude.{◌≡◌, ◌⊎◌, ℕ, zero, suc, ◌+◌, ◌<◌, ◌≤◌, Bool, true, false, List, [], ◌∷◌, map, Option, None, Some, Ok}
use Rattle.carp_base.specs.Problem.{Problem}
use Rattle.deadhead_paths.specs.Tidy.{IsTidied}
use Rattle.plan_model.specs.declared.step.Step.{Step}
use Rattle.plan_model.specs.Offers.{AfterOffer, Tally}
use Rattle.plan_model.specs.Plans.{IsLawful, plan_cost}

-- how often a helper was asked, and its tally
pub record Standing : Type 0 where
  pub asked : ℕ
  pub tally : Tally

-- the standing of a helper that is seeded and not yet asked
abbrev pub fresh : Standing
fresh = record { asked = 0; tally = record { fouls = 0; least = None; last = None } }

-- the standings of helpers, in their order
abbrev pub standings : {X : Type 0} → (X → ℕ) → (X → Tally) → List X → List Standing
standings asked tally helpers = map (λ helper. record { asked = asked helper; tally = tally helper }) helpers

-- if an offer is lawful and costs less than the best plan, its tidied form is the best plan now; otherwise the best plan stays
abbrev pub Takes : Problem → Option (List (List Step)) → (best now : List (List Step)) → Type 0
Takes p None best now = now ≡ best
Takes p (Some offer) best now =
    (IsLawful p offer → plan_cost p offer < plan_cost p best → IsTidied p offer now)
    × (¬ (IsLawful p offer × (plan_cost p offer < plan_cost p best)) → now ≡ best)

-- a helper is asked for a plan once more, and the best plan gives way to a better offer
pub record IsAskedOnce (p : Problem) (best : List (List Step)) (before after : Standing) (now : List (List Step)) : Type 0 where
  pub offer : Option (List (List Step))
  pub offered : AfterOffer p (Ok offer) before.tally after.tally
  pub counted : after.asked ≡ before.asked + 1
  pub takes : Takes p offer best now

-- a helper's turn: if it has a foul, it is left as it was and the best plan stays; otherwise it is asked once more
pub record IsTurn (p : Problem) (best : List (List Step)) (before after : Standing) (now : List (List Step)) : Type 0 where
  pub passed : 1 ≤ before.tally.fouls → (after ≡ before) × (now ≡ best)
  pub asks : before.tally.fouls ≡ 0 → IsAskedOnce p best before after now

-- the helpers have a turn each, in the order of the list
abbrev pub AreTurns : Problem → List (List Step) → (befores afters : List Standing) → List (List Step) → Type 0
AreTurns p best [] [] now = now ≡ best
AreTurns p best (before ∷ befores) (after ∷ afters) now = (mid : List (List Step)) × IsTurn p best before after mid × AreTurns p mid befores afters now
AreTurns p best _ _ now = ⊥

-- the best plan and the standings of all helpers at one moment
pub record Moment : Type 0 where
  pub best : List (List Step)
  pub helpers : List Standing

-- in one round, each helper has a turn
abbrev pub IsRound : Problem → (start end : Moment) → Type 0
IsRound p start end = AreTurns p start.best start.helpers end.helpers end.best

-- so many rounds follow each other, and each finds a cheaper plan
abbrev pub AreBetterRounds : Problem → ℕ → (start end : Moment) → Type 0
AreBetterRounds p zero start end = end ≡ start
AreBetterRounds p (suc n) start end = (mid : Moment) × AreBetterRounds p n start mid × IsRound p mid end × (plan_cost p end.best < plan_cost p mid.best)

-- one to four rounds: each but the last finds a cheaper plan, and the last is the fourth or leaves the best plan as it was
pub record AreRounds (p : Problem) (start end : Moment) : Type 0 where
  pub better : ℕ
  pub few : better ≤ 3
  pub last : Moment
  pub before : AreBetterRounds p better start last
  pub round : IsRound p last end
  pub ended : (better ≡ 3) ⊎ (end.best ≡ last.best)

-- whether a cheaper plan was found
abbrev pub TellsOfBetter : Problem → Bool → (best now : List (List Step)) → Type 0
TellsOfBetter p true best now = plan_cost p now < plan_cost p best
TellsOfBetter p false best now = now ≡ best
