-- Least prices in a town of one street, whose price is 5, and a list of two.
use Rattle.std.proofs.Common.{◌≡◌, ℕ, ◌≤◌, List, [], ◌∷◌, ◌++◌, length, ap, refl, arith}
use Rattle.std.proofs.lemmas.List.Sums.{sum_by-cons}
use Rattle.std.proofs.lemmas.List.{length-append}
use Rattle.plan_model.specs.Plans.{Leads}
use Rattle.plan_model.specs.declared.step.Step.{Step}
use Rattle.deadhead_paths.specs.Prices.{Deadheads, IsLeastPrice}
use Rattle.deadhead_paths.specs.Examples.{five, town, homeward}

-- who goes back crosses the street
pub back_again : Deadheads town five 2 1 5 (homeward ∷ [])
back_again = record { unserved = search; leads = (record { from_one = omega arith; in_range = omega arith }, refl, refl); costs = refl }

pub some_price : (n : ℕ) (steps : List Step) → Deadheads town five 2 1 n steps → 5 ≤ n
some_price n [] d = omega (arith, d.leads)
some_price n (s ∷ steps) d = omega (arith, d.costs, sum_by-cons (λ t. five t.edge) s steps)

pub some_step : (other : List Step) → Deadheads town five 2 1 5 other → 1 ≤ length other
some_step [] d = omega (arith, d.leads)
some_step (s ∷ other) d = omega arith

pub way_back : IsLeastPrice town five 2 1 5
way_back = record { steps = homeward ∷ []; reached = back_again; least = some_price }

-- who is there need not go
pub no_way : IsLeastPrice town five 1 1 0
no_way = record { steps = []; reached = search; least = λ n other d. omega arith }

-- who is at the end need not go there
pub no_way_there : IsLeastPrice town five 2 2 0
no_way_there = record { steps = []; reached = search; least = λ n other d. omega arith }

pub some_way : (steps : List Step) → Leads town 2 steps 1 → 1 ≤ length steps
some_way [] leads = omega (arith, leads)
some_way (s ∷ steps) leads = omega arith

-- of two edges the first does not follow the second
pub not_turned : (before after : List ℕ) → (1 ∷ 2 ∷ []) ≡ before ++ (2 ∷ (1 ∷ after)) → ⊥
not_turned [] after is = cc
not_turned (a ∷ before) after is = omega (arith, ap length is, length-append before (2 ∷ (1 ∷ after)))
