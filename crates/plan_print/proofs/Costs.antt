-- What a plan costs is the sum of what its walks cost, and no sum is large.
use Rattle.std.proofs.Common.{◌≡◌, ℕ, ◌+◌, ◌*◌, ◌<◌, ◌≤◌, ◌^◌, Bool, true, false, List, [], ◌∷◌, length, get_or, refl, sym, ap, ◌∙◌, subst, arith, inl, inr}
use Rattle.std.proofs.lemmas.Bool.{cases_lt}
use Rattle.std.specs.Prelude.{if◌then◌else◌}
use Rattle.std.specs.List.{sum_by, All}
use Rattle.std.proofs.lemmas.List.Sums.{sum_by-cons, sum_by-append, sum_by-le}
use Rattle.carp_base.specs.Problem.{Problem, IsValid, IsEdgeNumber, edge_at}
use Rattle.plan_model.specs.declared.step.Step.{Step}
use Rattle.plan_model.specs.Plans.{IsLawful, IsOnEdges, walk_at, steps_of, step_cost, walk_cost}
use Rattle.plan_print.proofs.TourLines.{lawful_on_edges}

-- a sum over all steps of a plan is the sum over its walks
pub sum_by_walks : (f : Step → ℕ) (plan : List (List Step)) → sum_by f (steps_of plan) ≡ sum_by (λ walk. sum_by f walk) plan
sum_by_walks f [] = refl
sum_by_walks f (walk ∷ plan) =
    sum_by-append f walk (steps_of plan)
    ∙ ap (λ n. sum_by f walk + n) (sum_by_walks f plan)
    ∙ sym (sum_by-cons (λ w. sum_by f w) walk plan)

small_service : (p : Problem) (e : ℕ) → IsValid p → IsEdgeNumber p e → (edge_at p e).service ≤ 1000000
small_service p e valid number = elim (cases_lt p.required e) [
  | inl other ↦ omega (arith, (valid.idle e number other).no_service)
  | inr required ↦ (valid.tasks e (record { from_one = number.from_one; in_range = required })).service_in
]

small_step : (p : Problem) (s : Step) → IsValid p → IsEdgeNumber p s.edge → step_cost p s ≤ 1000000
small_step p s valid number = by s.served where
  by : (b : Bool) → (if b then (edge_at p s.edge).service else (edge_at p s.edge).cost) ≤ 1000000
  by true = small_service p s.edge valid number
  by false = (valid.edges s.edge number).cost_in

-- a walk of fewer than 2^32 steps
small_walk : (p : Problem) (walk : List Step) → IsValid p → IsOnEdges p walk → length walk < 2 ^ 32 → walk_cost p walk ≤ 2 ^ 32 * 1000000
small_walk p walk valid on_edges short =
    let small : All (λ s. step_cost p s ≤ 1000000) walk = λ k d below. small_step p (get_or walk k d) valid (on_edges k d below) in
    omega (arith, sum_by-le (step_cost p) 1000000 walk small)

-- the walk of a lawful plan at a place
pub small_walk_at : (p : Problem) (plan : List (List Step)) (k : ℕ) (walk : List Step) → IsValid p → IsLawful p plan → k < length plan → walk ≡ walk_at plan k →
    length walk < 2 ^ 32 → walk_cost p walk ≤ 2 ^ 32 * 1000000
small_walk_at p plan k walk valid lawful below is short =
    small_walk p walk valid (subst (λ (w : List Step). IsOnEdges p w) (sym is) (lawful_on_edges p plan lawful k below)) short
