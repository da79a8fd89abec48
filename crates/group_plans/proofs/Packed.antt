-- The walks of a lawful plan that serve, as the groups of a packing.
use Rattle.std.proofs.Common.{◌≡◌, ℕ, zero, suc, ◌≤◌, ◌==◌, List, map, refl, ap, ◌∙◌, inl, inr, arith}
use Rattle.std.specs.List.{range_with_len}
use Rattle.std.proofs.lemmas.Bool.{cases_lt}
use Rattle.std.proofs.lemmas.List.FromFn.{get_or-map-range_with_len, length-map-range_with_len}
use Rattle.carp_base.specs.Problem.{Problem, IsValid, IsRequired, edge_at}
use Rattle.carp_base.specs.Packings.{IsPacking, demand_in, group_of}
use Rattle.plan_model.specs.declared.step.Step.{Step}
use Rattle.plan_model.specs.Laws.{ServedOnceByNumber}
use Rattle.plan_model.specs.Plans.{IsLawful, services_of}
use Rattle.plan_model.specs.Sums.{sum_to}
use Rattle.group_plans.specs.Groups.{serving_walks}
use Rattle.group_plans.proofs.GroupTasks.{given}
use Rattle.group_plans.proofs.Numbering.{Numbered, first_of_plan, first_numbered, none_idle, number_within, plan_fits, wanted, served_required}

module _ (p : Problem) (f : ℕ → ℕ) where
  -- the numbers of the required edges, in the order of the edges
  abbrev pub numbers : List ℕ
  numbers = map (λ k. f (suc k)) (range_with_len 0 p.required)

  number_is : (e : ℕ) → IsRequired p e → group_of numbers e ≡ f e
  number_is zero required = absurd (omega (arith, required.from_one))
  number_is (suc k) required = get_or-map-range_with_len (λ k. f (suc k)) 0 p.required k k 0 (omega (arith, required.in_range)) (omega arith)

  demand_is : (g n : ℕ) → n ≤ p.required → demand_in p numbers g n ≡ sum_to n (wanted p f g)
  demand_is g zero within = refl
  demand_is g (suc n) within = omega (
    arith,
    demand_is g n (omega arith),
    ap (λ h. given (h == g) (edge_at p (suc n)).demand) (number_is (suc n) (record { from_one = omega arith; in_range = within })),
  )

  module _ (plan : List (List Step)) (lawful : IsLawful p plan) (numbered : Numbered f plan 0) (by_number : ServedOnceByNumber) where
    pub packed : IsPacking p numbers (serving_walks plan)
    packed = record {
      one_each = length-map-range_with_len (λ k. f (suc k)) 0 p.required;
      placed = λ e required.
          let within = number_within f plan 0 e numbered (omega (arith, lawful.once e required)) in
          record { from_one = omega (arith, number_is e required, within.0); in_range = omega (arith, number_is e required, within.1) };
      none_empty = λ g is.
          let found = none_idle p f plan 0 g lawful.walks numbered (omega (arith, is.from_one)) (omega (arith, is.in_range)) in
          (found.0, found.1, number_is found.0 found.1 ∙ found.2);
      loads = λ g is. omega (
        arith,
        demand_is g p.required (omega arith),
        by_number p plan (wanted p f g) lawful,
        plan_fits p f g plan 0 lawful.walks numbered,
      );
    }

-- no edge is served twice
once_at_most : (p : Problem) (plan : List (List Step)) → IsLawful p plan → (e : ℕ) → services_of e plan ≤ 1
once_at_most p plan lawful e = elim (cases_lt 0 (services_of e plan)) [
  | inl some ↦ omega (arith, lawful.once e (served_required p plan lawful.walks e (omega (arith, some))))
  | inr none ↦ omega (arith, none)
]

pub plan_packed : ServedOnceByNumber → (p : Problem) (plan : List (List Step)) → IsValid p → IsLawful p plan → (groups : List ℕ) × IsPacking p groups (serving_walks plan)
plan_packed by_number p plan valid lawful =
    let f : ℕ → ℕ = first_of_plan plan 0 in
    (numbers p f, packed p f plan lawful (first_numbered plan 0 (once_at_most p plan lawful)) by_number)
