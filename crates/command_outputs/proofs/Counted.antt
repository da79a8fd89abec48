-- What the groups of a packing say of the walks that serve them.
use Rattle.std.proofs.Common.{◌≡◌, ◌≢◌, ◌<◌, ◌≤◌, ◌-◌, ◌==◌, ◌&&◌, ◌||◌, ℕ, zero, suc, List, [], ◌∷◌, length, arith, refl, sym, ap, ◌∙◌, subst, inl, inr, Bool, true, false, cond}
use Rattle.std.specs.Prelude.{◌⊎◌}
use Rattle.std.specs.List.{count_by, list_any}
use Rattle.std.proofs.lemmas.Bool.{cases_eq, eq-eqb}
use Rattle.std.proofs.lemmas.List.Sums.{sum_by-cons}
use Rattle.carp_base.specs.Packings.{IsGroup, IsPacking, group_of}
use Rattle.carp_base.specs.Problem.{Problem, IsValid}
use Rattle.plan_model.specs.declared.step.Step.{Step}
use Rattle.plan_model.specs.Plans.{IsLawful, serves, walk_at}
use Rattle.task_tours.specs.Tours.{PlanGoesByLeastPaths}
use Rattle.packing_trees.specs.declared.packing.Packing.{Packing}
use Rattle.fleet_pack.specs.Packed.{IsPacked}
use Rattle.group_plans.specs.Groups.{ServesGroups, serving_walks}
use Rattle.group_plans.specs.Laws.{PlansArePackings}
use Rattle.command_inputs.specs.declared.status.Status.{Status}
use Rattle.command_inputs.specs.declared.status.Status.TheVariants.{Proven, Gap}
use Rattle.command_outputs.specs.Fleets.{IsFleetFound, fleet_text}
use Rattle.command_outputs.specs.Outputs.{Output}

abbrev served : Step → Bool
served s = s.served

-- a walk that serves an edge serves
walk_serves : (e : ℕ) (walk : List Step) → 1 ≤ count_by (serves e) walk → list_any served walk ≡ true
walk_serves e [] some = absurd (omega (arith, some))
walk_serves e (s ∷ steps) some = by s.served refl (walk_serves e steps) where
  by : (b : Bool) → s.served ≡ b → (1 ≤ count_by (serves e) steps → list_any served steps ≡ true) → list_any served (s ∷ steps) ≡ true
  by true is rest = ap (λ b. b || list_any served steps) is
  by false is rest =
      let idle : ◌≡◌ {A = ℕ} (cond (serves e s) 1 0) 0 = ap {B = ℕ} (λ (b : Bool). cond (b && (s.edge == e)) 1 0) is in
      let cut = sum_by-cons (λ x. cond (serves e x) 1 0) s steps in
      ap (λ b. b || list_any served steps) is ∙ rest (omega (arith, some, idle, cut))

-- where each walk serves, all are counted
all_serve : (plan : List (List Step)) → ((k : ℕ) → k < length plan → list_any served (walk_at plan k) ≡ true) → serving_walks plan ≡ length plan
all_serve [] each = refl
all_serve (walk ∷ plan) each =
    let cut = sum_by-cons (λ walk. cond (list_any served walk) 1 0) walk plan in
    let first : ◌≡◌ {A = ℕ} (cond (list_any served walk) 1 0) 1 = ap {B = ℕ} (λ (b : Bool). cond b 1 0) (each zero (omega arith)) in
    let others = all_serve plan (λ k less. each (suc k) (omega (arith, less))) in
    omega (arith, cut, first, others)

-- each group of a packing has a walk that serves
pub groups_serve : (p : Problem) (groups : List ℕ) (count : ℕ) (plan : List (List Step)) → IsPacking p groups count → ServesGroups p groups count plan → serving_walks plan ≡ count
groups_serve p groups count plan packing serves_groups = all_serve plan each ∙ serves_groups.one_each where
  each : (k : ℕ) → k < length plan → list_any served (walk_at plan k) ≡ true
  each k less =
      let group : IsGroup count (suc k) = record { from_one = omega arith; in_range = omega (arith, less, serves_groups.one_each) } in
      let filled = packing.none_empty (suc k) group in
      let own : ◌≡◌ {A = ℕ} (cond (group_of groups filled.0 == suc k) 1 0) 1 = ap {B = ℕ} (λ (b : Bool). cond b 1 0) (eq-eqb (group_of groups filled.0) (suc k) filled.2) in
      let back : suc k - 1 ≡ k = omega arith in
      let times : count_by (serves filled.0) (walk_at plan k) ≡ cond (group_of groups filled.0 == suc k) 1 0 =
      subst (λ (j : ℕ). count_by (serves filled.0) (walk_at plan j) ≡ cond (group_of groups filled.0 == suc k) 1 0) back (serves_groups.served (suc k) filled.0 group filled.1) in
      walk_serves filled.0 (walk_at plan k) (omega (arith, times, own))

-- what was counted
pub counted : (p : Problem) (asked : ℕ) (found : Packing) (plan : List (List Step)) (status : Status) (output : Output) (bound count : ℕ) → bound ≡ found.bound → count ≡ found.count → PlansArePackings → IsValid p → IsPacked p asked found
    → IsLawful p plan → ServesGroups p found.groups.items found.count plan → PlanGoesByLeastPaths p plan
    → (bound ≡ count → status ≡ Proven) → (bound ≢ count → status ≡ Gap) → (status ≡ Proven → bound ≡ count) → (status ≡ Gap → bound ≢ count)
    → output.kept ≡ [] → output.text ≡ fleet_text p plan found → ((status ≡ Proven) ⊎ (status ≡ Gap)) × IsFleetFound p asked status output
counted p asked found plan status output bound count bound_is count_is law valid packed lawful serves_groups by_least to_proven to_gap is_proven is_gap keeps writes = (
  elim (cases_eq bound count) [ inl same ↦ inl (to_proven same) | inr other ↦ inr (to_gap other) ],
  record {
    found = found;
    packed = packed;
    plan = plan;
    lawful = lawful;
    serves = serves_groups;
    serving = groups_serve p found.groups.items found.count plan packed.packing serves_groups;
    paths = by_least;
    least = λ other is. let packing = law p other valid is in packed.exact packing.0 (serving_walks other) packing.1;
    ending = record { proven = λ is. sym bound_is ∙ is_proven is ∙ count_is; gap = λ is. let below = less (is_gap is) in (below, packed.ended below) };
    whole = λ enough. to_proven (bound_is ∙ packed.whole enough ∙ sym count_is);
    keeps = keeps;
    writes = writes;
  },
) where
  less : bound ≢ count → found.bound < found.count
  less other = omega (arith, other, packed.tree.most, bound_is, count_is)
