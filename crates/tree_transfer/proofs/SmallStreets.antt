-- The small data of the examples.
use Rattle.std.proofs.Common.{◌≡◌, ℕ, zero, suc, ◌<◌, ◌≤◌, ◌==◌, true, false, cond, List, [], ◌∷◌, length, refl, ap, subst, arith, inl, inr, length-append}
use Rattle.std.proofs.lemmas.Bool.{cases_eq, false≢true}
use Rattle.std.proofs.lemmas.Bool.Decides.{nat_tests}
use Rattle.std.proofs.lemmas.List.Sums.{sum_by-cons}
use Rattle.carp_base.specs.Problem.{Problem, IsEdgeNumber, IsFineEdge, IsFineTask, IsIdle, IsRequired, IsValid, IsVertex, edge_at}
use Rattle.plan_model.specs.Plans.{IsWalk, step_cost, walk_cost}
use Rattle.plan_model.specs.declared.step.Step.{Step}
use Rattle.deadhead_paths.specs.Examples.{town}
use Rattle.decision_chains.specs.Exclusions.{AreJoined}
use Rattle.decision_chains.specs.Neighbours.{times}
use Rattle.decision_chains.specs.FixedValue.{ServesChain}
use Rattle.decision_chains.specs.PlanLaws.{ChainsCostLess, IsServedWithin}
use Rattle.instance_edits.specs.Examples.{three_streets}
use Rattle.tree_transfer.specs.Examples.{exchanged_streets, free_town, there_and_back}
use Rattle.tree_transfer.specs.Raised.{IsNoCheaper, IsRaised}

up_to_three : (P : ℕ → Type 0) → P 1 → P 2 → P 3 → (e : ℕ) → 1 ≤ e → e ≤ 3 → P e
up_to_three P one two three zero low high = absurd (omega (arith, low))
up_to_three P one two three (suc zero) low high = one
up_to_three P one two three (suc (suc zero)) low high = two
up_to_three P one two three (suc (suc (suc zero))) low high = three
up_to_three P one two three (suc (suc (suc (suc k)))) low high = absurd (omega (arith, high))

pub raised_itself : IsRaised three_streets three_streets
raised_itself = record {
  vertices = refl;
  depot = refl;
  capacity = refl;
  required = refl;
  number = λ e. e;
  inside = λ e number. number;
  same = λ e required. refl;
  edges = λ e number. record { u_same = refl; v_same = refl; cost = omega arith; demand = omega arith; service = omega arith };
}

-- the numbers that exchanged streets had
abbrev before : ℕ → ℕ
before zero = 0
before (suc zero) = 1
before (suc (suc zero)) = 3
before (suc (suc (suc k))) = 2

pub renumbered : IsRaised three_streets exchanged_streets
renumbered = record {
  vertices = refl;
  depot = refl;
  capacity = refl;
  required = refl;
  number = before;
  inside = λ e number.
      up_to_three (λ e. IsEdgeNumber three_streets (before e)) (record { from_one = omega arith; in_range = omega arith }) (record { from_one = omega arith; in_range = omega arith })
      (record { from_one = omega arith; in_range = omega arith }) e number.from_one number.in_range;
  same = one_same;
  edges = λ e number. up_to_three (λ e. IsNoCheaper (edge_at three_streets (before e)) (edge_at exchanged_streets e)) alike alike alike e number.from_one number.in_range;
}
  where
    one_same : (e : ℕ) → IsRequired exchanged_streets e → before e ≡ e
    one_same zero required = absurd (omega (arith, required.from_one))
    one_same (suc zero) required = refl
    one_same (suc (suc k)) required = absurd (omega (arith, required.in_range))

    alike : {x : _} → IsNoCheaper x x
    alike = record { u_same = refl; v_same = refl; cost = omega arith; demand = omega arith; service = omega arith }

-- An instance and edits that are as they should be.

vertex : (v : ℕ) → 1 ≤ v → v ≤ 3 → IsVertex three_streets v
vertex v low high = record { from_one = low; in_range = high }

pub valid_streets : IsValid three_streets
valid_streets = record {
  few_vertices = omega arith;
  few_edges = omega arith;
  few_required = omega arith;
  required_in = omega arith;
  depot_in = vertex 1 (omega arith) (omega arith);
  some_capacity = omega arith;
  capacity_in = omega arith;
  few_states = omega arith;
  edges = λ e number.
      up_to_three (λ e. IsFineEdge three_streets (edge_at three_streets e))
      (record { u_in = vertex 1 (omega arith) (omega arith); v_in = vertex 2 (omega arith) (omega arith); no_loop = λ same. omega (arith, same); cost_in = omega arith })
      (record { u_in = vertex 2 (omega arith) (omega arith); v_in = vertex 3 (omega arith) (omega arith); no_loop = λ same. omega (arith, same); cost_in = omega arith })
      (record { u_in = vertex 1 (omega arith) (omega arith); v_in = vertex 3 (omega arith) (omega arith); no_loop = λ same. omega (arith, same); cost_in = omega arith }) e number.from_one number.in_range;
  tasks = one_task;
  idle = λ e number more.
      up_to_three (λ e. 1 < e → IsIdle (edge_at three_streets e)) (λ less. absurd (omega (arith, less))) (λ less. record { no_demand = refl; no_service = refl })
      (λ less. record { no_demand = refl; no_service = refl }) e number.from_one number.in_range more;
}
  where
    one_task : (e : ℕ) → IsRequired three_streets e → IsFineTask three_streets e
    one_task zero required = absurd (omega (arith, required.from_one))
    one_task (suc zero) required = record { some_demand = omega arith; demand_fits = omega arith; reached = record { path = []; leads = refl }; service_in = omega arith }
    one_task (suc (suc k)) required = absurd (omega (arith, required.in_range))

-- One street that is served.

one_only : (f : ℕ) → AreJoined [] 1 f → 1 ≡ f
one_only f ([], leads) = leads
one_only f (x ∷ xs, leads) = absurd (false≢true leads.0)

times-one : (f : ℕ) → times f (1 ∷ []) ≡ cond (1 == f) 1 0
times-one f = omega (arith, sum_by-cons (λ y. cond (y == f) 1 0) 1 [])

serves_in : (p : Problem) → IsWalk p there_and_back → ServesChain p [] 1 there_and_back
serves_in p leads = record {
  leads = leads;
  just = λ f some. elim (cases_eq 1 f) [
    | inl same ↦ ([], same)
    | inr other ↦ absurd (omega (arith, some, none f other))
  ];
  each = λ f joined. subst (λ d. times d (1 ∷ []) ≡ 1) (one_only f joined) refl;
  order = λ a b follows. absurd (omega (arith, ap length follows.joined, length-append follows.before (a ∷ (b ∷ follows.after))));
}
  where
    none : (f : ℕ) → ¬ (1 ≡ f) → times f (1 ∷ []) ≡ 0
    none f other = grind (arith, nat_tests)

pub served : IsServedWithin town [] 1 12
served = record {
  walk = there_and_back;
  serves = serves_in town (record { from_one = omega arith; in_range = omega arith }, refl, (record { from_one = omega arith; in_range = omega arith }, refl, refl));
  within = omega arith;
}

some_cost : (s : Step) → IsEdgeNumber town s.edge → 1 ≤ step_cost town s
some_cost s number = by_edge s.edge number s.served
  where
    by_edge : (e : ℕ) → IsEdgeNumber town e → (b : _) → 1 ≤ step_cost town (record { edge = e; forward = s.forward; served = b })
    by_edge zero number b = absurd (omega (arith, number.from_one))
    by_edge (suc zero) number true = omega arith
    by_edge (suc zero) number false = omega arith
    by_edge (suc (suc k)) number b = absurd (omega (arith, number.in_range))

free_walk : (walk : List Step) → ServesChain town [] 1 walk → walk_cost town walk ≤ 0 → ⊥
free_walk [] serves within = omega (arith, serves.each 1 ([], refl))
free_walk (s ∷ walk) serves within = omega (arith, within, sum_by-cons (step_cost town) s walk, some_cost s serves.leads.0)

pub not_free : ¬ (IsServedWithin town [] 1 0)
not_free x = free_walk x.walk x.serves x.within

pub not_less : ¬ (ChainsCostLess town free_town [] [])
not_less less = not_free
    (less 1 there_and_back (record { from_one = omega arith; in_range = omega arith })
    (serves_in free_town (record { from_one = omega arith; in_range = omega arith }, refl, (record { from_one = omega arith; in_range = omega arith }, refl, refl))))
