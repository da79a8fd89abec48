-- Which edges have the faults that one edge shows by itself.
use Rattle.std.proofs.Common.{◌≡◌, ℕ, ◌+◌, ◌<◌, ◌≤◌, List, length, get_or, take, Some, None, position, refl, arith}
use Rattle.std.proofs.lemmas.Bool.Decides.{nat_tests}
use Rattle.std.proofs.lemmas.List.{get_or-take, length-take-le}
use Rattle.carp_base.specs.declared.edge.Edge.{Edge}
use Rattle.carp_base.specs.declared.fault.InstanceFault.TheVariants.{Loop, CostTooLarge, ZeroDemand, Overweight, ServiceTooLarge}
use Rattle.carp_base.specs.Problem.{Problem, edge_at, no_edge}
use Rattle.carp_base.specs.Faults.{IsFirstFault}
use Rattle.carp_base.specs.Checks.{IsClear, is_loop, costs_too_much, has_no_demand, is_overweight, has_dear_service}
use Rattle.carp_base.proofs.Ranks.{only_loops, only_costs, only_demands, only_weights, only_services}
use Rattle.carp_base.proofs.EdgeFaults.{EdgeFault, list_clear, list_first}

module _ (p : Problem) (xs : List Edge) (is : xs ≡ p.edges) where
  all_edges : (k : ℕ) → k < length xs → get_or xs k no_edge ≡ get_or p.edges k no_edge
  all_edges k below = rw is

  loops : EdgeFault p Loop 4 (length xs) (λ e. is_loop (edge_at p e))
  loops = record {
    only = only_loops;
    ranked = λ _. refl;
    named = λ _. refl;
    shown = λ e fault. rw is (fault.0.from_one, fault.0.in_range, grind (arith, nat_tests));
    holds = λ e from_one below here. (record { from_one = from_one; in_range = rw (← is) below }, grind (arith, nat_tests));
  }

  pub loops_clear : IsClear p 4 → None ≡ position is_loop xs → IsClear p 5
  loops_clear clear none = list_clear p Loop 4 is_loop xs all_edges loops clear none

  pub loops_first : (i : ℕ) → IsClear p 4 → Some i ≡ position is_loop xs → IsFirstFault p (Loop (i + 1))
  loops_first i clear found = list_first p Loop 4 is_loop xs all_edges loops i clear found

  costs : EdgeFault p CostTooLarge 5 (length xs) (λ e. costs_too_much (edge_at p e))
  costs = record {
    only = only_costs;
    ranked = λ _. refl;
    named = λ _. refl;
    shown = λ e fault. rw is (fault.0.from_one, fault.0.in_range, grind (arith, nat_tests));
    holds = λ e from_one below here. (record { from_one = from_one; in_range = rw (← is) below }, grind (arith, nat_tests));
  }

  pub costs_clear : IsClear p 5 → None ≡ position costs_too_much xs → IsClear p 6
  costs_clear clear none = list_clear p CostTooLarge 5 costs_too_much xs all_edges costs clear none

  pub costs_first : (i : ℕ) → IsClear p 5 → Some i ≡ position costs_too_much xs → IsFirstFault p (CostTooLarge (i + 1))
  costs_first i clear found = list_first p CostTooLarge 5 costs_too_much xs all_edges costs i clear found

module _ (p : Problem) (xs : List Edge) (is : xs ≡ take p.required p.edges) (within : p.required ≤ length p.edges) where
  pub long : length xs ≡ p.required
  long = rw is (length-take-le p.required p.edges within)

  pub required_edges : (k : ℕ) → k < length xs → get_or xs k no_edge ≡ get_or p.edges k no_edge
  required_edges k below =
      let small : k < p.required = omega (arith, long) in rw is (get_or-take p.required p.edges k no_edge small)

  demands : EdgeFault p ZeroDemand 7 (length xs) (λ e. has_no_demand (edge_at p e))
  demands = record {
    only = only_demands;
    ranked = λ _. refl;
    named = λ _. refl;
    shown = λ e fault. rw long (fault.0.from_one, fault.0.in_range, grind (arith, nat_tests));
    holds = λ e from_one below here. (record { from_one = from_one; in_range = rw (← long) below }, grind (arith, nat_tests));
  }

  pub demands_clear : IsClear p 7 → None ≡ position has_no_demand xs → IsClear p 8
  demands_clear clear none = list_clear p ZeroDemand 7 has_no_demand xs required_edges demands clear none

  pub demands_first : (i : ℕ) → IsClear p 7 → Some i ≡ position has_no_demand xs → IsFirstFault p (ZeroDemand (i + 1))
  demands_first i clear found = list_first p ZeroDemand 7 has_no_demand xs required_edges demands i clear found

  weights : EdgeFault p Overweight 8 (length xs) (λ e. is_overweight p.capacity (edge_at p e))
  weights = record {
    only = only_weights;
    ranked = λ _. refl;
    named = λ _. refl;
    shown = λ e fault. rw long (fault.0.from_one, fault.0.in_range, grind (arith, nat_tests));
    holds = λ e from_one below here. (record { from_one = from_one; in_range = rw (← long) below }, grind (arith, nat_tests));
  }

  pub weights_clear : IsClear p 8 → None ≡ position (is_overweight p.capacity) xs → IsClear p 9
  weights_clear clear none = list_clear p Overweight 8 (is_overweight p.capacity) xs required_edges weights clear none

  pub weights_first : (i : ℕ) → IsClear p 8 → Some i ≡ position (is_overweight p.capacity) xs → IsFirstFault p (Overweight (i + 1))
  weights_first i clear found = list_first p Overweight 8 (is_overweight p.capacity) xs required_edges weights i clear found

  services : EdgeFault p ServiceTooLarge 12 (length xs) (λ e. has_dear_service (edge_at p e))
  services = record {
    only = only_services;
    ranked = λ _. refl;
    named = λ _. refl;
    shown = λ e fault. rw long (fault.0.from_one, fault.0.in_range, grind (arith, nat_tests));
    holds = λ e from_one below here. (record { from_one = from_one; in_range = rw (← long) below }, grind (arith, nat_tests));
  }

  pub services_clear : IsClear p 12 → None ≡ position has_dear_service xs → IsClear p 13
  services_clear clear none = list_clear p ServiceTooLarge 12 has_dear_service xs required_edges services clear none

  pub services_first : (i : ℕ) → IsClear p 12 → Some i ≡ position has_dear_service xs → IsFirstFault p (ServiceTooLarge (i + 1))
  services_first i clear found = list_first p ServiceTooLarge 12 has_dear_service xs required_edges services i clear found
