-- The tour that is taken next, by the flags and the costs.
use Rattle.std.proofs.Common.{◌≡◌, ℕ, ◌+◌, ◌-◌, ◌<◌, inl, inr, Bool, true, false, List, [], ◌∷◌, ◌++◌, length, get_or, set, sym, ap, subst, ◌∙◌, arith}
use Rattle.std.specs.Prelude.{IsTrue}
use Rattle.std.specs.List.{AllByRecursion}
use Rattle.std.proofs.lemmas.List.{get_or-set_same}
use Rattle.carp_base.specs.declared.edge.Task.{Task}
use Rattle.carp_base.specs.Problem.{Problem, IsValid, IsRequired, edge_at}
use Rattle.plan_model.specs.declared.step.Step.{Step}
use Rattle.plan_model.specs.Plans.{walk_at, walk_cost}
use Rattle.deadhead_paths.specs.Singles.{AreLeastTours, IsLeastTour, service_of}
use Rattle.deadhead_paths.specs.Tours.{task_of}
use Rattle.augment_merge.specs.Augmenting.{IsTakenNext, IsTakenTour, augmented_tasks, is_among, single_cost}
use Rattle.augment_merge.specs.Absorbing.{FlagsSay, IsAbsorbed, IsDearest, IsFlagged}
use Rattle.augment_merge.proofs.Absorption.{flags_more}
use Rattle.augment_merge.proofs.Taken.{counted_once}
use Rattle.augment_merge.proofs.Walks.{single_all}

module _ (p : Problem) (valid : IsValid p) (singles : List (List Step)) (single : AreLeastTours p singles) (costs : List ℕ)
    (costs_are : (k : ℕ) → k < length singles → get_or costs k 0 ≡ walk_cost p (walk_at singles k))
    (flags : List Bool) (taken : List Task) (say : FlagsSay p flags taken) (place : ℕ) (found : IsDearest costs flags (length flags) place) where
  back : (place + 1) - 1 ≡ place
  back = omega arith

  required : IsRequired p (place + 1)
  required = record { from_one = omega arith; in_range = omega (arith, found.in_range, say.long) }

  cost_is : (e : ℕ) → IsRequired p e → get_or costs (e - 1) 0 ≡ single_cost p singles e
  cost_is e is = costs_are (e - 1) (omega (arith, is.from_one, is.in_range, single.one_each))

  here_costs : get_or costs place 0 ≡ single_cost p singles (place + 1)
  here_costs = ap (λ k. get_or costs k 0) (sym back) ∙ cost_is (place + 1) required

  next : IsTakenNext p singles taken (place + 1)
  next = record {
    required = required;
    untaken = sym (say.says (place + 1) required) ∙ ap (λ k. get_or flags k false) back ∙ found.unflagged;
    dearest = λ other is untaken. elim (found.dearest (other - 1) (omega (arith, is.from_one, is.in_range, say.long)) (say.says other is ∙ untaken)) [
      | inl less ↦ inl (omega (arith, here_costs, cost_is other is))
      | inr same ↦ inr (sym here_costs ∙ same.0 ∙ cost_is other is, let least = same.1 in omega (arith, is.from_one))
    ];
  }

  pub flags_now : FlagsSay p (set flags place true) (taken ++ task_of (service_of (place + 1)) ∷ [])
  flags_now = subst (λ k. FlagsSay p (set flags k true) (taken ++ task_of (service_of (place + 1)) ∷ [])) back (flags_more p flags taken (task_of (service_of (place + 1))) say required)

  walk_single : IsLeastTour p (place + 1) (walk_at singles place)
  walk_single = subst (λ k. IsLeastTour p (place + 1) (walk_at singles k)) back (single.tours (place + 1) required)

  pub own_flagged : AllByRecursion (λ s. IsTrue s.served → IsFlagged p (set flags place true) s.edge) (walk_at singles place)
  own_flagged = single_all p (place + 1) (walk_at singles place) walk_single (IsFlagged p (set flags place true)) (record {
    required = required;
    flagged = ap (λ k. get_or (set flags place true) k false) back ∙ get_or-set_same flags place true false found.in_range;
  })

  module _ (load : ℕ) (load_is : load ≡ (edge_at p (place + 1)).demand) (after : List Bool) (tour : List Task)
      (absorbed : IsAbsorbed p load (walk_at singles place) after (taken ++ task_of (service_of (place + 1)) ∷ []) tour) where
    tasks : tour ≡ augmented_tasks p (taken ++ task_of (service_of (place + 1)) ∷ []) (edge_at p (place + 1)).demand (walk_at singles place)
    tasks = absorbed.tasks ∙ ap (λ n. augmented_tasks p (taken ++ task_of (service_of (place + 1)) ∷ []) n (walk_at singles place)) load_is

    pub is_taken : IsTakenTour p singles taken tour
    is_taken = record {
      edge = place + 1;
      next = next;
      tasks = tasks ∙ ap (λ k. augmented_tasks p (taken ++ task_of (service_of (place + 1)) ∷ []) (edge_at p (place + 1)).demand (walk_at singles k)) (sym back);
    }

    pub flags_after : FlagsSay p after (taken ++ tour)
    flags_after = record {
      long = absorbed.flags.long;
      says = λ e is.
          absorbed.flags.says e is ∙ ap (λ ts. is_among e ((taken ++ task_of (service_of (place + 1)) ∷ []) ++ ts)) tasks
          ∙ counted_once p valid (place + 1) required (walk_at singles place) walk_single taken e ∙ ap (λ ts. is_among e (taken ++ ts)) (sym tasks);
    }
