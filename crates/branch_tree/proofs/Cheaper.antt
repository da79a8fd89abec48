-- A search with a cheaper best plan.
use Rattle.std.proofs.Common.{◌≡◌, ℕ, ◌<◌, ◌≤◌, true, List, refl, sym, subst, ap, arith, Ok}
use Rattle.carp_base.specs.Problem.{Problem}
use Rattle.plan_model.specs.declared.step.Step.{Step}
use Rattle.plan_model.specs.Plans.{plan_cost}
use Rattle.task_tours.specs.Shorts.{IsAllowedPlan, IsShortPlan}
use Rattle.branch_tree.specs.Leaves.{IsFramed, IsOffer, with_plan}
use Rattle.branch_tree.specs.Searches.{IsHeld, IsSearch, State, state_of}
use Rattle.branch_tree.specs.Steps.{IsOffered}
use Rattle.branch_tree.specs.declared.search.Search.{Search}
use Rattle.branch_tree.proofs.Counting.{no_fewer}
use Rattle.branch_tree.proofs.Turns.{framed_repriced, search_on}

module _ (p : Problem) (s : State) (held : IsHeld p s) where
  -- the tree has no fewer turns for it
  more_turns : (plan : List (List Step)) (cost : ℕ) → cost ≤ s.cost → s.done ≤ (with_plan s plan cost).done
  more_turns plan cost within = omega (arith, held.done_is, no_fewer cost s.cost s.nodes within)

  held_then : (plan : List (List Step)) (cost : ℕ) → IsAllowedPlan p plan → cost ≡ plan_cost p plan → cost ≤ s.cost → IsHeld p (with_plan s plan cost)
  held_then plan cost allowed cost_is within = record {
    valid = held.valid;
    below = held.below;
    some_unit = held.some_unit;
    shown = held.shown;
    beneath = held.beneath;
    tree = held.tree;
    sound = held.sound;
    sets = held.sets;
    few_sets = held.few_sets;
    belong = held.belong;
    allowed = allowed;
    cost_is = cost_is;
    done_is = refl;
    few_nodes = omega (arith, held.few_nodes, more_turns plan cost within);
  }

  offered_then : (plan : List (List Step)) (cost : ℕ) → IsShortPlan p plan → cost < s.cost → IsOffered p s (with_plan s plan cost) true
  offered_then plan cost short less = record {
    pool = refl;
    sets = refl;
    nodes = refl;
    least = refl;
    base = refl;
    plan = (short, less);
    done = refl;
    no_fewer = more_turns plan cost (omega (arith, less));
  }

-- the plan was taken
pub plan_taken : (p : Problem) (before after : Search) (plan : List (List Step)) (cost : ℕ) → IsSearch p before → IsFramed before after → state_of after ≡ with_plan (state_of before) plan cost →
    IsShortPlan p plan → IsAllowedPlan p plan → cost ≡ plan_cost p plan → cost < before.cost → IsOffer p before after (Ok true)
plan_taken p before after plan cost search framed is short allowed cost_is less =
    let then_held : IsHeld p (state_of after) = subst (IsHeld p) (sym is) (held_then p (state_of before) search.held plan cost allowed cost_is (omega (arith, less))) in
    record {
      search = search_on p before after search (framed_repriced p before after search framed) then_held;
      turns = framed.turns;
      least = framed.least;
      short = λ _. subst (IsShortPlan p) (sym (ap (λ (s : State). s.plan) is)) short;
      offered = subst (λ (s : State). IsOffered p (state_of before) s true) (sym is) (offered_then p (state_of before) search.held plan cost short less);
      err = tt;
    }
