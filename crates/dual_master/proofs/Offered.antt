-- The best offer so far, over a pool that grew.
use Rattle.std.proofs.Common.{ℕ, ◌≤◌, List, Option, Some, None, IfSome, Result, Ok, Err, IfOk}
use Rattle.std.specs.Prelude.{unwrap_or}
use Rattle.carp_base.specs.Problem.{Problem}
use Rattle.cut_pool.specs.Pools.{IsGrown}
use Rattle.decision_chains.specs.declared.decision.Decision.{Decision}
use Rattle.branch_rules.specs.Prices.{Prices}
use Rattle.dual_master.specs.Growth.{GrowthKeepsSets}
use Rattle.dual_master.specs.Raising.{IsBetter, IsHeld, IsRaised, IsStanding}
use Rattle.dual_master.proofs.Raised.{no_lower_now, no_lower_through, still_fits, still_there, worth_as_much}

module _ (law : GrowthKeepsSets) (p : Problem) (branch : List Decision) (pool after : List (List ℕ)) (grown : IsGrown pool after) where
  pub held_on : (set : Prices) → IsHeld p branch pool set → IsHeld p branch after set
  held_on set held = record {
    fits = still_fits law p branch pool after grown set held.shores held.fits;
    shores = still_there law p branch pool after grown set held.shores;
  }

  -- a raised set is better over the pool that grew
  pub better_now : (start set : Prices) → IsHeld p branch pool start → IsRaised p branch pool start after set → IsBetter p branch after start set
  better_now start set held raised = record {
    held = record { fits = raised.fits; shores = raised.shores };
    groups = raised.groups;
    short_groups = raised.short_groups;
    no_lower = no_lower_now law p branch pool after grown start held.shores set raised.no_lower;
  }

  -- a better set stays better
  better_on : (start set : Prices) → IsHeld p branch pool start → IsBetter p branch pool start set → IsBetter p branch after start set
  better_on start set held better = record {
    held = held_on set better.held;
    groups = better.groups;
    short_groups = better.short_groups;
    no_lower = no_lower_now law p branch pool after grown start held.shores set (worth_as_much law p branch pool after grown set better.held.shores start better.no_lower);
  }

  -- what is raised from a better set is better
  better_again : (start set next : Prices) → 1 ≤ set.unit → IsHeld p branch pool start → IsBetter p branch pool start set → IsRaised p branch pool set after next →
      IsBetter p branch after start next
  better_again start set next some held better raised = record {
    held = record { fits = raised.fits; shores = raised.shores };
    groups = raised.groups;
    short_groups = raised.short_groups;
    no_lower = no_lower_now law p branch pool after grown start held.shores next (no_lower_through p branch pool pool after start set next some better.no_lower raised.no_lower);
  }

  -- so the later one of two is
  pub later_is_better : (start set : Prices) → 1 ≤ set.unit → IsHeld p branch pool start → IsBetter p branch pool start set → (found : Option Prices) →
      IfSome found (IsRaised p branch pool set after) → IsBetter p branch after start (unwrap_or found set)
  later_is_better start set some held better (Some next) raised = better_again start set next some held better raised
  later_is_better start set some held better None raised = better_on start set held better

  -- where a start stands after the first offer
  pub first_offer : {E : Type 0} (start : Prices) → IsHeld p branch pool start → (r : Result (Option Prices) E) → IfOk r (λ found. IfSome found (IsRaised p branch pool start after)) →
      IfOk r (IsStanding p branch after start)
  first_offer start held (Ok (Some set)) raised = record { held = held_on start held; better = better_now start set held raised }
  first_offer start held (Ok None) raised = record { held = held_on start held; better = tt }
  first_offer start held (Err e) raised = tt
