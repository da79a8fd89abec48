-- Groups of edges from 1 to 600.
use Rattle.std.proofs.Common.{◌≡◌, ℕ, zero, suc, ◌-◌, ◌≤◌, List, [], length, get_or, sym, subst, arith, inl, inr, Result, Ok, Err, IfOk}
use Rattle.std.specs.List.{All}
use Rattle.std.proofs.lemmas.List.{get_or_read}
use Rattle.std.proofs.lemmas.List.Elements.{All-nil, All-weaker}
use Rattle.carp_base.specs.Problem.{Problem, IsRequired, IsValid}
use Rattle.branch_rules.specs.Bonds.{GroupWeight, IsGroup}
use Rattle.branch_rules.specs.Limits.{IsShoreOf}
use Rattle.branch_rules.specs.Prices.{Prices}
use Rattle.branch_rules.specs.Trees.{no_prices}
use Rattle.decision_chains.specs.declared.decision.Decision.{Decision}
use Rattle.tight_prices.specs.Tight.{IsTight}
use Rattle.dual_master.specs.Raising.{HasShortGroups, HasGroupsFrom, IsNoLower}
use Rattle.branch_tree.specs.Leaves.{IsRaisedFrom}
use Rattle.branch_tree.specs.Searches.{HasGroupsInRange, IsGroupInRange, set_in}

pub none_in_range : (set : Prices) → set.groups ≡ [] → HasGroupsInRange set
none_in_range set none = subst (All IsGroupInRange) (sym none) (All-nil IsGroupInRange)

-- required edges are in range
required_in_range : (p : Problem) → IsValid p → (w : GroupWeight) → IsGroup p w.edges → IsGroupInRange w
required_in_range p valid w is = All-weaker (IsRequired p) (λ e. (1 ≤ e) × (e ≤ 600)) (λ e required. (required.from_one, omega (arith, required.in_range, valid.few_required))) w.edges is.required

-- a set that has the groups of its start, or groups of the instance
pub kept_in_range : (p : Problem) → IsValid p → (start set : Prices) → HasGroupsFrom p start set → HasGroupsInRange start → HasGroupsInRange set
kept_in_range p valid start set (inl same) is = subst (All IsGroupInRange) (sym same) is
kept_in_range p valid start set (inr of) is = All-weaker (λ (w : GroupWeight). IsGroup p w.edges) IsGroupInRange (required_in_range p valid) set.groups of

one_less : (k : ℕ) → suc k - 1 ≡ k
one_less k = omega arith

-- the set that stands at the place of a number
pub at_number : (sets : List Prices) (number : ℕ) (set : Prices) → 1 ≤ number → number ≤ length sets → set ≡ get_or sets (number - 1) set → set ≡ set_in sets number
at_number sets zero set from_one to_last is = absurd (omega (arith, from_one))
at_number sets (suc k) set from_one to_last is = get_or_read sets k set (omega (arith, to_last)) (subst (λ (i : ℕ). set ≡ get_or sets i set) (one_less k) is) no_prices

-- a set that was raised from a set was raised from that of a number
pub raised_from : {E : Type 0} (p : Problem) (pool : List (List ℕ)) (branch : List Decision) (sets : List Prices) (number : ℕ) (after : List (List ℕ)) (start : Prices)
    (r : Result Prices E) → start ≡ set_in sets number → 1 ≤ start.unit → IfOk r (IsTight p after (length pool) branch) → IfOk r (IsNoLower p branch pool start after) →
    IfOk r (HasGroupsFrom p start) → (HasShortGroups start → IfOk r HasShortGroups) → IfOk r (λ set. All (λ w. IsShoreOf p after w.shore) set.weights) → IfOk r (IsRaisedFrom p pool branch sets number after)
raised_from p pool branch sets number after start (Ok set) same unit tight no_lower groups few shores = record {
  from_unit = subst (λ (s : Prices). 1 ≤ s.unit) same unit;
  tight = tight;
  shores = shores;
  groups = subst (λ (s : Prices). HasGroupsFrom p s set) same groups;
  short_groups = λ start_few. few (subst HasShortGroups (sym same) start_few);
  no_lower = subst (λ (s : Prices). IsNoLower p branch pool s after set) same no_lower;
}
raised_from p pool branch sets number after start (Err e) same unit tight no_lower groups few shores = tt
