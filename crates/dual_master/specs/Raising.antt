-- Price sets that are raised, over a pool that may grow.
use Rattle.std.specs.Prelude.{◌≡◌, ◌⊎◌, ℕ, ◌+◌, ◌≤◌, List, length, sum_by, Option, IfSome, pos, ◌*ℤ◌, ◌≤ℤ◌}
use Rattle.std.specs.List.{All}
use Rattle.carp_base.specs.Problem.{Problem}
use Rattle.decision_chains.specs.declared.decision.Decision.{Decision}
use Rattle.branch_rules.specs.Bonds.{GroupWeight, IsGroup}
use Rattle.branch_rules.specs.Decisions.{rules_of}
use Rattle.branch_rules.specs.Laws.{FitsBranch}
use Rattle.branch_rules.specs.Limits.{IsShoreOf}
use Rattle.branch_rules.specs.Prices.{Prices, value_of}

-- the value of a set over the pool afterwards, divided by its denominator, is no less than that of the start over the pool before
abbrev pub IsNoLower : Problem → List Decision → List (List ℕ) → Prices → List (List ℕ) → Prices → Type 0
IsNoLower p branch pool start after set =
    (pos set.unit *ℤ value_of (rules_of p pool branch) start) ≤ℤ (pos start.unit *ℤ value_of (rules_of p after branch) set)

-- the weights on groups are on groups of the instance
abbrev pub HasGroupsOf : Problem → Prices → Type 0
HasGroupsOf p set = All (λ (w : GroupWeight). IsGroup p w.edges) set.groups

-- the weights on groups are those of the start, or on groups of the instance
abbrev pub HasGroupsFrom : Problem → Prices → Prices → Type 0
HasGroupsFrom p start set = (set.groups ≡ start.groups) ⊎ HasGroupsOf p set

-- how long the groups of a set are as text, in numbers: the edges of each, and six more for its weight and its size
abbrev pub group_length : Prices → ℕ
group_length set = sum_by (λ (w : GroupWeight). length w.edges + 6) set.groups

-- they are at most 5,000 long together
abbrev pub HasShortGroups : Prices → Type 0
HasShortGroups set = group_length set ≤ 5000

-- such a set that fits under the branch, with its shores in the pool, and with groups of the instance, which are short
pub record IsRaised (p : Problem) (branch : List Decision) (pool : List (List ℕ)) (start : Prices) (after : List (List ℕ)) (set : Prices) : Type 0 where
  pub fits : FitsBranch p after branch set
  pub shores : All (λ w. IsShoreOf p after w.shore) set.weights
  pub groups : HasGroupsOf p set
  pub short_groups : HasShortGroups set
  pub no_lower : IsNoLower p branch pool start after set

-- an offered set that fits under the branch, has short groups and is worth no less than the start, over one pool
pub record IsAccepted (p : Problem) (branch : List Decision) (pool : List (List ℕ)) (offered start set : Prices) : Type 0 where
  pub same : set ≡ offered
  pub fits : FitsBranch p pool branch offered
  pub short_groups : HasShortGroups offered
  pub no_lower : IsNoLower p branch pool start pool offered

-- the set fits under the branch, and its shores are in the pool
pub record IsHeld (p : Problem) (branch : List Decision) (pool : List (List ℕ)) (set : Prices) : Type 0 where
  pub fits : FitsBranch p pool branch set
  pub shores : All (λ w. IsShoreOf p pool w.shore) set.weights

-- so does a set that is worth no less than the start, with groups of the instance, which are short, over one pool
pub record IsBetter (p : Problem) (branch : List Decision) (pool : List (List ℕ)) (start set : Prices) : Type 0 where
  pub held : IsHeld p branch pool set
  pub groups : HasGroupsOf p set
  pub short_groups : HasShortGroups set
  pub no_lower : IsNoLower p branch pool start pool set

-- where a start and the best offer so far stand, over one pool
pub record IsStanding (p : Problem) (branch : List Decision) (pool : List (List ℕ)) (start : Prices) (best : Option Prices) : Type 0 where
  pub held : IsHeld p branch pool start
  pub better : IfSome best (IsBetter p branch pool start)
