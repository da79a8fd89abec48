-- The paths of the first matched pairs, and what they are joined to. No public contract speaks of this.
use Rattle.std.specs.Prelude.{◌≡◌, ℕ, ◌+◌, ◌≤◌, ◌==◌, nat_lt, List, if◌then◌else◌, slice_index}
use Rattle.std.specs.List.{AllByRecursion}
use Rattle.carp_base.specs.Problem.{Problem}
use Rattle.plan_model.specs.Plans.{Leads}
use Rattle.blossom_match.specs.Matching.{total}
use Rattle.matching_duals.specs.Paths.{Pair, all_steps, ends_met, steps_cost, AreParities, reach}

-- how often the pair of a member with a later mate ends at a vertex
abbrev pub ends_at : List ℕ → (ℕ → ℕ) → ℕ → ℕ → ℕ
ends_at odd mate v i =
    if nat_lt i (mate i) then (if slice_index odd i == v then 1 else 0) + (if slice_index odd (mate i) == v then 1 else 0) else 0

-- the distance of such a pair
abbrev pub pair_cost : Problem → List ℕ → List ℕ → (ℕ → ℕ) → ℕ → ℕ
pair_cost p odd table mate i = if nat_lt i (mate i) then reach p table (slice_index odd i) (slice_index odd (mate i)) else 0

-- the counts are the parities of paths between the pairs of the first i members
pub record ArePaired (p : Problem) (odd table : List ℕ) (mate : ℕ → ℕ) (i : ℕ) (counts : List ℕ) : Type 0 where
  pub pairs : List Pair
  pub lead : AllByRecursion (λ j. Leads p j.from j.steps j.to) pairs
  pub parities : AreParities p (all_steps pairs) counts
  pub bits : (k : ℕ) → slice_index counts k ≤ 1
  pub ends : (v : ℕ) → ends_met pairs v ≡ total i (ends_at odd mate v)
  pub cost : steps_cost p (all_steps pairs) ≡ total i (pair_cost p odd table mate)
