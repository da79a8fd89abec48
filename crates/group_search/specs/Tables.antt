-- Lists that are judged. No public contract speaks of this.
use Rattle.std.specs.Prelude.{ℕ, ◌≤◌, List, length}
use Rattle.std.specs.List.{All}
use Rattle.std.specs.List.Sorted.{IsStrictlyIncreasing}
use Rattle.carp_base.specs.Problem.{Problem}
use Rattle.group_search.specs.Flows.{FlowTable, most_services}
use Rattle.group_search.specs.Violation.{AreViolated, violation}

-- at most 600 numbers of so many services
pub record IsWithin (services : ℕ) (group : List ℕ) : Type 0 where
  pub few : length group ≤ most_services
  pub within : All (λ e. e ≤ services) group

-- rising numbers from 1 to m
pub record IsListed (m : ℕ) (edges : List ℕ) : Type 0 where
  pub rising : IsStrictlyIncreasing edges
  pub from_one : All (λ e. 1 ≤ e) edges
  pub in_range : All (λ e. e ≤ m) edges

-- groups that are violated, none by less than `last`
pub record AreViolatedBy (p : Problem) (flow : FlowTable) (least most last : ℕ) (groups : List (List ℕ)) : Type 0 where
  pub are : AreViolated p flow least most groups
  pub above : All (λ group. last ≤ violation p flow group) groups
