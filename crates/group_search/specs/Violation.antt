-- Groups out of which too little flow leads (rounded capacity cuts: Augerat, Belenguer, Benavent, Corberán and Naddef 1998).
use Rattle.std.specs.Prelude.{◌≢◌, ℕ, ◌+◌, ◌-◌, ◌*◌, ◌<◌, ◌≤◌, List, length, sum_by, if◌then◌else◌}
use Rattle.std.specs.List.{All, AllPairs}
use Rattle.carp_base.specs.Problem.{Problem}
use Rattle.plan_model.specs.Sums.{sum_to}
use Rattle.cut_pool.specs.Shores.{vehicles}
use Rattle.branch_rules.specs.Bonds.{IsGroup, group_demand, is_of}
use Rattle.group_search.specs.Flows.{FlowTable, between}
use Rattle.group_search.specs.declared.effort.Effort.{Effort}
use Rattle.group_search.specs.declared.effort.Effort.TheVariants.{Full, Quick}

-- one unit of flow, in parts
abbrev pub unit : ℕ
unit = 1048576

-- the flow between the edges of a group and one service
abbrev pub flow_to : FlowTable → List ℕ → ℕ → ℕ
flow_to flow group f = sum_by (λ e. between flow e f) group

-- that flow if the service is not of the group, and 0 if it is
abbrev pub outward : FlowTable → List ℕ → ℕ → ℕ
outward flow group f = if is_of group f then 0 else flow_to flow group f

-- the flow out of a group: to the depot, and to each service that is not of the group
abbrev pub cut : FlowTable → List ℕ → ℕ
cut flow group = flow_to flow group 0 + sum_to flow.services (outward flow group)

-- by how many parts the flow out of a group is less than two units for each vehicle that its demand takes
abbrev pub violation : Problem → FlowTable → List ℕ → ℕ
violation p flow group = unit * (2 * vehicles p (group_demand p group)) - cut flow group

-- violations up to this many parts do not count: a fiftieth of a unit, and a two-hundredth of one
abbrev pub tolerance : Effort → ℕ
tolerance Quick = 20971
tolerance Full = 5242

-- a group whose violation is above a tolerance
pub record IsViolated (p : Problem) (flow : FlowTable) (least : ℕ) (group : List ℕ) : Type 0 where
  pub edges : IsGroup p group
  pub above : least < violation p flow group

-- at most so many groups, all different, each violated by more than a tolerance, those of greatest violation first
pub record AreViolated (p : Problem) (flow : FlowTable) (least most : ℕ) (groups : List (List ℕ)) : Type 0 where
  pub few : length groups ≤ most
  pub each : All (IsViolated p flow least) groups
  pub different : AllPairs (λ a b. a ≢ b) groups
  pub falling : AllPairs (λ a b. violation p flow b ≤ violation p flow a) groups
