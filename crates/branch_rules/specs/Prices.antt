-- Prices of services and weights of shores and of groups, when they fit, and their value (Bode and Irnich 2012).
use Rattle.std.specs.Prelude.{ℕ, zero, suc, ◌*◌, ◌≤◌, ℤ, pos, negsuc, nat_abs, ◌+ℤ◌, ◌-ℤ◌, ◌*ℤ◌, ◌≤ℤ◌, ◌<ℤ◌, Bool, List, [], map, slice_index_or, if◌then◌else◌, Option, IsSome, IfSome, IsTrue, unwrap_or}
use Rattle.std.specs.List.{AllByRecursion}
use Rattle.carp_base.specs.Problem.{Problem, IsEdgeNumber, edge_at}
use Rattle.carp_base.specs.declared.edge.Edge.{Edge}
use Rattle.carp_base.specs.declared.edge.Task.{Task}
use Rattle.plan_model.specs.Plans.{crosses}
use Rattle.deadhead_paths.specs.Prices.{price_of}
use Rattle.deadhead_paths.specs.Tours.{IsTaskTour, LeastDeadhead}
use Rattle.cut_pool.specs.Shores.{is_in}
use Rattle.cut_pool.specs.Pools.{shore_at}
use Rattle.branch_rules.specs.Bonds.{GroupWeight, bond_weight}
use Rattle.branch_rules.specs.declared.weight.Weight.{Weight}
pub use Rattle.branch_rules.specs.Sums.{signed_sum}

-- a denominator, a price for each required edge, weights on shores, and weights on the bonds of groups
pub record Prices : Type 0 where
  pub unit : ℕ
  pub services : List ℤ
  pub weights : List Weight
  pub groups : List GroupWeight

-- what stands if there is no weight
abbrev pub no_weight : Weight
no_weight = record { shore = 0; weight = pos 0 }

-- the weight at a place from 0
abbrev pub weight_at : Prices → ℕ → Weight
weight_at set i = slice_index_or set.weights i no_weight

-- the edge crosses the shore of a number
abbrev pub crosses_shore : List (List ℕ) → ℕ → Edge → Bool
crosses_shore pool i x = crosses (is_in (shore_at pool i)) x

-- what stands at a place without a group
abbrev pub no_group : GroupWeight
no_group = record { edges = []; weight = pos 0 }

-- the weight on a group at a place from 0
abbrev pub group_at : Prices → ℕ → GroupWeight
group_at set i = slice_index_or set.groups i no_group

-- what a weight takes off the price of crossing an edge
abbrev pub crossing_weight : List (List ℕ) → Edge → Weight → ℤ
crossing_weight pool x w = if crosses_shore pool w.shore x then w.weight else pos 0

-- the price of serving the edge of a number from 1; 0 and the numbers past the last price have none, which is read as 0
abbrev pub price_in : Prices → ℕ → ℤ
price_in set zero = pos 0
price_in set (suc k) = slice_index_or set.services k (pos 0)

-- the price of crossing an edge without serving it: its cost in units, less the weights of the shores that it crosses
abbrev pub deadhead_price : List (List ℕ) → Prices → Edge → ℤ
deadhead_price pool set x =
    pos (set.unit * x.cost) -ℤ signed_sum (crossing_weight pool x) set.weights

-- the price of crossing each edge without service, in the order of the edges, if none is negative
abbrev pub crossing_prices : Problem → List (List ℕ) → Prices → List ℕ
crossing_prices p pool set = map (λ x. nat_abs (deadhead_price pool set x)) p.edges

-- what a service adds to a tour: what it costs, less its price
abbrev pub task_adds : Problem → Prices → ℕ → ℤ
task_adds p set e = pos (set.unit * (edge_at p e).service) -ℤ price_in set e

-- each relaxed tour pays for its services, joined by least prices, with what its bonds weigh; r is what a service adds
abbrev pub PaysAtLeast : Problem → (ℕ → ℕ → Type 0) → (ℕ → ℤ) → (ℕ → ℕ) → List GroupWeight → Type 0
PaysAtLeast p allowed r q groups =
    (tasks : List Task) (n : ℕ) → IsTaskTour p allowed tasks → LeastDeadhead p q p.depot tasks p.depot n →
    pos 0 ≤ℤ (signed_sum (λ t. r t.edge) tasks +ℤ (pos n +ℤ bond_weight groups (map (λ t. t.edge) tasks)))

-- the lower and the upper number of each shore, the room of each group, and the groups that are pairs to be served together
pub record Rules : Type 0 where
  pub lower : ℕ → ℕ
  pub upper : ℕ → Option ℕ
  pub room : List ℕ → ℕ
  pub together : List ℕ → Bool

-- a number of deadheads over a shore is within its rules
pub record KeepsRules (rules : Rules) (shore count : ℕ) : Type 0 where
  pub least : rules.lower shore ≤ count
  pub most : IfSome (rules.upper shore) (λ k. count ≤ k)

-- no deadhead price is negative, each shore of negative weight has an upper number, each group of negative weight is a pair to be served
-- together, and each relaxed tour pays
pub record Fits (p : Problem) (pool : List (List ℕ)) (rules : Rules) (allowed : ℕ → ℕ → Type 0) (set : Prices) : Type 0 where
  pub not_negative : (e : ℕ) → IsEdgeNumber p e → pos 0 ≤ℤ deadhead_price pool set (edge_at p e)
  pub has_upper : AllByRecursion (λ w. w.weight <ℤ pos 0 → IsSome (rules.upper w.shore)) set.weights
  pub has_yes : AllByRecursion (λ w. w.weight <ℤ pos 0 → IsTrue (rules.together w.edges)) set.groups
  pub tours : PaysAtLeast p allowed (task_adds p set) (price_of (crossing_prices p pool set)) set.groups

-- a weight that is not negative counts by the lower number, and a negative one by the upper number
abbrev pub weigh : ℤ → ℕ → ℕ → ℤ
weigh (pos w) low high = pos w *ℤ pos low
weigh (negsuc w) low high = negsuc w *ℤ pos high

abbrev pub weight_value : Rules → Weight → ℤ
weight_value rules w = weigh w.weight (rules.lower w.shore) (unwrap_or (rules.upper w.shore) 0)

-- the most that the bonds of a group can weigh: a weight that is not negative counts for each bond that there is room for, and a negative
-- one for the one bond of its pair
abbrev pub weigh_bonds : ℤ → ℕ → ℤ
weigh_bonds (pos w) room = pos w *ℤ pos room
weigh_bonds (negsuc w) room = negsuc w

-- the most that the bonds of all groups can weigh in a plan
abbrev pub room_weight : Rules → List GroupWeight → ℤ
room_weight rules groups = signed_sum (λ w. weigh_bonds w.weight (rules.room w.edges)) groups

-- the value of a price set: the sum of the prices, and of the weights times the numbers of their shores, less the most that bonds can weigh
abbrev pub value_of : Rules → Prices → ℤ
value_of rules set =
    (signed_sum (λ z. z) set.services +ℤ signed_sum (weight_value rules) set.weights) -ℤ room_weight rules set.groups
