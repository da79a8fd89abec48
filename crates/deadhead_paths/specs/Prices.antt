-- Least prices of deadheads, over all lists of steps, and what a table of them is made for.
use Rattle.std.specs.Prelude.{◌≡◌, ℕ, zero, suc, ◌<◌, ◌≤◌, false, List, length, map, sum_by, slice_index, ◌++◌}
use Rattle.std.specs.List.{AllByRecursion}
use Rattle.carp_base.specs.Problem.{Problem, IsEdgeNumber}
use Rattle.plan_model.specs.Plans.{Leads}
use Rattle.plan_model.specs.declared.step.Step.{Step}

-- the price of the edge of a number from 1, where the prices stand in the order of the edges; 0, and a number past the last one,
-- has no price, which is read as 0
abbrev pub price_of : List ℕ → ℕ → ℕ
price_of prices zero = 0
price_of prices (suc k) = slice_index prices k

-- the price of crossing each edge without service, where that is its cost
abbrev pub costs_of : Problem → List ℕ
costs_of p = map (λ x. x.cost) p.edges

-- none of the steps serves
abbrev pub NoneServed : List Step → Type 0
NoneServed steps = AllByRecursion (λ s. s.served ≡ false) steps

-- the steps lead from a to b without service, at this price in all, where q is the price of each edge
pub record Deadheads (p : Problem) (q : ℕ → ℕ) (a b price : ℕ) (steps : List Step) : Type 0 where
  pub unserved : NoneServed steps
  pub leads : Leads p a steps b
  pub costs : price ≡ sum_by (λ s. q s.edge) steps

-- the least price of a list of steps from a to b: some list has it, and each list has at least it
pub record IsLeastPrice (p : Problem) (q : ℕ → ℕ) (a b price : ℕ) : Type 0 where
  pub steps : List Step
  pub reached : Deadheads p q a b price steps
  pub least : (n : ℕ) (other : List Step) → Deadheads p q a b n other → price ≤ n

-- no list of steps leads from a to b
abbrev pub NoneLead : Problem → ℕ → ℕ → Type 0
NoneLead p a b = (steps : List Step) → Leads p a steps b → ⊥

-- steps of the least price from a to b, as few as such steps can be, and fewer than there are vertices
pub record IsLeastPath (p : Problem) (q : ℕ → ℕ) (a b : ℕ) (steps : List Step) : Type 0 where
  pub price : ℕ
  pub least : IsLeastPrice p q a b price
  pub deadheads : Deadheads p q a b price steps
  pub fewest : (other : List Step) → Deadheads p q a b price other → length steps ≤ length other
  pub short : length steps < p.vertices

-- a price for each edge, none above 4 * 10^18
pub record ArePrices (p : Problem) (prices : List ℕ) : Type 0 where
  pub one_each : length prices ≡ length p.edges
  pub small : (e : ℕ) → IsEdgeNumber p e → price_of prices e ≤ 4000000000000000000

-- an instance with a price for each edge
pub record Priced : Type 0 where
  pub problem : Problem
  pub prices : List ℕ

-- the price of each edge of a priced instance
abbrev pub edge_price : Priced → ℕ → ℕ
edge_price x = price_of x.prices

-- a list of steps grew by steps of the least price from a to b
pub record AddsPath (x : Priced) (a b : ℕ) (before after : List Step) : Type 0 where
  pub path : List Step
  pub least : IsLeastPath x.problem (edge_price x) a b path
  pub added : after ≡ before ++ path
