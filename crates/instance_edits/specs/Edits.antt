-- Edits of an instance, and the instance that they make.
use Rattle.std.specs.Prelude.{ℕ, zero, suc, ◌+◌, ◌-◌, ◌==◌, length, List, [], ◌∷◌, ◌++◌, if◌then◌else◌, Bool, false, sum_by}
use Rattle.std.specs.List.{list_any, Contains}
use Rattle.carp_base.specs.declared.edge.RawEdge.{RawEdge}
use Rattle.carp_base.specs.Problem.{Problem, IsEdgeNumber, IsRequired, described, edge_at}
use Rattle.instance_edits.specs.declared.edit.Edit.{Edit}
use Rattle.instance_edits.specs.declared.edit.Edit.TheVariants.{Cost, Service, Demand, Close}

-- some edit closes the edge
abbrev pub IsClosed : List Edit → ℕ → Type 0
IsClosed edits e = Contains edits (Close e)

abbrev pub closes : ℕ → Edit → Bool
closes e (Close d) = d == e
closes e _ = false

-- An edit names an edge that it may name after others: any edge for a cost, a required one for a service cost or a demand, and one that is not required
-- for closing; and none that is closed already
abbrev pub IsKnown : Problem → List Edit → Edit → Type 0
IsKnown p before (Cost e n) = IsEdgeNumber p e × ¬ (IsClosed before e)
IsKnown p before (Service e n) = IsRequired p e
IsKnown p before (Demand e n) = IsRequired p e
IsKnown p before (Close e) = IsEdgeNumber p e × ¬ (IsRequired p e) × ¬ (IsClosed before e)

-- each edit does, after those before it
abbrev pub AreKnown : Problem → List Edit → List Edit → Type 0
AreKnown p before [] = Unit {0}
AreKnown p before (edit ∷ edits) = IsKnown p before edit × AreKnown p (before ++ edit ∷ []) edits

-- what an edit adds to the cost, the service cost and the demand of an edge
abbrev pub cost_added : ℕ → Edit → ℕ
cost_added e (Cost d n) = if d == e then n else 0
cost_added e _ = 0

abbrev pub service_added : ℕ → Edit → ℕ
service_added e (Service d n) = if d == e then n else 0
service_added e _ = 0

abbrev pub demand_added : ℕ → Edit → ℕ
demand_added e (Demand d n) = if d == e then n else 0
demand_added e _ = 0

-- an edge with all that edits add to it
abbrev pub changed : Problem → List Edit → ℕ → RawEdge
changed p edits e = record {
  u = (edge_at p e).u;
  v = (edge_at p e).v;
  cost = (edge_at p e).cost + sum_by (cost_added e) edits;
  demand = (edge_at p e).demand + sum_by (demand_added e) edits;
  service = (edge_at p e).service + sum_by (service_added e) edits;
}

-- the n edges from number `first` + 1 on, changed, without the closed ones
abbrev pub changed_from : Problem → List Edit → (first n : ℕ) → List RawEdge
changed_from p edits first zero = []
changed_from p edits first (suc n) =
    changed_from p edits first n ++ (if list_any (closes (first + suc n)) edits then [] else changed p edits (first + suc n) ∷ [])

-- the edited instance: the old vertices, depot and capacity, and the edges, changed, without the closed ones
abbrev pub edited : Problem → List Edit → Problem
edited p edits = described p.vertices p.depot p.capacity (changed_from p edits 0 p.required) (changed_from p edits p.required (length p.edges - p.required))
