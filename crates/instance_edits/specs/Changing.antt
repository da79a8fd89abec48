-- What edits do to each edge, in a table. No public contract speaks of this.
use Rattle.std.specs.Prelude.{◌≡◌, ℕ, zero, suc, ◌+◌, ◌<◌, ◌≤◌, ◌^◌, ◌||◌, false, List, [], ◌∷◌, ◌++◌, length, slice_index_or, sum_by, if◌then◌else◌}
use Rattle.std.specs.List.{list_any}
use Rattle.carp_base.specs.declared.edge.Edge.{Edge}
use Rattle.carp_base.specs.declared.edge.RawEdge.{RawEdge}
use Rattle.carp_base.specs.Problem.{Problem, edge_at}
use Rattle.instance_edits.specs.declared.edit.Edit.{Edit}
use Rattle.instance_edits.specs.declared.edit.Edit.TheVariants.{Cost, Service, Demand, Close}
use Rattle.instance_edits.specs.declared.change.Change.{Change}
use Rattle.instance_edits.specs.Edits.{closes, cost_added, service_added, demand_added}

-- nothing is changed
abbrev pub nothing : Change
nothing = record { cost = 0; demand = 0; service = 0; closed = false }

-- all that edits do to an edge
abbrev pub change_by : List Edit → ℕ → Change
change_by edits e = record {
  cost = sum_by (cost_added e) edits;
  demand = sum_by (demand_added e) edits;
  service = sum_by (service_added e) edits;
  closed = list_any (closes e) edits;
}

-- one edit more
abbrev pub and_by : Change → ℕ → Edit → Change
and_by change e edit = record {
  cost = change.cost + cost_added e edit;
  demand = change.demand + demand_added e edit;
  service = change.service + service_added e edit;
  closed = change.closed || closes e edit;
}

-- each edge has what edits do to it
abbrev pub IsTable : List Change → List Edit → Type 0
IsTable changes edits = (e : ℕ) → e < length changes → slice_index_or changes e nothing ≡ change_by edits e

-- no number of the table is greater
pub record IsAtMost (most : ℕ) (change : Change) : Type 0 where
  pub cost : change.cost ≤ most
  pub demand : change.demand ≤ most
  pub service : change.service ≤ most

-- what is added and the edge that is named are in range
pub record IsInTable (count edge add : ℕ) : Type 0 where
  pub in_range : edge < count
  pub short : add < 10 ^ 12

abbrev pub IsApplied : ℕ → Edit → Type 0
IsApplied count (Cost e n) = IsInTable count e n
IsApplied count (Service e n) = IsInTable count e n
IsApplied count (Demand e n) = IsInTable count e n
IsApplied count (Close e) = e < count

-- an edge with what is changed of it
abbrev pub changed_by : Edge → Change → RawEdge
changed_by x change = record {
  u = x.u;
  v = x.v;
  cost = x.cost + change.cost;
  demand = x.demand + change.demand;
  service = x.service + change.service;
}

abbrev pub kept : Edge → Change → List RawEdge
kept x change = if change.closed then [] else changed_by x change ∷ []

-- the n edges from number `first` + 1 on, changed, without the closed ones
abbrev pub kept_from : Problem → List Change → (first n : ℕ) → List RawEdge
kept_from p changes first zero = []
kept_from p changes first (suc n) = kept_from p changes first n ++ kept (edge_at p (first + suc n)) (slice_index_or changes (first + suc n) nothing)
