-- What the checks of a description say to one another. No public contract speaks of this.
use Rattle.std.specs.Prelude.{ℕ, ◌<◌, Bool, ◌||◌, ◌==◌, nat_lt}
use Rattle.carp_base.specs.declared.edge.Edge.{Edge}
use Rattle.carp_base.specs.declared.edge.RawEdge.{RawEdge}
use Rattle.carp_base.specs.declared.fault.InstanceFault.{InstanceFault}
use Rattle.carp_base.specs.Problem.{Problem}
use Rattle.carp_base.specs.Faults.{FaultApplies, fault_rank}

-- no fault of this rank or a lower one applies
pub record IsClear (p : Problem) (rank : ℕ) : Type 0 where
  pub above : (f : InstanceFault) → FaultApplies p f → rank < fault_rank f

-- the number is that of no vertex
abbrev pub is_outside : ℕ → ℕ → Bool
is_outside vertices v = (v == 0) || nat_lt vertices v

-- an end of the edge is no vertex
abbrev pub has_end_outside : ℕ → RawEdge → Bool
has_end_outside vertices x = is_outside vertices x.u || is_outside vertices x.v

-- both ends are one vertex
abbrev pub is_loop : Edge → Bool
is_loop x = x.u == x.v

-- the cost is above its limit
abbrev pub costs_too_much : Edge → Bool
costs_too_much x = nat_lt 1000000 x.cost

-- there is nothing to serve
abbrev pub has_no_demand : Edge → Bool
has_no_demand x = x.demand == 0

-- no vehicle carries the demand
abbrev pub is_overweight : ℕ → Edge → Bool
is_overweight capacity x = nat_lt capacity x.demand

-- the service cost is above its limit
abbrev pub has_dear_service : Edge → Bool
has_dear_service x = nat_lt 1000000 x.service
