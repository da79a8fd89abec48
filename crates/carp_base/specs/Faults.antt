-- The faults of an instance, and which of them is answered.
use Rattle.std.specs.Prelude.{◌≡◌, ℕ, ◌+◌, ◌*◌, ◌<◌, ◌≤◌, ◌⊎◌, length}
use Rattle.carp_base.specs.declared.fault.InstanceFault.{InstanceFault}
use Rattle.carp_base.specs.declared.fault.InstanceFault.TheVariants.{TooManyVertices, TooManyEdges, TooManyRequired, EndOutOfRange, Loop, CostTooLarge}
use Rattle.carp_base.specs.declared.fault.InstanceFault.TheVariants.{CapacityOutOfRange, ZeroDemand, Overweight, DepotOutOfRange, TooManyStates, Unreachable, ServiceTooLarge}
use Rattle.carp_base.specs.Problem.{Problem, IsEdgeNumber, IsRequired, IsVertex, IsReached, edge_at}

-- the fault is there; one that speaks of an edge carries the edge's number, another the number that is out of range
abbrev pub FaultApplies : Problem → InstanceFault → Type 0
FaultApplies p (TooManyVertices n) = (n ≡ p.vertices) × (1000 < n)
FaultApplies p (TooManyEdges n) = (n ≡ length p.edges) × (4000 < n)
FaultApplies p (TooManyRequired n) = (n ≡ p.required) × (600 < n)
FaultApplies p (EndOutOfRange e) = IsEdgeNumber p e × (¬ (IsVertex p (edge_at p e).u) ⊎ ¬ (IsVertex p (edge_at p e).v))
FaultApplies p (Loop e) = IsEdgeNumber p e × ((edge_at p e).u ≡ (edge_at p e).v)
FaultApplies p (CostTooLarge e) = IsEdgeNumber p e × (1000000 < (edge_at p e).cost)
FaultApplies p (CapacityOutOfRange n) = (n ≡ p.capacity) × ((n ≡ 0) ⊎ (30000 < n))
FaultApplies p (ZeroDemand e) = IsRequired p e × ((edge_at p e).demand ≡ 0)
FaultApplies p (Overweight e) = IsRequired p e × (p.capacity < (edge_at p e).demand)
FaultApplies p (DepotOutOfRange n) = (n ≡ p.depot) × ¬ (IsVertex p n)
FaultApplies p (TooManyStates n) = (n ≡ 2 * p.required * (p.capacity + 1)) × (24000000 < n)
FaultApplies p (Unreachable e) = IsRequired p e × ¬ (IsReached p (edge_at p e).u)
FaultApplies p (ServiceTooLarge e) = IsRequired p e × (1000000 < (edge_at p e).service)

-- the place of a fault in the order in which faults are answered
abbrev pub fault_rank : InstanceFault → ℕ
fault_rank (TooManyVertices n) = 1
fault_rank (TooManyEdges n) = 2
fault_rank (TooManyRequired n) = 3
fault_rank (EndOutOfRange e) = 4
fault_rank (Loop e) = 5
fault_rank (CostTooLarge e) = 6
fault_rank (CapacityOutOfRange n) = 7
fault_rank (ZeroDemand e) = 8
fault_rank (Overweight e) = 9
fault_rank (DepotOutOfRange n) = 10
fault_rank (TooManyStates n) = 11
fault_rank (Unreachable e) = 12
fault_rank (ServiceTooLarge e) = 13

-- what a fault names: an edge, or the number that is out of range
abbrev pub fault_number : InstanceFault → ℕ
fault_number (TooManyVertices n) = n
fault_number (TooManyEdges n) = n
fault_number (TooManyRequired n) = n
fault_number (EndOutOfRange e) = e
fault_number (Loop e) = e
fault_number (CostTooLarge e) = e
fault_number (CapacityOutOfRange n) = n
fault_number (ZeroDemand e) = e
fault_number (Overweight e) = e
fault_number (DepotOutOfRange n) = n
fault_number (TooManyStates n) = n
fault_number (Unreachable e) = e
fault_number (ServiceTooLarge e) = e

-- one fault is answered before another: by rank, and within a rank by the number that it names
abbrev pub FaultNoLater : InstanceFault → InstanceFault → Type 0
FaultNoLater f g = (fault_rank f < fault_rank g) ⊎ ((fault_rank f ≡ fault_rank g) × (fault_number f ≤ fault_number g))

-- the fault that is answered: it applies, and stands before each other that applies
pub record IsFirstFault (p : Problem) (f : InstanceFault) : Type 0 where
  pub applies : FaultApplies p f
  pub first : (g : InstanceFault) → FaultApplies p g → FaultNoLater f g
