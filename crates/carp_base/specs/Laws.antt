-- What holds of all descriptions.
use Rattle.std.specs.Prelude.{◌↔◌, ℕ, List}
use Rattle.carp_base.specs.declared.edge.RawEdge.{RawEdge}
use Rattle.carp_base.specs.declared.fault.InstanceFault.{InstanceFault}
use Rattle.carp_base.specs.Problem.{IsValid, described}
use Rattle.carp_base.specs.Faults.{FaultApplies}

-- a description is valid exactly where no fault applies
abbrev pub ValidWhereNoFault : Type 0
ValidWhereNoFault =
    (vertices depot capacity : ℕ) (required others : List RawEdge) →
    IsValid (described vertices depot capacity required others) ↔ ((fault : InstanceFault) → ¬ (FaultApplies (described vertices depot capacity required others) fault))
