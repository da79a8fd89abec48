use Rattle.std.proofs.Common.{inl, inr, refl, arith}
use Rattle.carp_base.specs.declared.fault.InstanceFault.TheVariants.{CapacityOutOfRange}
use Rattle.carp_base.proofs.examples.a_first_fault.Goals as goal

pub returns-clause-second : goal.returns-clause-second
returns-clause-second c = λ is_first.
    elim (is_first.first (CapacityOutOfRange 0) (refl, inl refl)) [
      | inl lower ↦ omega (arith, lower)
      | inr same ↦ omega (arith, same.0)
    ]
