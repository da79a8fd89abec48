-- An instance has at most one first fault, and none where it is valid.
use Rattle.std.proofs.Common.{◌≡◌, ℕ, ◌==◌, refl, sym, ap, ◌∙◌, inl, inr, arith}
use Rattle.std.specs.Prelude.{if◌then◌else◌}
use Rattle.carp_base.specs.Problem.{Problem}
use Rattle.carp_base.specs.Faults.{FaultNoLater, IsFirstFault, fault_number, fault_rank}
use Rattle.carp_base.specs.declared.fault.InstanceFault.{InstanceFault}
use Rattle.carp_base.specs.declared.fault.InstanceFault.TheVariants.{TooManyVertices, TooManyEdges, TooManyRequired, EndOutOfRange, Loop, CostTooLarge, CapacityOutOfRange, ZeroDemand, Overweight, DepotOutOfRange, TooManyStates, Unreachable, ServiceTooLarge}

-- the fault of this rank and number
fault_of : ℕ → ℕ → InstanceFault
fault_of k n =
    if k == 1 then TooManyVertices n
    else if k == 2 then TooManyEdges n
    else if k == 3 then TooManyRequired n
    else if k == 4 then EndOutOfRange n
    else if k == 5 then Loop n
    else if k == 6 then CostTooLarge n
    else if k == 7 then CapacityOutOfRange n
    else if k == 8 then ZeroDemand n
    else if k == 9 then Overweight n
    else if k == 10 then DepotOutOfRange n
    else if k == 11 then TooManyStates n
    else if k == 12 then Unreachable n
    else ServiceTooLarge n

told_by : (f : InstanceFault) → fault_of (fault_rank f) (fault_number f) ≡ f
unfolding fault_of
told_by (TooManyVertices n) = refl
told_by (TooManyEdges n) = refl
told_by (TooManyRequired n) = refl
told_by (EndOutOfRange e) = refl
told_by (Loop e) = refl
told_by (CostTooLarge e) = refl
told_by (CapacityOutOfRange n) = refl
told_by (ZeroDemand e) = refl
told_by (Overweight e) = refl
told_by (DepotOutOfRange n) = refl
told_by (TooManyStates n) = refl
told_by (Unreachable e) = refl
told_by (ServiceTooLarge e) = refl

-- two faults of which none comes later have one rank and one number
same_rank : (f g : InstanceFault) → FaultNoLater f g → FaultNoLater g f → fault_rank f ≡ fault_rank g
same_rank f g (inl less) (inl more) = absurd (omega (arith, less, more))
same_rank f g (inl less) (inr same) = absurd (omega (arith, less, same.0))
same_rank f g (inr same) other = same.0

same_number : (f g : InstanceFault) → FaultNoLater f g → FaultNoLater g f → fault_number f ≡ fault_number g
same_number f g (inl less) (inl more) = absurd (omega (arith, less, more))
same_number f g (inl less) (inr same) = absurd (omega (arith, less, same.0))
same_number f g (inr same) (inl more) = absurd (omega (arith, more, same.0))
same_number f g (inr same) (inr other) = omega (arith, same.1, other.1)

pub one_first : (p : Problem) (f g : InstanceFault) → IsFirstFault p f → IsFirstFault p g → f ≡ g
one_first p f g first other =
    let before = first.first g other.applies in
    let after = other.first f first.applies in
    sym (told_by f) ∙ ap (λ (k : ℕ). fault_of k (fault_number f)) (same_rank f g before after) ∙ ap (fault_of (fault_rank g)) (same_number f g before after) ∙ told_by g
