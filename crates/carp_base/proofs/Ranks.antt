-- From the faults of one rank to those of the next.
use Rattle.std.proofs.Common.{◌≡◌, ℕ, ◌+◌, ◌<◌, ◌≤◌, length, inl, inr, refl, arith}
use Rattle.std.proofs.lemmas.Bool.{cases_lt}
use Rattle.carp_base.specs.declared.fault.InstanceFault.{InstanceFault}
use Rattle.carp_base.specs.declared.fault.InstanceFault.TheVariants.{TooManyVertices, TooManyEdges, TooManyRequired, EndOutOfRange, Loop, CostTooLarge, CapacityOutOfRange, ZeroDemand, Overweight, DepotOutOfRange, TooManyStates, Unreachable, ServiceTooLarge}
use Rattle.carp_base.specs.Problem.{Problem}
use Rattle.carp_base.specs.Faults.{FaultApplies, fault_rank, fault_number, FaultNoLater, IsFirstFault}
use Rattle.carp_base.specs.Checks.{IsClear}

before : (f g : InstanceFault) → fault_rank f ≤ fault_rank g → (fault_rank f ≡ fault_rank g → fault_number f ≤ fault_number g) → FaultNoLater f g
before f g above same = elim (cases_lt (fault_rank f) (fault_rank g)) [
  | inl less ↦ inl less
  | inr most ↦ let e : fault_rank f ≡ fault_rank g = omega arith in inr (e, same e)
]

-- the least of its rank is the first, where no lower rank has a fault
pub first_at : (p : Problem) (f : InstanceFault) (rank : ℕ) → IsClear p rank → fault_rank f ≡ rank + 1 → FaultApplies p f →
    ((g : InstanceFault) → fault_rank g ≡ rank + 1 → FaultApplies p g → fault_number f ≤ fault_number g) → IsFirstFault p f
first_at p f rank clear here applies least = record {
  applies = applies;
  first = λ g other.
      before f g (omega (arith, clear.above g other)) (λ same. least g (omega arith) other);
}

-- one more rank has no fault
pub clear_more : (p : Problem) (rank : ℕ) → IsClear p rank → ((g : InstanceFault) → fault_rank g ≡ rank + 1 → FaultApplies p g → ⊥) → IsClear p (rank + 1)
clear_more p rank clear none = record {
  above = λ g applies. elim (cases_lt (rank + 1) (fault_rank g)) [
    | inl less ↦ less
    | inr most ↦ absurd (none g (omega (arith, clear.above g applies)) applies)
  ];
}

-- the only faults of a rank
pub only_ends : (g : InstanceFault) → fault_rank g ≡ 3 + 1 → (e : ℕ) × (g ≡ EndOutOfRange e)
only_ends (EndOutOfRange e) is = (e, refl)
only_ends _ is = absurd (omega arith)

pub only_loops : (g : InstanceFault) → fault_rank g ≡ 4 + 1 → (e : ℕ) × (g ≡ Loop e)
only_loops (Loop e) is = (e, refl)
only_loops _ is = absurd (omega arith)

pub only_costs : (g : InstanceFault) → fault_rank g ≡ 5 + 1 → (e : ℕ) × (g ≡ CostTooLarge e)
only_costs (CostTooLarge e) is = (e, refl)
only_costs _ is = absurd (omega arith)

pub only_capacity : (g : InstanceFault) → fault_rank g ≡ 6 + 1 → (n : ℕ) × (g ≡ CapacityOutOfRange n)
only_capacity (CapacityOutOfRange n) is = (n, refl)
only_capacity _ is = absurd (omega arith)

pub only_demands : (g : InstanceFault) → fault_rank g ≡ 7 + 1 → (e : ℕ) × (g ≡ ZeroDemand e)
only_demands (ZeroDemand e) is = (e, refl)
only_demands _ is = absurd (omega arith)

pub only_weights : (g : InstanceFault) → fault_rank g ≡ 8 + 1 → (e : ℕ) × (g ≡ Overweight e)
only_weights (Overweight e) is = (e, refl)
only_weights _ is = absurd (omega arith)

pub only_depot : (g : InstanceFault) → fault_rank g ≡ 9 + 1 → (n : ℕ) × (g ≡ DepotOutOfRange n)
only_depot (DepotOutOfRange n) is = (n, refl)
only_depot _ is = absurd (omega arith)

pub only_states : (g : InstanceFault) → fault_rank g ≡ 10 + 1 → (n : ℕ) × (g ≡ TooManyStates n)
only_states (TooManyStates n) is = (n, refl)
only_states _ is = absurd (omega arith)

pub only_reach : (g : InstanceFault) → fault_rank g ≡ 11 + 1 → (e : ℕ) × (g ≡ Unreachable e)
only_reach (Unreachable e) is = (e, refl)
only_reach _ is = absurd (omega arith)

pub only_services : (g : InstanceFault) → fault_rank g ≡ 12 + 1 → (e : ℕ) × (g ≡ ServiceTooLarge e)
only_services (ServiceTooLarge e) is = (e, refl)
only_services _ is = absurd (omega arith)

-- no fault of the first three ranks
pub clear_counts : (p : Problem) → p.vertices ≤ 1000 → length p.edges ≤ 4000 → p.required ≤ 600 → (g : InstanceFault) → FaultApplies p g → 3 < fault_rank g
clear_counts p a b c (TooManyVertices n) is = absurd (omega arith)
clear_counts p a b c (TooManyEdges n) is = absurd (omega arith)
clear_counts p a b c (TooManyRequired n) is = absurd (omega arith)
clear_counts p a b c _ is = omega arith

-- fewer ranks are clear too
pub clear_below : (p : Problem) (high low : ℕ) → low ≤ high → IsClear p high → IsClear p low
clear_below p high low under clear = record { above = λ f applies. omega (arith, under, clear.above f applies) }
