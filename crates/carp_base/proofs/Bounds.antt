-- What holds where no fault of the lower ranks applies.
use Rattle.std.proofs.Common.{ℕ, ◌<◌, ◌≤◌, length, inl, inr, refl, arith}
use Rattle.std.proofs.lemmas.Bool.{cases_lt}
use Rattle.carp_base.specs.declared.fault.InstanceFault.{InstanceFault}
use Rattle.carp_base.specs.declared.fault.InstanceFault.TheVariants.{TooManyVertices, TooManyEdges, TooManyRequired, CapacityOutOfRange, DepotOutOfRange}
use Rattle.carp_base.specs.Problem.{Problem}
use Rattle.carp_base.specs.Faults.{FaultApplies, fault_rank}
use Rattle.carp_base.specs.Checks.{IsClear}

-- a number is within its limit, where being above it is a fault of a clear rank
pub within : (n limit rank : ℕ) (p : Problem) (fault : InstanceFault) → IsClear p rank → fault_rank fault ≤ rank → (limit < n → FaultApplies p fault) → n ≤ limit
within n limit rank p fault clear low fails =
    elim (cases_lt limit n) [
      | inl above ↦ absurd (omega (arith, clear.above fault (fails above), low))
      | inr fine ↦ fine
    ]

pub few_vertices : (p : Problem) (rank : ℕ) → IsClear p rank → 1 ≤ rank → p.vertices ≤ 1000
few_vertices p rank clear low = within p.vertices 1000 rank p (TooManyVertices p.vertices) clear low (λ above. (refl, above))

pub few_edges : (p : Problem) (rank : ℕ) → IsClear p rank → 2 ≤ rank → length p.edges ≤ 4000
few_edges p rank clear low = within (length p.edges) 4000 rank p (TooManyEdges (length p.edges)) clear low (λ above. (refl, above))

pub few_required : (p : Problem) (rank : ℕ) → IsClear p rank → 3 ≤ rank → p.required ≤ 600
few_required p rank clear low = within p.required 600 rank p (TooManyRequired p.required) clear low (λ above. (refl, above))

pub capacity_in : (p : Problem) (rank : ℕ) → IsClear p rank → 7 ≤ rank → p.capacity ≤ 30000
capacity_in p rank clear low = within p.capacity 30000 rank p (CapacityOutOfRange p.capacity) clear low (λ above. (refl, inr above))

pub depot_within : (p : Problem) (rank : ℕ) → IsClear p rank → 10 ≤ rank → p.depot ≤ p.vertices
depot_within p rank clear low = within p.depot p.vertices rank p (DepotOutOfRange p.depot) clear low (λ above. (refl, λ vertex. omega (arith, vertex.in_range, above)))
