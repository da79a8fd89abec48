-- The value of the first set has a place in 128 bits.
use Rattle.std.proofs.Common.{◌≡◌, ℕ, ◌*◌, ◌≤◌, List, arith, to_z, of_z, SFits, ℤ, pos, negsuc, ◌≤ℤ◌, ◌<ℤ◌}
use mir.Syntax.{w128}
use Rattle.std.specs.Prelude.{IsSome}
use Rattle.std.proofs.Math.Nat.{mul-le-mul}
use Rattle.std.proofs.lemmas.Int.{ints, to_z-of_z}
use Rattle.std.proofs.lemmas.List.Elements.{All-from_recursion}
use Rattle.carp_base.specs.Problem.{Problem}
use Rattle.decision_chains.specs.declared.decision.Decision.{Decision}
use Rattle.branch_rules.specs.Decisions.{lowest}
use Rattle.branch_rules.specs.Laws.{FitsBranch}
use Rattle.branch_rules.specs.Prices.{Prices, no_weight}
use Rattle.branch_rules.specs.Refusals.{IsWithoutUpper}
use Rattle.branch_rules.specs.declared.branch.NoUpper.{NoUpper}
use Rattle.branch_rules.specs.declared.weight.Weight.{Weight}

fits_bits : (most : ℕ) (z : ℤ) → most ≤ 2000000000000000000 → pos 0 ≤ℤ z → z ≤ℤ pos most → SFits w128 z
fits_bits most (pos n) few low high = omega (arith, ints, few, high)
fits_bits most (negsuc n) few low high = absurd (omega (arith, ints, low))

-- what a lawful plan covers
pub same_bits : (unit cost : ℕ) (z : ℤ) → unit ≤ 1000000 → cost ≤ 2000000000000 → pos 0 ≤ℤ z → z ≤ℤ pos (unit * cost) → to_z w128 (of_z w128 z) ≡ z
same_bits unit cost z few little low high =
    let most : unit * cost ≤ 1000000 * 2000000000000 = mul-le-mul few little in
    to_z-of_z w128 z (fits_bits (unit * cost) z (omega (arith, most)) low high)

-- a set that fits under a branch has an upper number for each negative weight
pub not_refused : (p : Problem) (pool : List (List ℕ)) (branch : List Decision) (set : Prices) (refusal : NoUpper) → FitsBranch p pool branch set → IsWithoutUpper branch set refusal → ⊥
not_refused p pool branch set refusal fits is =
    is.lacks (All-from_recursion (λ (w : Weight). w.weight <ℤ pos 0 → IsSome (lowest w.shore branch)) set.weights fits.fits.has_upper is.place no_weight is.in_range)
