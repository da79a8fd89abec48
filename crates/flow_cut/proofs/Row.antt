-- What flows through the row of the examples.
use Rattle.std.proofs.Common.{◌≡◌, ◌≢◌, ℕ, zero, suc, ◌≤◌, [], ◌∷◌, refl, arith}
use Rattle.std.specs.Prelude.{slice_index}
use Rattle.std.proofs.lemmas.Bool.{ne_eqb}
use Rattle.flow_cut.specs.Flows.{IsFlow, arc_at, inflow, outflow}
use Rattle.flow_cut.specs.Examples.{row}

within : (i : ℕ) → slice_index (2 ∷ 2 ∷ []) i ≤ (arc_at row i).room
within zero = omega arith
within (suc zero) = omega arith
within (suc (suc i)) = omega arith

balanced : (v : ℕ) → v ≢ 1 → v ≢ 3 → inflow row (2 ∷ 2 ∷ []) v ≡ outflow row (2 ∷ 2 ∷ []) v
balanced zero a b = refl
balanced (suc zero) a b = absurd (a refl)
balanced (suc (suc zero)) a b = refl
balanced (suc (suc (suc zero))) a b = absurd (b refl)
balanced (suc (suc (suc (suc v)))) a b = rw (ne_eqb 1 (suc (suc (suc (suc v)))) (λ e. omega arith), ne_eqb 2 (suc (suc (suc (suc v)))) (λ e. omega arith), ne_eqb 3 (suc (suc (suc (suc v)))) (λ e. omega arith)) refl

pub row_flow : IsFlow row 1 3 2 (2 ∷ 2 ∷ [])
row_flow = record {
  rooms = record { one_each = refl; within = within };
  balanced = balanced;
  value_is = refl;
}
