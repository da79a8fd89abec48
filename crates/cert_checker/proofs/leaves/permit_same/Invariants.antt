use Rattle.std.proofs.Common.{◌≡◌, ℕ, ◌≤◌, ◌<◌}
use Rattle.carp_base.specs.Allowed.{allows}
use Rattle.cert_checker.proofs.leaves.permit_same.Given as goal

abbrev pub invariant-loop-edge : goal.invariant-loop-edge
invariant-loop-edge l = (a : ℕ) → 1 ≤ a → a < l.edge → (b : ℕ) → 1 ≤ b → b ≤ l.required → allows l.one a b ≡ allows l.other a b
