use Rattle.std.proofs.Common.{◌≡◌, ℕ, ◌≤◌, ◌<◌}
use Rattle.carp_base.specs.Allowed.{allows}
use Rattle.cert_checker.proofs.leaves.permit_same_at.Given as goal

abbrev pub invariant-loop-second : goal.invariant-loop-second
invariant-loop-second l = (b : ℕ) → 1 ≤ b → b < l.second → allows l.one l.edge b ≡ allows l.other l.edge b
