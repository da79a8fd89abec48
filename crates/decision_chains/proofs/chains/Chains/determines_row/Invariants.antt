use Rattle.std.proofs.Common.{ℕ, ◌≤◌, ◌<◌}
use Rattle.decision_chains.specs.Exclusions.{IsDetermined}
use Rattle.decision_chains.proofs.chains.Chains.determines_row.Given as goal

abbrev pub invariant-loop-b : goal.invariant-loop-b
invariant-loop-b l = (b : ℕ) → 1 ≤ b → b < l.b → IsDetermined l.self.inst.now l.self.decisions.now l.a b
