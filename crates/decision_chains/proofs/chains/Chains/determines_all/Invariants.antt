use Rattle.std.proofs.Common.{ℕ, ◌≤◌, ◌<◌}
use Rattle.decision_chains.specs.Exclusions.{IsDetermined}
use Rattle.decision_chains.proofs.chains.Chains.determines_all.Given as goal

abbrev pub invariant-loop-a : goal.invariant-loop-a
invariant-loop-a l = (a b : ℕ) → a < l.a → 1 ≤ b → b < a → IsDetermined l.self.inst.now l.self.decisions.now a b
