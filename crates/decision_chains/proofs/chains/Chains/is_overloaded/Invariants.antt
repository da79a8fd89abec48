use Rattle.std.proofs.Common.{ℕ, ◌<◌}
use Rattle.decision_chains.specs.ChainTables.{IsOverloaded}
use Rattle.decision_chains.proofs.chains.Chains.is_overloaded.Given as goal

abbrev pub invariant-loop-edge : goal.invariant-loop-edge
invariant-loop-edge l = (e : ℕ) → e < l.edge → ¬ (IsOverloaded l.self e)
