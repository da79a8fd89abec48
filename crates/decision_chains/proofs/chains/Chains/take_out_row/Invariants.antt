use Rattle.std.proofs.Common.{◌≡◌, ℕ, ◌≤◌, ◌<◌, true}
use Rattle.decision_chains.specs.ChainTables.{IsOut, TakesExcluded, is_barred}
use Rattle.decision_chains.proofs.chains.Chains.take_out_row.Given as goal

abbrev pub invariant-loop-b : goal.invariant-loop-b
invariant-loop-b l = record {
  takes : TakesExcluded l.self.inst.now l.self.decisions.now l.fn.allowed l.allowed;
  row : (b : ℕ) → 1 ≤ b → b < l.b → is_barred l.self l.a b ≡ true → IsOut l.allowed l.a b;
}
