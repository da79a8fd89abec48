use Rattle.std.proofs.Common.{◌≡◌, ℕ, ◌≤◌, ◌<◌, true}
use Rattle.decision_chains.specs.ChainTables.{IsOut, TakesExcluded, is_barred}
use Rattle.decision_chains.proofs.chains.Chains.take_out_barred.Given as goal

abbrev pub invariant-loop-a : goal.invariant-loop-a
invariant-loop-a l = record {
  takes : TakesExcluded l.self.inst.now l.self.decisions.now l.fn.allowed l.allowed;
  out : (a b : ℕ) → a < l.a → 1 ≤ b → b < a → is_barred l.self a b ≡ true → IsOut l.allowed a b;
}
