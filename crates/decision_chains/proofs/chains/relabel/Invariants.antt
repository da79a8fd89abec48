use Rattle.std.proofs.Common.{◌≡◌, ℕ, ◌<◌, ◌≤◌}
use Rattle.std.specs.Prelude.{slice_index_or}
use Rattle.decision_chains.specs.ChainTables.{merged}
use Rattle.decision_chains.proofs.chains.relabel.Given as goal

abbrev pub invariant-loop-i : goal.invariant-loop-i
invariant-loop-i l = record {
  done : (k d : ℕ) → k < l.i → slice_index_or l.labels k d ≡ merged l.to l.from (slice_index_or l.fn.labels k d);
  rest : (k d : ℕ) → l.i ≤ k → slice_index_or l.labels k d ≡ slice_index_or l.fn.labels k d;
}
