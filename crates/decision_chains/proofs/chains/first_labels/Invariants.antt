use Rattle.std.proofs.Common.{◌≡◌, ℕ, ◌+◌, ◌<◌, length}
use Rattle.std.specs.Prelude.{slice_index_or}
use Rattle.decision_chains.proofs.chains.first_labels.Given as goal

abbrev pub invariant-loop-edge : goal.invariant-loop-edge
invariant-loop-edge l = record {
  long : length l.labels.items + 1 ≡ l.edge;
  each : (k d : ℕ) → k < length l.labels.items → slice_index_or l.labels.items k d ≡ k + 1;
}
