use Rattle.std.proofs.Common.{◌≡◌, ℕ, ◌+◌, ◌-◌, ◌*◌, ◌≤◌, ◌<◌, ◌==◌, length}
use Rattle.std.specs.Prelude.{slice_index_or, if◌then◌else◌}
use Rattle.carp_base.specs.Problem.{edge_at}
use Rattle.plan_model.specs.Sums.{sum_to}
use Rattle.decision_chains.specs.ChainTables.{label_at}
use Rattle.decision_chains.proofs.chains.add_up.Given as goal

abbrev pub invariant-loop-edge : goal.invariant-loop-edge
invariant-loop-edge l = record {
  so_far : (k : ℕ) → k < length l.loads → slice_index_or l.loads k 0 ≡ sum_to (l.edge - 1) (λ e. if label_at l.labels e == k + 1 then (edge_at l.inst e).demand else 0);
  small : (k : ℕ) → k < length l.loads → slice_index_or l.loads k 0 ≤ 30000 * (l.edge - 1);
}
