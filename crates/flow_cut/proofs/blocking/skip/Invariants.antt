use Rattle.std.proofs.Common.{ℕ, ◌≤◌, ◌<◌}
use Rattle.flow_cut.specs.Adjacency.{residual_at}
use Rattle.flow_cut.specs.Layers.{LeadsOn}
use Rattle.flow_cut.proofs.blocking.skip.Given as goal

abbrev pub invariant-loop-end : goal.invariant-loop-end
invariant-loop-end l = record {
  below : l.end ≤ l.fn.end;
  skipped : (j : ℕ) → l.end ≤ j → j < l.fn.end → LeadsOn l.arcs l.flows l.layers.level.items (residual_at l.adjacency.list.items j) → ⊥;
}

abbrev pub decreases-loop-end : goal.decreases-loop-end
decreases-loop-end l = l.end
