use Rattle.std.proofs.Common.{◌≡◌, ℕ, ◌<◌, false, length, get_or}
use Rattle.carp_base.specs.Problem.{IsVertex}
use Rattle.edge_components.specs.Labels.{is_kept}
use Rattle.capacity_cuts.specs.Components.{is_needy_border}
use Rattle.capacity_cuts.proofs.components.needy_labels.Given as goal

abbrev pub invariant-loop-r : goal.invariant-loop-r
invariant-loop-r l = record {
  long : length l.marks.items ≡ l.r;
  marks : (k : ℕ) → IsVertex l.inst k → k < l.r → get_or l.marks.items k false ≡ is_kept l.inst l.x l.labels (is_needy_border l.inst l.unit) k;
}
