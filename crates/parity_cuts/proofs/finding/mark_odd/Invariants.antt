use Rattle.std.proofs.Common.{◌≡◌, ℕ, ◌+◌, ◌<◌, false, List, length, get_or}
use Rattle.carp_base.specs.Problem.{IsVertex}
use Rattle.edge_components.specs.Labels.{is_kept}
use Rattle.parity_cuts.specs.OddComponents.{is_odd_border}
use Rattle.parity_cuts.proofs.finding.mark_odd.Given as goal

abbrev pub invariant-loop-r : goal.invariant-loop-r
invariant-loop-r l = record {
  long : length l.marks ≡ l.inst.vertices + 1;
  marks : (x : List ℕ) (k : ℕ) → IsVertex l.inst k → k < l.r → get_or l.marks k false ≡ is_kept l.inst x l.labels is_odd_border k;
}
