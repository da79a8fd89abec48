use Rattle.std.proofs.Common.{◌≡◌, ℕ, ◌+◌, ◌%◌, ◌≤◌, ◌==◌, take, length, get_or}
use Rattle.std.specs.List.{count_by}
use Rattle.carp_base.specs.Problem.{IsEdgeNumber}
use Rattle.edge_components.specs.Parts.{parts_of}
use Rattle.matching_duals.proofs.joining.toggle.Given as goal

abbrev pub invariant-loop-i : goal.invariant-loop-i
invariant-loop-i l = record {
  long : length l.counts ≡ length l.inst.edges;
  parities : (e : ℕ) → IsEdgeNumber l.inst e → parts_of l.counts e ≡ (parts_of l.fn.counts e + count_by (λ s. s.edge == e) (take l.i l.walk)) % 2;
  bits : (k : ℕ) → get_or l.counts k 0 ≤ 1;
}
