use Rattle.std.proofs.Common.{◌≡◌, ◌*◌, ◌≤◌}
use Rattle.carp_base.specs.Problem.{edge_at}
use Rattle.plan_model.specs.Sums.{sum_to}
use Rattle.edge_components.specs.Parts.{parts_of}
use Rattle.matching_duals.proofs.joining.cost_of.Given as goal

abbrev pub invariant-loop-i : goal.invariant-loop-i
invariant-loop-i l = record {
  value : l.cost ≡ sum_to l.i (λ e. parts_of l.counts e * (edge_at l.inst e).cost);
  small : l.cost ≤ 1000000 * l.i;
}
