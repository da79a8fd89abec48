use Rattle.std.proofs.Common.{◌≡◌, ◌*◌, ◌≤◌}
use Rattle.std.specs.Prelude.{if◌then◌else◌}
use Rattle.carp_base.specs.Problem.{edge_at}
use Rattle.plan_model.specs.Plans.{crosses}
use Rattle.plan_model.specs.Sums.{sum_to}
use Rattle.cut_pool.specs.Shores.{is_in}
use Rattle.edge_components.specs.Parts.{parts_of}
use Rattle.shore_search.proofs.judging.parts_over.Given as goal

abbrev pub invariant-loop-i : goal.invariant-loop-i
invariant-loop-i l = record {
  sum : l.sum ≡ sum_to l.i (λ e. if crosses (is_in l.shore) (edge_at l.inst e) then parts_of l.x e else 0);
  small : l.sum ≤ l.i * 1000000000000;
}
