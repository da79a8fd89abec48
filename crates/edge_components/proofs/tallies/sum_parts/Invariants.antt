use Rattle.std.proofs.Common.{◌≡◌, ℕ, ◌+◌, ◌*◌, ◌≤◌, length, get_or}
use Rattle.std.specs.Prelude.{if◌then◌else◌}
use Rattle.carp_base.specs.Problem.{IsValid, edge_at}
use Rattle.plan_model.specs.Plans.{crosses}
use Rattle.plan_model.specs.Sums.{sum_to}
use Rattle.edge_components.specs.Parts.{parts_of}
use Rattle.edge_components.specs.Labels.{has_label}
use Rattle.edge_components.proofs.tallies.sum_parts.Given as goal

abbrev pub invariant-loop-i : goal.invariant-loop-i
invariant-loop-i l = record {
  valid : IsValid l.inst;
  long : length l.tallies ≡ l.inst.vertices + 1;
  sums : (r : ℕ) → get_or l.tallies r 0 ≡ sum_to l.i (λ e. if crosses (has_label l.labels r) (edge_at l.inst e) then parts_of l.x e else 0);
  small : (r : ℕ) → get_or l.tallies r 0 ≤ l.i * 1000000000000;
}
