use Rattle.std.proofs.Common.{◌≡◌, ℕ, ◌+◌, ◌-◌, ◌≤◌, length, take, get_or}
use Rattle.std.specs.List.{count_by}
use Rattle.carp_base.specs.Problem.{IsValid}
use Rattle.plan_model.specs.Plans.{crosses}
use Rattle.edge_components.specs.Labels.{has_label}
use Rattle.edge_components.proofs.tallies.count_crossings.Given as goal

abbrev pub invariant-loop-e : goal.invariant-loop-e
invariant-loop-e l = record {
  valid : IsValid l.inst;
  long : length l.tallies ≡ l.inst.vertices + 1;
  counts : (r : ℕ) → get_or l.tallies r 0 ≡ count_by (crosses (has_label l.labels r)) (take (l.e - 1) l.inst.edges);
  few : (r : ℕ) → get_or l.tallies r 0 ≤ l.e - 1;
}
