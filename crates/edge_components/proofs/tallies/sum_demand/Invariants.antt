use Rattle.std.proofs.Common.{◌≡◌, ℕ, ◌+◌, ◌-◌, ◌*◌, ◌≤◌, length, take, get_or}
use Rattle.std.specs.List.{sum_by}
use Rattle.carp_base.specs.Problem.{IsValid}
use Rattle.cut_pool.specs.Shores.{demand_inside}
use Rattle.edge_components.specs.Labels.{has_label}
use Rattle.edge_components.proofs.tallies.sum_demand.Given as goal

abbrev pub invariant-loop-e : goal.invariant-loop-e
invariant-loop-e l = record {
  valid : IsValid l.inst;
  long : length l.tallies ≡ l.inst.vertices + 1;
  sums : (r : ℕ) → get_or l.tallies r 0 ≡ sum_by (demand_inside (has_label l.labels r)) (take (l.e - 1) l.inst.edges);
  small : (r : ℕ) → get_or l.tallies r 0 ≤ (l.e - 1) * 30000;
}
