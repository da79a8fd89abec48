use Rattle.std.proofs.Common.{◌≡◌, ◌<◌, ℕ, length}
use Rattle.std.specs.Prelude.{slice_index_or}
use Rattle.plan_model.specs.Plans.{walk_at, walk_cost}
use Rattle.augment_merge.proofs.augmenting.walk_costs.Given as goal

abbrev pub invariant-loop-i : goal.invariant-loop-i
invariant-loop-i l = record {
  long : length l.costs.items ≡ l.i;
  each : (k : ℕ) → k < l.i → slice_index_or l.costs.items k 0 ≡ walk_cost l.inst (walk_at l.plan k);
}
