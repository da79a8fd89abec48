use Rattle.std.proofs.Common.{◌+◌, ◌≤◌, [], length}
use Rattle.task_tours.specs.Tours.{all_tasks}
use Rattle.augment_merge.specs.Absorbing.{AreTaken, FlagsSay, unflagged}
use Rattle.augment_merge.proofs.augmenting.take_all.Given as goal

abbrev pub invariant-loop-place : goal.invariant-loop-place
invariant-loop-place l = record {
  says : FlagsSay l.inst l.served (all_tasks l.tours.items);
  taken : AreTaken l.inst l.singles [] l.tours.items;
  few : length l.tours.items + unflagged l.served ≤ l.inst.required;
}

abbrev pub decreases-loop-place : goal.decreases-loop-place
decreases-loop-place l = unflagged l.served
