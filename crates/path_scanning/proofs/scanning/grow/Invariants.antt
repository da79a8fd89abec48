use Rattle.std.proofs.Common.{◌≡◌, ◌+◌, ◌≤◌, length}
use Rattle.std.specs.List.{AllByRecursion}
use Rattle.carp_base.specs.Problem.{IsRequired}
use Rattle.task_tours.specs.Tours.{IsStand}
use Rattle.path_scanning.specs.Choosing.{TasksTaken, open_count}
use Rattle.path_scanning.specs.Scans.{tour_start}
use Rattle.path_scanning.proofs.scanning.grow.Given as goal

abbrev pub invariant-loop-next : goal.invariant-loop-next
invariant-loop-next l = record {
  long : length l.served ≡ l.inst.required;
  stand : IsStand l.inst l.at;
  within : l.load ≤ l.inst.capacity;
  few : length l.tasks.items ≤ l.load;
  required : AllByRecursion (λ t. IsRequired l.inst t.edge) l.tasks.items;
  taken : TasksTaken l.inst l.rule (tour_start l.inst l.fn.served) l.tasks.items (record { served = l.served; at = l.at; load = l.load });
  fewer : length l.tasks.items + open_count l.served ≡ open_count l.fn.served;
}

abbrev pub decreases-loop-next : goal.decreases-loop-next
decreases-loop-next l = open_count l.served
