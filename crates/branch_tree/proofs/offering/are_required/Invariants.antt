use Rattle.std.proofs.Common.{take}
use Rattle.std.specs.List.{All}
use Rattle.carp_base.specs.Problem.{IsRequired}
use Rattle.branch_tree.proofs.offering.are_required.Given as goal

abbrev pub invariant-loop-task : goal.invariant-loop-task
invariant-loop-task l = All (λ t. IsRequired l.inst t.edge) (take l.task-index l.tasks)
