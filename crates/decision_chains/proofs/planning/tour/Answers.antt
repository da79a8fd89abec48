use Rattle.carp_base.specs.Problem.{IsRequired}
use Rattle.decision_chains.proofs.PlanParts.{tasks_required}
use Rattle.decision_chains.proofs.planning.tour.Goals as goal

pub join-requires-clause-required : goal.join-requires-clause-required
join-requires-clause-required c =
    let p = c.args.chains.now.inst.now in
    let tasks = c.in_ok-tasks.tasks.items in
    rw c.deref-2.ensures.value
    (tasks_required (IsRequired p) tasks (rw (c.in_ok-tasks.ensures.directs, c.deref.ensures.value) c.in_ok-edges.ensures.all_required))
