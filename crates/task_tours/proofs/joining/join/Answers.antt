use Rattle.std.proofs.Common.{length, get_or, false, inl, ap, arith, length-append}
use Rattle.std.proofs.lemmas.List.{length_push}
use Rattle.carp_base.specs.declared.edge.Task.{Task}
use Rattle.deadhead_paths.specs.Prices.{price_of, costs_of}
use Rattle.task_tours.specs.Joining.{service_step}
use Rattle.task_tours.proofs.Going.{tasks_more, tasks_whole}
use Rattle.task_tours.proofs.Linking.{not_apart}
use Rattle.task_tours.proofs.joining.join.Goals as goal

no_task : Task
no_task = record { edge = 0; forward = false }

pub follow-requires-clause-linked : goal.follow-requires-clause-linked
follow-requires-clause-linked c =
    let p = c.args.inst.now in
    let q = price_of (costs_of p) in
    let there = c.tours_are_linked.ensures.linked p c.depot-depot.ensures.valid q c.loop-task.at c.ends-tail.result.0 c.loop-task.invariant.stand c.ends-tail.ensures.tail_stands in
    not_apart p c.args.dist.now.problem c.requires.problem q c.loop-task.at c.ends-tail.result.0 there.0 there.1

pub loop-task-preserved : goal.loop-task-preserved
unfolding no_task
loop-task-preserved c =
    let p = c.args.inst.now in
    let i = c.loop-task.task-index in
    let loop = c.loop-task.invariant in
    let t : Task = get_or c.args.tasks.now i no_task in
    let adds = c.in_ok-follow.ensures in
    record {
      stand = c.ends-tail.ensures.head_stands;
      goes = rw c.ends-tail.ensures.head (tasks_more p c.args.dist.now c.requires.problem c.requires.prices c.args.tasks.now i no_task c.loop-task.at c.ends-tail.result.0 c.loop-task.walk c.follow.new.walk c.push.new.self
          c.loop-task-test.true loop.goes c.ends-tail.ensures.tail adds c.in_ok-push.ensures.ok);
      short = omega (
        arith,
        loop.short,
        adds.least.short,
        ap (λ x. x.vertices) c.requires.problem,
        c.depot-depot.ensures.valid.few_vertices,
        ap length c.in_ok-push.ensures.ok,
        length_push c.follow.new.walk (service_step t),
        ap length adds.added,
        length-append c.loop-task.walk adds.path,
      );
    }

pub follow-requires-2-clause-linked : goal.follow-requires-2-clause-linked
follow-requires-2-clause-linked c =
    let p = c.args.inst.now in
    let q = price_of (costs_of p) in
    let there = c.tours_are_linked.ensures.linked p c.depot-depot.ensures.valid q c.loop-task.at c.depot-depot.result c.loop-task.invariant.stand (inl c.depot-depot.ensures.value) in
    not_apart p c.args.dist.now.problem c.requires.problem q c.loop-task.at c.depot-depot.result there.0 there.1

pub returns : goal.returns
returns c =
    tasks_whole c.args.inst.now c.args.dist.now c.requires.problem c.requires.prices c.args.tasks.now c.loop-task.task-index c.loop-task.at c.depot-depot.result c.loop-task.walk c.follow-2.new.walk
    c.loop-task-test.false c.loop-task.invariant.goes c.depot-depot.ensures.value c.in_ok-follow-2.ensures
