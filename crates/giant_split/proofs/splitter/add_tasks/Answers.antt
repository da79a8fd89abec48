use Rattle.std.proofs.Common.{◌<◌, length, arith, ap, ◌∙◌}
use Rattle.giant_split.proofs.Reading.{read_idle, read_served}
use Rattle.giant_split.proofs.splitter.add_tasks.Goals as goal
use Rattle.giant_split.proofs.splitter.add_tasks.Goals.{then-step+in_ok-push, else-step}

pub loop-i-preserved : goal.loop-i-preserved
loop-i-preserved c =
    let walk = c.args.walk.now in
    let before = c.args.order.now.items in
    let i = c.loop-i.i in
    let here = c.step-step.ensures in
    let below : i < length walk = omega (arith, c.loop-i-test.true, c.len-i-end.ensures.value) in
    elim c.if-step.branch [
      | then-step+in_ok-push w ↦ read_served before c.loop-i.order.items walk i below c.loop-i.invariant c.step-step.result c.if-step.order.items here w.if-step.true (ap (λ v. v.items) w.order-is ∙ w.in_ok-push.ensures.items)
      | else-step w ↦ ap (λ v. v.items) w.order-is ∙ read_idle before c.loop-i.order.items walk i below c.loop-i.invariant c.step-step.result here w.if-step.false
    ]
