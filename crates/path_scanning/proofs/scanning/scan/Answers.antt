use Rattle.std.proofs.Common.{◌≡◌, ◌≤◌, ◌++◌, length, drop, take, false, sym, ◌∙◌, subst, arith}
use Rattle.std.specs.Prelude.{replicate}
use Rattle.std.specs.Vec.{vec_len}
use Rattle.std.proofs.lemmas.List.{length_push, length-replicate}
use Rattle.task_tours.specs.Tours.{JoinsTasks}
use Rattle.path_scanning.specs.Choosing.{IsGrown}
use Rattle.path_scanning.proofs.Plans.{scanned_tours, scanned_paths, grown_tour, grown_long, grown_none, tours_more, tours_whole, none_served, some_long, none_long, whole}
use Rattle.path_scanning.proofs.scanning.scan.Goals as goal

pub loop-plan-preserved : goal.loop-plan-preserved
loop-plan-preserved c =
    let p = c.args.inst.now in
    let rule = c.args.rule in
    let before = c.loop-plan.served.items in
    let after = c.grow.new.served in
    let tasks = c.in_ok-tasks.tasks in
    let walk = c.in_ok-join.field-0 in
    let loop = c.loop-plan.invariant in
    let grown : IsGrown p rule before tasks.items after = subst (λ xs. IsGrown p rule xs tasks.items after) c.deref_mut.ensures.value c.in_ok-tasks.ensures in
    let goes = subst (λ ts. JoinsTasks p ts walk) c.deref.ensures.value c.in_ok-join.ensures in
    let some : 1 ≤ vec_len tasks = some_long (vec_len tasks) (sym c.is_empty.ensures ∙ c.if-is_empty.false) in
    let some_items : 1 ≤ length tasks.items = omega (arith, some, tasks.ok.0) in
    let tour = grown_tour p rule before after tasks.items walk grown some_items goes in
    let long : length after ≡ c.loop-plan.served.len = omega (arith, grown_long p rule before after tasks.items grown, c.loop-plan.served.ok.0) in
    let now : take c.loop-plan.served.len (after ++ drop (length after) before) ≡ after = whole c.loop-plan.served.len after (drop (length after) before) long in
    let plan_is = c.in_ok-push.ensures.ok in
    rw (now, plan_is) record {
      long = grown_long p rule before after tasks.items grown ∙ loop.long;
      scanned = rw tour.1 (tours_more p rule (replicate p.required false) before c.loop-plan.plan walk loop.scanned tour.0);
      few = omega (arith, loop.few, length_push c.loop-plan.plan walk, grown.fewer, some_items);
    }

pub returns-then-is_empty-clause-scanned : goal.returns-then-is_empty-clause-scanned
returns-then-is_empty-clause-scanned c =
    let p = c.args.inst.now in
    let rule = c.args.rule in
    let before = c.loop-plan.served.items in
    let tasks = c.in_ok-tasks.tasks in
    let grown : IsGrown p rule before tasks.items c.grow.new.served = subst (λ xs. IsGrown p rule xs tasks.items c.grow.new.served) c.deref_mut.ensures.value c.in_ok-tasks.ensures in
    let none : vec_len tasks ≡ 0 = none_long (vec_len tasks) (sym c.is_empty.ensures ∙ c.if-is_empty.true) in
    let none_items : length tasks.items ≡ 0 = omega (arith, none, tasks.ok.0) in
    tours_whole p rule (replicate p.required false) before c.loop-plan.plan c.loop-plan.invariant.scanned
    (grown_none p rule c.required.ensures.valid before c.grow.new.served tasks.items grown none_items)

pub returns-then-is_empty-clause-lawful : goal.returns-then-is_empty-clause-lawful
returns-then-is_empty-clause-lawful c =
    let p = c.args.inst.now in
    let none = replicate p.required false in
    let scanned = returns-then-is_empty-clause-scanned c in
    c.plans_are_tours.ensures.lawful p c.required.ensures.valid c.loop-plan.plan (scanned_paths p c.args.rule none c.loop-plan.plan scanned)
    (scanned_tours p c.args.rule none c.loop-plan.plan (length-replicate p.required false) (none_served p) scanned)
