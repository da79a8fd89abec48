use Rattle.std.proofs.Common.{◌≡◌, ◌<◌, ◌≤◌, true, length, get_or, [], List, arith, ap, subst, sym, ◌∙◌}
use Rattle.std.specs.List.{filter, AllZip}
use Rattle.std.proofs.lemmas.List.{take_all, length_push}
use Rattle.std.proofs.lemmas.List.Elements.{All-from_recursion}
use Rattle.plan_model.specs.declared.step.Step.{Step}
use Rattle.plan_model.specs.Plans.{IsLawfulWalk}
use Rattle.deadhead_paths.specs.Tidy.{served_steps, serves_some}
use Rattle.deadhead_paths.specs.Join.{IsJoined}
use Rattle.deadhead_paths.proofs.Plans.{all_tidied, zip_more, zip_same, few_services, walk_services}
use Rattle.deadhead_paths.proofs.tidying.tidy.Goals as goal
use Rattle.deadhead_paths.proofs.tidying.tidy.Goals.{then-has_service+in_ok-join+in_ok-push, else-has_service}

pub join-requires-clause-lawful : goal.join-requires-clause-lawful
join-requires-clause-lawful c =
    let p = c.args.inst.now in
    let plan = c.args.plan.now in
    let in_range : c.loop-i.i < length plan = omega (arith, c.len-i-end.ensures.value) in
    rw c.walk-walk.ensures.value (All-from_recursion (IsLawfulWalk p) plan c.requires.lawful.walks c.loop-i.i [] in_range)

pub join-requires-clause-few : goal.join-requires-clause-few
join-requires-clause-few c =
    let p = c.args.inst.now in
    let plan = c.args.plan.now in
    let in_range : c.loop-i.i < length plan = omega (arith, c.len-i-end.ensures.value) in
    omega (arith, ap (λ w. length (served_steps w)) c.walk-walk.ensures.value, walk_services plan c.loop-i.i in_range, few_services p plan c.requires.lawful, c.depot-depot.ensures.valid.few_required)

pub loop-i-preserved : goal.loop-i-preserved
loop-i-preserved c =
    let p = c.args.inst.now in
    let plan = c.args.plan.now in
    let i = c.loop-i.i in
    let loop = c.loop-i.invariant in
    let in_range : i < length plan = omega (arith, c.len-i-end.ensures.value) in
    elim c.if-has_service.branch [
      | then-has_service+in_ok-join+in_ok-push w ↦
          let some : serves_some (get_or plan i []) ≡ true = ap serves_some (sym c.walk-walk.ensures.value) ∙ sym c.has_service.ensures ∙ w.if-has_service.true in
          let is = subst (λ walk. IsJoined p walk w.in_ok-join.field-0) c.walk-walk.ensures.value w.in_ok-join.ensures in
          let tidied_is = w.tidied-is ∙ w.in_ok-push.ensures.ok in
          record {
            short = omega (arith, ap (length {A = List Step}) tidied_is, length_push c.loop-i.tidied w.in_ok-join.field-0, loop.short);
            joined = rw tidied_is (zip_more p plan c.loop-i.tidied i in_range loop.joined some w.in_ok-join.field-0 is);
          }
      | else-has_service w ↦ record {
        short = omega (arith, ap (length {A = List Step}) w.tidied-is, loop.short);
        joined = rw w.tidied-is (zip_same p plan c.loop-i.tidied i in_range loop.joined (ap serves_some (sym c.walk-walk.ensures.value) ∙ sym c.has_service.ensures ∙ w.if-has_service.false));
      }
    ]

pub returns : goal.returns
returns c =
    let p = c.args.inst.now in
    let plan = c.args.plan.now in
    let all : length plan ≤ c.loop-i.i = omega (arith, c.len-i-end.ensures.value) in
    all_tidied p c.depot-depot.ensures.valid plan c.loop-i.tidied c.requires.lawful
    (subst (λ xs. AllZip (IsJoined p) (filter serves_some xs) c.loop-i.tidied) (take_all c.loop-i.i plan all) c.loop-i.invariant.joined)
