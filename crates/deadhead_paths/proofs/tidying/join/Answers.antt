use Rattle.std.proofs.Common.{◌<◌, ◌≤◌, length, drop, arith, ap, subst, sym, ◌∙◌}
use Rattle.std.proofs.lemmas.List.{take_all, drop_all}
use Rattle.deadhead_paths.specs.Prices.{AddsPath}
use Rattle.deadhead_paths.proofs.Joining.{Joining, joining_none, joining_done, served_within, place_deadhead, place_service}
use Rattle.deadhead_paths.proofs.tidying.join.Goals as goal
use Rattle.deadhead_paths.proofs.tidying.join.Goals.{then-step+in_ok-at, else-step}

pub loop-i-init : goal.loop-i-init
loop-i-init c =
    let p = c.args.inst.now in
    rw (c.new-joined.ensures, c.requires.depot) (joining_none p c.requires.valid c.args.walk.now c.requires.lawful.leads)

pub serve-requires-clause-room : goal.serve-requires-clause-room
serve-requires-clause-room c = omega (arith, c.loop-i.invariant.short, served_within c.args.walk.now c.loop-i.i, c.requires.few)

pub loop-i-preserved : goal.loop-i-preserved
loop-i-preserved c =
    let p = c.args.inst.now in
    let walk = c.args.walk.now in
    let i = c.loop-i.i in
    let loop = c.loop-i.invariant in
    let in_range : i < length walk = omega (arith, c.len-i-end.ensures.value) in
    elim c.if-step.branch [
      | then-step+in_ok-at w ↦
          rw (w.joined-is, w.at-is) (place_service p walk c.loop-i.joined c.loop-i.at i in_range loop c.requires.valid c.args.dist.now c.requires.problem c.requires.prices
          c.step-step.result c.step-step.ensures w.if-step.true w.serve.new.joined w.in_ok-at.at w.in_ok-at.ensures.added w.in_ok-at.ensures.end)
      | else-step w ↦
          rw (w.joined-is, w.at-is) (place_deadhead p walk c.loop-i.joined c.loop-i.at i in_range loop (ap (λ s. s.served) (sym c.step-step.ensures) ∙ w.if-step.false))
    ]

pub returns : goal.returns
returns c =
    let p = c.args.inst.now in
    let walk = c.args.walk.now in
    let loop = c.loop-i.invariant in
    let all : length walk ≤ c.loop-i.i = omega (arith, c.len-i-end.ensures.value) in
    let at_end = subst (λ xs. Joining p xs (drop c.loop-i.i walk) c.loop-i.joined c.loop-i.at) (take_all c.loop-i.i walk all) loop in
    let at_end' = subst (λ xs. Joining p walk xs c.loop-i.joined c.loop-i.at) (drop_all c.loop-i.i walk all) at_end in
    joining_done p c.requires.valid walk c.loop-i.joined c.loop-i.at at_end' c.args.dist.now c.requires.problem c.requires.prices c.follow.new.walk
    (subst (λ v. AddsPath c.args.dist.now c.loop-i.at v c.loop-i.joined c.follow.new.walk) c.requires.depot c.in_ok-follow.ensures)
