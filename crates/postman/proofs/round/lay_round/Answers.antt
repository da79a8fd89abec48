use Rattle.std.proofs.Common.{List, ℕ, ap, ◌+◌, arith, subst}
use Rattle.postman.specs.Trails.{IsCheapRound}
use Rattle.postman.proofs.Least.{shown_round, small_join, small_services}
use Rattle.postman.proofs.round.lay_round.Goals as goal

pub overflow_add-cost : goal.overflow_add-cost
overflow_add-cost c =
    let p = c.args.inst.now in
    omega (
      arith,
      small_services p c.validity.ensures,
      small_join p c.args.bound.deadheads.items c.validity.ensures c.requires.bound.once,
      c.requires.bound.costs,
      c.required_cost.ensures,
    )

pub returns : goal.returns
returns c =
    let p = c.args.inst.now in
    let walk = c.in_ok-walk.walk in
    shown_round c.rounds_pay_joins.ensures p c.args.bound.deadheads.items c.args.bound.shores.items c.args.bound.value walk (c.required_cost.result + c.args.bound.value)
    c.validity.ensures c.requires.bound (subst (λ (counts : List ℕ). IsCheapRound p counts walk) c.deref_mut.ensures.value c.in_ok-walk.ensures)
    (ap (λ n. n + c.args.bound.value) c.required_cost.ensures)
