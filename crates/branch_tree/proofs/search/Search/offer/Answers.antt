use Rattle.branch_tree.proofs.Cheaper.{plan_taken}
use Rattle.branch_tree.proofs.search.Search.offer.Goals as goal
use Rattle.std.proofs.Common.{arith}

pub returns : goal.returns
returns c =
    let p = c.args.inst.now in
    let allowed = c.short_plans_are_allowed.ensures p c.args.plan c.validity.ensures c.requires.short in
    plan_taken p c.args.self.now c.put_plan.new.self c.args.plan c.in_ok-cost.cost c.requires.search c.put_plan.ensures.framed c.put_plan.ensures.state c.requires.short allowed c.in_ok-cost.ensures (omega (arith, c.if-self-cost.false))
