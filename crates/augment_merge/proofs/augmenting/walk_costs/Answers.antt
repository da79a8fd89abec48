use Rattle.std.proofs.Common.{sym, subst, arith}
use Rattle.plan_model.specs.Plans.{IsOnEdges}
use Rattle.augment_merge.proofs.Walks.{lawful_on_edges}
use Rattle.augment_merge.proofs.augmenting.walk_costs.Goals as goal

pub cost_of-requires : goal.cost_of-requires
cost_of-requires c = subst (IsOnEdges c.args.inst.now) (sym c.walk.ensures.value) (lawful_on_edges c.args.inst.now c.args.plan.now c.requires.walks c.loop-i.i (omega (arith, c.loop-i-test.true, c.len-i-end.ensures.value)))
