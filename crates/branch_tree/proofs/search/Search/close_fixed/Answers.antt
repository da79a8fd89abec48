use Rattle.std.proofs.Common.{arith, ap, ◌∙◌, [], ◌∷◌}
use Rattle.branch_tree.specs.Leaves.{with_news}
use Rattle.branch_tree.specs.Searches.{State, state_of}
use Rattle.branch_rules.specs.declared.node.Node.TheVariants.{Fixed}
use Rattle.branch_tree.specs.declared.search.Turn.TheVariants.{Closed}
use Rattle.branch_tree.proofs.Standing.{leaf_pairs}
use Rattle.branch_tree.proofs.Turns.{fixed_goes, framed_both, small_plan, turn_framed}
use Rattle.branch_tree.proofs.search.Search.close_fixed.Goals as goal

pub fixed_plan-requires-clause-pairs : goal.fixed_plan-requires-clause-pairs
fixed_plan-requires-clause-pairs c = leaf_pairs c.known_laws.ensures c.args.inst.now (state_of c.args.self.now) c.requires.search.held c.args.place c.args.branch.now c.requires.at

pub overflow_cast-cost : goal.overflow_cast-cost
overflow_cast-cost c =
    let small =
    small_plan c.known_laws.ensures c.args.inst.now (state_of c.args.self.now) c.requires.search.held c.args.place c.args.branch.now c.requires.at c.requires.fixed c.in_ok-plan.plan c.in_ok-plan.ensures.lawful c.in_ok-plan.ensures.value c.in_ok-plan.ensures.few_tours c.in_ok-plan.ensures.few_steps in
    omega (arith, small, c.in_ok-cost.ensures)

pub returns : goal.returns
returns c =
    turn_framed c.args.inst.now c.args.self.now c.put_leaf.new.self Closed _ c.requires.search (framed_both c.args.self.now c.keep_cheaper.new.self c.put_leaf.new.self c.keep_cheaper.ensures.framed c.put_leaf.ensures.framed)
    (c.put_leaf.ensures.state ∙ ap (λ (s : State). with_news s c.args.place (record { node = Fixed; shows = c.in_ok-cost.cost } ∷ [])) c.keep_cheaper.ensures.state)
    (fixed_goes c.known_laws.ensures c.args.inst.now (state_of c.args.self.now) c.requires.search.held c.args.place c.args.branch.now c.requires.at c.requires.fixed c.in_ok-plan.plan c.in_ok-plan.ensures.lawful c.in_ok-plan.ensures.value c.in_ok-plan.ensures.few_tours c.in_ok-plan.ensures.few_steps
    c.in_ok-cost.cost c.in_ok-cost.ensures)
