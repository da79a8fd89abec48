use Rattle.branch_rules.specs.Decisions.{rules_of}
use Rattle.branch_rules.specs.Prices.{value_of}
use Rattle.branch_tree.specs.Searches.{set_in}
use Rattle.branch_tree.proofs.Numbers.{shown_through}
use Rattle.branch_tree.proofs.Tightness.{raised_grows}
use Rattle.branch_tree.proofs.raising.raise_and_propose.Goals as goal

pub propose-requires-clause-some : goal.propose-requires-clause-some
propose-requires-clause-some g c some =
    let p = c.args.leaf.now.inst.now in
    let branch = c.args.leaf.now.branch.now in
    let raised = c.in_ok-set.ensures.raised in
    let start = set_in c.args.sets.now c.args.aim.number in
    shown_through start.unit c.in_ok-set.set.unit (value_of (rules_of p c.args.pool.now branch) start) (value_of (rules_of p c.raise_from.new.pool branch) c.in_ok-set.set) raised.from_unit some
    (c.requires.some raised.from_unit) raised.no_lower

pub returns-clause-raised : goal.returns-clause-raised
returns-clause-raised g c =
    raised_grows c.growth_keeps_sets.ensures c.args.leaf.now.inst.now c.args.pool.now c.raise_from.new.pool c.propose.new.pool c.args.leaf.now.branch.now c.args.sets.now c.args.aim.number c.in_ok-set.set
    c.raise_from.ensures.grown c.propose.ensures.grown c.in_ok-set.ensures.raised
