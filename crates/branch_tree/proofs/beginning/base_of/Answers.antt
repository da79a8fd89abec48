use Rattle.std.proofs.Common.{◌≡◌, ◌*◌, List, sym, subst, ap, ◌∙◌, arith, ℤ, pos, ◌≤ℤ◌}
use Rattle.std.proofs.lemmas.Int.{ints}
use Rattle.decision_chains.specs.declared.decision.Decision.{Decision}
use Rattle.branch_rules.specs.Decisions.{rules_of}
use Rattle.branch_rules.specs.Prices.{value_of}
use Rattle.dual_master.specs.Floors.{plain_value}
use Rattle.branch_tree.proofs.Bits.{not_refused, same_bits}
use Rattle.branch_tree.proofs.beginning.base_of.Goals as goal

pub returns-clause-value : goal.returns-clause-value
returns-clause-value c =
    let p = c.args.inst.now in
    let floor = c.args.floor.now in
    let whole : c.in-Ok.value ≡ plain_value p floor.pool floor.set = c.in-Ok.ensures.value ∙ ap (λ (b : List Decision). value_of (rules_of p floor.pool b) floor.set) c.new.ensures in
    let low : pos 0 ≤ℤ plain_value p floor.pool floor.set = omega (arith, ints, c.requires.floor.floors.floors.services) in
    same_bits floor.set.unit c.args.cost c.in-Ok.value c.requires.floor.fine.unit_in c.requires.little (subst (λ (z : ℤ). pos 0 ≤ℤ z) (sym whole) low)
    (subst (λ (z : ℤ). z ≤ℤ pos (floor.set.unit * c.args.cost)) (sym whole) c.requires.covered)
    ∙ whole

pub unreachable-requires : goal.unreachable-requires
unreachable-requires c =
    not_refused c.args.inst.now c.args.floor.now.pool c.new.result c.args.floor.now.set c.in-Err.field-0 (c.requires.floor.fits c.new.result) c.in-Err.ensures.refused
