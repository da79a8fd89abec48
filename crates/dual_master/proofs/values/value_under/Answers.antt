use Rattle.std.proofs.Common.{subst, sym, ◌∙◌}
use Rattle.dual_master.specs.Candidates.{IsValueWithin}
use Rattle.dual_master.proofs.Sizes.{not_refused, value_bits, value_within}
use Rattle.dual_master.proofs.values.value_under.Goals as goal

pub returns-clause-value : goal.returns-clause-value
returns-clause-value c =
    let within = value_within c.args.inst.now c.args.pool.now c.args.branch.now c.args.set.now c.validity.ensures c.len.ensures.fine c.unit.ensures.fine in
    value_bits c.in-Ok.value (subst IsValueWithin (sym c.in-Ok.ensures.value) within) ∙ c.in-Ok.ensures.value

pub returns-clause-within : goal.returns-clause-within
returns-clause-within c =
    let within =
    subst IsValueWithin (sym c.in-Ok.ensures.value)
    (value_within c.args.inst.now c.args.pool.now c.args.branch.now c.args.set.now c.validity.ensures c.len.ensures.fine c.unit.ensures.fine) in
    subst IsValueWithin (sym (value_bits c.in-Ok.value within)) within

pub unreachable-requires : goal.unreachable-requires
unreachable-requires c = not_refused c.args.inst.now c.args.pool.now c.args.branch.now c.args.set.now c.in-Err.field-0 c.requires.fits c.in-Err.ensures.refused
