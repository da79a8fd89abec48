use Rattle.std.proofs.Common.{◌+◌, ◌-◌, ◌*◌, set, ap, arith}
use Rattle.std.proofs.lemmas.Int.{ints}
use Rattle.branch_rules.specs.Tables.{ArePlaced}
use Rattle.branch_rules.proofs.Adding.{pair_added}
use Rattle.branch_rules.proofs.surcharges.add_pair.Goals as goal

pub returns-then-f-required : goal.returns-then-f-required
returns-then-f-required c =
    let placed : ArePlaced c.args.required c.args.e c.args.f =
    record { e_from = c.if-e-ge1.true; e_in = c.if-e-required.true; f_from = c.if-f-ge1.true; f_in = c.if-f-required.true } in
    let here = c.requires.within placed in
    pair_added c.args.required c.args.e c.args.f c.args.table.now _ c.args.weight placed c.requires.long
    (ap (set c.args.table.now ((c.args.e - 1) * c.args.required + (c.args.f - 1))) (omega (arith, ints, here.low, here.high, c.requires.weight.low, c.requires.weight.high)))
