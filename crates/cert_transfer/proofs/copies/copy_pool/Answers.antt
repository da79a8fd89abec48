use Rattle.std.proofs.Common.{◌≤◌, length, rules, ◌∙◌}
use Rattle.cert_transfer.proofs.Copying.{next_place}
use Rattle.cert_transfer.proofs.copies.copy_pool.Goals as goal

pub place-requires : goal.place-requires
place-requires c =
    let some : 1 ≤ c.loop-number.number = search rules in
    let within : c.loop-number.number ≤ length c.args.pool.now = search rules in
    next_place c.args.pool.now c.loop-number.copy c.in_ok-copy.field-0 c.loop-number.number c.len-number-end.ensures.different c.len-number-end.ensures.few some within c.loop-number.invariant
    (c.in_ok-copy.ensures ∙ c.shore.ensures)
