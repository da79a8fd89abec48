use Rattle.std.proofs.Common.{arith}
use Rattle.augment_merge.proofs.Rows.{renewed_before, renewed_after}
use Rattle.augment_merge.proofs.renewing.renewed.Goals as goal

pub returns-then-first-made : goal.returns-then-first-made
returns-then-first-made c =
    renewed_before c.args.inst.now c.args.outlines.now c.args.made.now c.requires.order c.requires.emptied c.args.first c.args.row c.best_of_pair.result c.better.result
    (c.requires.fresh (c.is_stale.ensures c.if-is_stale.false)) c.best_of_pair.ensures c.better.ensures (omega (arith, c.requires.order, c.requires.made_in))

pub returns : goal.returns
returns c =
    let fresh = c.is_stale.ensures c.if-is_stale.false in
    renewed_after c.args.inst.now c.args.outlines.now c.args.made.now c.requires.order c.requires.emptied c.args.first c.args.row (c.requires.fresh fresh)
    (let not_joined = fresh.not_joined in omega arith)
