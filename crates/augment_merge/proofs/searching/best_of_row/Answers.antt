use Rattle.std.proofs.Common.{◌≡◌, length, subst, arith}
use Rattle.augment_merge.specs.Outlines.{FindsBest, IsRowJoin}
use Rattle.augment_merge.proofs.Pairs.{row_more, row_none}
use Rattle.augment_merge.proofs.searching.best_of_row.Goals as goal

pub loop-second-init : goal.loop-second-init
loop-second-init c = row_none c.args.inst.now c.args.outlines.now c.args.first _ (omega arith)

pub loop-second-preserved : goal.loop-second-preserved
loop-second-preserved c =
    row_more c.args.inst.now c.args.outlines.now c.args.first c.loop-second.second c.loop-second.best c.best_of_pair.result c.better-best.result c.loop-second.invariant c.best_of_pair.ensures c.better-best.ensures

pub returns : goal.returns
returns c =
    let end : c.loop-second.second ≡ length c.args.outlines.now = omega (arith, c.loop-second-test.false, c.loop-second.auto.second-end, c.requires.in_range) in
    subst (λ n. FindsBest (IsRowJoin c.args.inst.now c.args.outlines.now c.args.first n) c.loop-second.best) end c.loop-second.invariant
