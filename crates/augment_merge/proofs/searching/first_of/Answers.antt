use Rattle.std.proofs.Common.{◌≡◌, length, subst, arith}
use Rattle.augment_merge.specs.Outlines.{FindsBest, StandsInRows}
use Rattle.augment_merge.proofs.Choosing.{rows_more}
use Rattle.augment_merge.proofs.searching.first_of.Goals as goal

pub loop-row-init : goal.loop-row-init
loop-row-init c = λ j stands. absurd (let below = stands.in_range in omega arith)

pub loop-row-preserved : goal.loop-row-preserved
loop-row-preserved c = rows_more c.args.rows.now c.loop-row.row-index c.loop-row.best c.better-best.result c.loop-row.invariant c.better-best.ensures

pub returns : goal.returns
returns c =
    let rows = c.args.rows.now in
    subst (λ n. FindsBest (StandsInRows rows n) c.loop-row.best) (let end : c.loop-row.row-index ≡ length rows = omega (arith, c.loop-row-test.false, c.loop-row.auto.row-index-end) in end) c.loop-row.invariant
