use Rattle.std.proofs.Common.{get_or, take, arith}
use Rattle.std.proofs.lemmas.List.{take_more}
use Rattle.matching_duals.proofs.Rows.{depth_push}
use Rattle.matching_duals.proofs.depth_rows.depth_of.Goals as goal

pub loop-i-preserved : goal.loop-i-preserved
loop-i-preserved c =
    let members = c.args.members.now in
    let i = c.loop-i.i in
    rw (take_more members i 0 c.loop-i-test.true)
    (omega (
      arith,
      c.min-least.ensures,
      c.saturating_sub-depth.ensures,
      c.loop-i.invariant,
      depth_push c.args.table.now c.args.start c.args.enclosing.now c.args.weight (get_or members i 0) (take i members),
    ))
