use Rattle.std.proofs.Common.{get_or}
use Rattle.branch_rules.proofs.Adding.{group_more, row_untouched, still_within}
use Rattle.branch_rules.proofs.surcharges.add_members.Goals as goal

pub add_row-requires-clause-within : goal.add_row-requires-clause-within
add_row-requires-clause-within c = λ f placed.
    still_within _ _
    (row_untouched c.args.required c.loop-e.e-index f c.args.edges.now _ c.args.table.now c.loop-e.table c.requires.rising c.loop-e-test.true c.loop-e.invariant placed)
    (c.requires.within (get_or c.args.edges.now c.loop-e.e-index 0) f placed)

pub loop-e-preserved : goal.loop-e-preserved
loop-e-preserved c =
    group_more c.args.required c.loop-e.e-index c.args.edges.now _ c.args.table.now c.loop-e.table c.add_row.new.table c.loop-e-test.true c.loop-e.invariant c.add_row.ensures
