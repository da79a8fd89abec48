use Rattle.std.proofs.Common.{get_or}
use Rattle.branch_rules.proofs.Adding.{pair_untouched, row_more, still_within}
use Rattle.branch_rules.proofs.surcharges.add_row.Goals as goal

pub add_pair-requires-clause-within : goal.add_pair-requires-clause-within
add_pair-requires-clause-within c = λ placed.
    still_within _ _
    (pair_untouched c.args.required c.args.e c.loop-f.f-index c.args.edges.now _ c.args.table.now c.loop-f.table c.requires.rising c.loop-f-test.true c.loop-f.invariant placed)
    (c.requires.within (get_or c.args.edges.now c.loop-f.f-index 0) placed)

pub loop-f-preserved : goal.loop-f-preserved
loop-f-preserved c =
    row_more c.args.required c.args.e c.loop-f.f-index c.args.edges.now _ c.args.table.now c.loop-f.table c.add_pair.new.table c.loop-f-test.true c.loop-f.invariant c.add_pair.ensures
