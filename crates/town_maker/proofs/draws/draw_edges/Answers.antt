use Rattle.std.proofs.Common.{arith}
use Rattle.std.proofs.lemmas.List.{get_or_default}
use Rattle.town_maker.proofs.Drawing.{drawn_next}
use Rattle.town_maker.proofs.draws.draw_edges.Goals as goal

pub loop-street-preserved : goal.loop-street-preserved
loop-street-preserved c =
    drawn_next _ _ _ _ _ _ _ _ _ _ _ _ _ (omega arith) (get_or_default c.args.streets.now c.loop-street.street-index _ _ (omega arith)) c.loop-street.invariant c.draw_edge-edge.ensures
    c.in_ok-push_edge.ensures.required c.in_ok-push_edge.ensures.others
