use Rattle.blossom_match.proofs.Selecting.{begin_picked_as}
use Rattle.blossom_match.proofs.picking.list_sets.Goals as goal

pub loop-s-init : goal.loop-s-init
loop-s-init c = begin_picked_as c.args.state.now _ _ _ (c.in_ok-vec.ensures.items_if_clones_equal (λ y is. is)) c.new.ensures.items c.new-2.ensures.items
