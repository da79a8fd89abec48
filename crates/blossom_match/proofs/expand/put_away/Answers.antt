use Rattle.blossom_match.proofs.RowsOpening.{first_place}
use Rattle.blossom_match.proofs.ExpandingStart.{spent_top, spent_round}
use Rattle.blossom_match.proofs.expand.put_away.Goals as goal

pub open_cycle-len-requires-clause-round : goal.open_cycle-len-requires-clause-round
open_cycle-len-requires-clause-round c =
    let r = c.requires in
    let o = spent_top c.args.costs.now c.args.state.now c.args.s c.args.first c.args.mate r.asked r.searching r.spent r.child r.matched in
    rw (c.deref.ensures.value, c.deref-2.ensures.value) (spent_round c.args.costs.now c.args.state.now c.args.s c.args.first c.args.mate o)

pub open_cycle-len-requires-clause-pair_in : goal.open_cycle-len-requires-clause-pair_in
open_cycle-len-requires-clause-pair_in c =
    let r = c.requires in
    (spent_top c.args.costs.now c.args.state.now c.args.s c.args.first c.args.mate r.asked r.searching r.spent r.child r.matched).can.inside_in

pub open_cycle-len-requires-clause-inside : goal.open_cycle-len-requires-clause-inside
open_cycle-len-requires-clause-inside c =
    let r = c.requires in
    let s = c.args.state.now in
    let o = spent_top c.args.costs.now c.args.state.now c.args.s c.args.first c.args.mate r.asked r.searching r.spent r.child r.matched in
    rw (c.deref.ensures.value, c.deref-2.ensures.value) (first_place c.args.costs.now s.size s.held.items s.halves.items s.child.items s.next.items s.link.items c.args.s c.args.first c.args.mate o.can)
