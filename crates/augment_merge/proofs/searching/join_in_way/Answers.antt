use Rattle.std.proofs.Common.{subst, sym, arith}
use Rattle.augment_merge.specs.Outlines.{IsOutline, nth_outline}
use Rattle.augment_merge.proofs.Pairs.{oriented_is, way_none, way_some}
use Rattle.augment_merge.proofs.searching.join_in_way.Goals as goal

pub link_saving-saving-requires-clause-first : goal.link_saving-saving-requires-clause-first
link_saving-saving-requires-clause-first c =
    let p = c.args.inst.now in
    subst (IsOutline p) (sym c.oriented-a.ensures)
    (oriented_is c.least_prices_are_distances.ensures.symmetric p c.args.turns.0 (nth_outline c.args.outlines.now c.args.pair.0) (c.requires.outlines c.args.pair.0 (omega (arith, c.requires.order, c.requires.in_range))))

pub link_saving-saving-requires-clause-second : goal.link_saving-saving-requires-clause-second
link_saving-saving-requires-clause-second c =
    let p = c.args.inst.now in
    subst (IsOutline p) (sym c.oriented-b.ensures)
    (oriented_is c.least_prices_are_distances.ensures.symmetric p c.args.turns.1 (nth_outline c.args.outlines.now c.args.pair.1) (c.requires.outlines c.args.pair.1 c.requires.in_range))

pub returns-then-saving-eq0 : goal.returns-then-saving-eq0
returns-then-saving-eq0 c =
    way_none c.args.inst.now c.args.outlines.now c.args.pair.0 c.args.pair.1 c.args.turns.0 c.args.turns.1 c.oriented-a.result c.oriented-b.result c.oriented-a.ensures c.oriented-b.ensures c.link_saving-saving.result
    c.link_saving-saving.ensures c.if-saving-eq0.true

pub returns : goal.returns
returns c =
    way_some c.args.inst.now c.args.outlines.now c.args.pair.0 c.args.pair.1 c.args.turns.0 c.args.turns.1 c.oriented-a.result c.oriented-b.result c.oriented-a.ensures c.oriented-b.ensures c.link_saving-saving.result
    c.link_saving-saving.ensures c.if-saving-eq0.false c.requires.order c.requires.in_range c.requires.first_used c.requires.second_used c.requires.fits
