use Rattle.std.proofs.Common.{◌≡◌, ◌<◌, refl, arith, length, slice_index}
use Rattle.std.proofs.lemmas.List.{get_or_read}
use Rattle.blossom_match.proofs.Growing.{grow_growth, grow_keeps, grow_less, mate_in_range}
use Rattle.blossom_match.proofs.grow.grow.Goals as goal

pub returns-clause-searching : goal.returns-clause-searching
returns-clause-searching c =
    let s = c.args.state.now in
    let v_in : c.args.v < length c.args.state.now.top.items = omega (arith, c.requires.reach.v_in, c.requires.searching.so_far.shape.top_len) in
    let out_in = mate_in_range c.args.costs.now c.args.state.now c.args.v c.args.mate c.requires.searching c.requires.reach.v_in c.requires.matched in
    let inner : c.index-inner.result.now ≡ slice_index c.args.state.now.top.items c.args.v = get_or_read c.args.state.now.top.items c.args.v c.index-inner.result.now v_in c.index-inner.ensures 0 in
    let outer : c.index-outer.result.now ≡ slice_index c.args.state.now.top.items c.args.mate.outside =
    get_or_read c.args.state.now.top.items c.args.mate.outside c.index-outer.result.now out_in c.index-outer.ensures 0 in
    grow_keeps c.args.costs.now c.args.state.now _ c.args.u c.args.v c.args.mate c.requires.asked.table c.requires.searching c.requires.reach c.requires.matched
    (record {
      size = refl;
      held = refl;
      halves = refl;
      top = refl;
      sums = refl;
      child = refl;
      next = refl;
      link = refl;
      mate = refl;
      one_way = refl;
      other_way = refl;
      base = refl;
      root = refl;
      label = rw (inner, outer) refl;
      entry = rw inner refl;
    })

pub returns-clause-less : goal.returns-clause-less
returns-clause-less c =
    let s = c.args.state.now in
    let v_in : c.args.v < length c.args.state.now.top.items = omega (arith, c.requires.reach.v_in, c.requires.searching.so_far.shape.top_len) in
    let out_in = mate_in_range c.args.costs.now c.args.state.now c.args.v c.args.mate c.requires.searching c.requires.reach.v_in c.requires.matched in
    let inner : c.index-inner.result.now ≡ slice_index c.args.state.now.top.items c.args.v = get_or_read c.args.state.now.top.items c.args.v c.index-inner.result.now v_in c.index-inner.ensures 0 in
    let outer : c.index-outer.result.now ≡ slice_index c.args.state.now.top.items c.args.mate.outside =
    get_or_read c.args.state.now.top.items c.args.mate.outside c.index-outer.result.now out_in c.index-outer.ensures 0 in
    grow_less c.args.costs.now c.args.state.now _ c.args.u c.args.v c.args.mate c.requires.searching c.requires.reach c.requires.matched
    (record {
      size = refl;
      held = refl;
      halves = refl;
      top = refl;
      sums = refl;
      child = refl;
      next = refl;
      link = refl;
      mate = refl;
      one_way = refl;
      other_way = refl;
      base = refl;
      root = refl;
      label = rw (inner, outer) refl;
      entry = rw inner refl;
    })

pub returns-clause-growth : goal.returns-clause-growth
returns-clause-growth c =
    let s = c.args.state.now in
    let v_in : c.args.v < length c.args.state.now.top.items = omega (arith, c.requires.reach.v_in, c.requires.searching.so_far.shape.top_len) in
    let out_in = mate_in_range c.args.costs.now c.args.state.now c.args.v c.args.mate c.requires.searching c.requires.reach.v_in c.requires.matched in
    let inner : c.index-inner.result.now ≡ slice_index c.args.state.now.top.items c.args.v = get_or_read c.args.state.now.top.items c.args.v c.index-inner.result.now v_in c.index-inner.ensures 0 in
    let outer : c.index-outer.result.now ≡ slice_index c.args.state.now.top.items c.args.mate.outside =
    get_or_read c.args.state.now.top.items c.args.mate.outside c.index-outer.result.now out_in c.index-outer.ensures 0 in
    grow_growth c.args.costs.now c.args.state.now _ c.args.u c.args.v c.args.mate c.requires.searching c.requires.reach c.requires.matched
    (record {
      size = refl;
      held = refl;
      halves = refl;
      top = refl;
      sums = refl;
      child = refl;
      next = refl;
      link = refl;
      mate = refl;
      one_way = refl;
      other_way = refl;
      base = refl;
      root = refl;
      label = rw (inner, outer) refl;
      entry = rw inner refl;
    })

pub index_mut-requires-3 : goal.index_mut-requires-3
index_mut-requires-3 c =
    let out_in = mate_in_range c.args.costs.now c.args.state.now c.args.v c.args.mate c.requires.searching c.requires.reach.v_in c.requires.matched in
    let outer : c.index-outer.result.now ≡ slice_index c.args.state.now.top.items c.args.mate.outside =
    get_or_read c.args.state.now.top.items c.args.mate.outside c.index-outer.result.now out_in c.index-outer.ensures 0 in
    let so_far = c.requires.searching.so_far in
    omega (arith, outer, so_far.tops.top_in c.args.mate.outside (omega (arith, out_in, so_far.shape.top_len)), so_far.shape.label_len, c.args.state.now.label.ok.0)
