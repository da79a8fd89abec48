use Rattle.std.proofs.Common.{refl, ap, ◌∙◌, ◌≡◌, length, slice_index, drop, arith}
use Rattle.std.proofs.lemmas.List.{take_at}
use Rattle.blossom_match.proofs.RowsOpening.{first_place}
use Rattle.blossom_match.proofs.UnfoldingStates.{open_top, top_round, opened_top, unfolding_more}
use Rattle.blossom_match.proofs.UnfoldingSets.{opened_fewer, opened_others}
use Rattle.blossom_match.specs.Turns.{top_of}
use Rattle.blossom_match.proofs.unfold.open_set.Goals as goal

pub open_cycle-requires-clause-round : goal.open_cycle-requires-clause-round
open_cycle-requires-clause-round c =
    let o = open_top c.args.costs.now c.args.state.now c.args.v c.child_of-first.result c.pair_of-pair.result c.requires.asked c.requires.so_far c.requires.v_in c.child_of-first.ensures c.pair_of-pair.ensures in
    rw (c.deref.ensures.value, c.deref-2.ensures.value) (top_round c.args.costs.now c.args.state.now c.args.v c.child_of-first.result c.pair_of-pair.result o)

pub open_cycle-requires-clause-inside : goal.open_cycle-requires-clause-inside
open_cycle-requires-clause-inside c =
    let s = c.args.state.now in
    let o = open_top c.args.costs.now c.args.state.now c.args.v c.child_of-first.result c.pair_of-pair.result c.requires.asked c.requires.so_far c.requires.v_in c.child_of-first.ensures c.pair_of-pair.ensures in
    rw (c.deref.ensures.value, c.deref-2.ensures.value) (first_place c.args.costs.now s.size s.held.items s.halves.items s.child.items s.next.items s.link.items (top_of s c.args.v) c.child_of-first.result c.pair_of-pair.result o.can)

pub returns-clause-so_far : goal.returns-clause-so_far
returns-clause-so_far c =
    let o = open_top c.args.costs.now c.args.state.now c.args.v c.child_of-first.result c.pair_of-pair.result c.requires.asked c.requires.so_far c.requires.v_in c.child_of-first.ensures c.pair_of-pair.ensures in
    let opened = rw (c.deref.ensures.value, c.deref-2.ensures.value, c.deref-3.ensures.value, c.deref_mut.ensures.value, c.deref_mut-2.ensures.value) at c.open_cycle.ensures in
    let z = opened_top c.args.costs.now c.args.state.now c.args.v c.child_of-first.result c.open_cycle.result c.pair_of-pair.result c.open_cycle.new.top c.open_cycle.new.mate o c.pair_of-pair.ensures opened in
    let top_same : length c.open_cycle.new.top ≡ length c.args.state.now.top.items = c.open_cycle.auto.top ∙ ap length c.deref_mut.ensures.value in
    let mate_same : length c.open_cycle.new.mate ≡ length c.args.state.now.mate.items = c.open_cycle.auto.mate ∙ ap length c.deref_mut-2.ensures.value in
    let top_is : length c.open_cycle.new.top ≡ c.args.state.now.top.len = omega (arith, top_same, c.args.state.now.top.ok.0) in
    let mate_is : length c.open_cycle.new.mate ≡ c.args.state.now.mate.len = omega (arith, mate_same, c.args.state.now.mate.ok.0) in
    let top_now = take_at c.open_cycle.new.top (drop (length c.open_cycle.new.top) c.args.state.now.top.items) c.args.state.now.top.len top_is in
    let mate_now = take_at c.open_cycle.new.mate (drop (length c.open_cycle.new.mate) c.args.state.now.mate.items) c.args.state.now.mate.len mate_is in
    unfolding_more c.args.costs.now c.args.state.now _ c.args.v (slice_index c.open_cycle.new.top c.pair_of-pair.result.inside) c.pair_of-pair.result c.requires.so_far c.requires.v_in o.used
    (rw (top_now, mate_now) z)
    (record {
      size = refl;
      held = refl;
      halves = refl;
      sums = refl;
      child = refl;
      next = refl;
      link = refl;
      label = refl;
      entry = refl;
      one_way = refl;
      other_way = refl;
      base = refl;
      top_len = rw top_now top_same;
      mate_len = rw mate_now mate_same;
    })

pub returns-clause-fewer : goal.returns-clause-fewer
returns-clause-fewer c =
    let s = c.args.state.now in
    let o = open_top c.args.costs.now c.args.state.now c.args.v c.child_of-first.result c.pair_of-pair.result c.requires.asked c.requires.so_far c.requires.v_in c.child_of-first.ensures c.pair_of-pair.ensures in
    let opened = rw (c.deref.ensures.value, c.deref-2.ensures.value, c.deref-3.ensures.value, c.deref_mut.ensures.value, c.deref_mut-2.ensures.value) at c.open_cycle.ensures in
    let z = opened_top c.args.costs.now c.args.state.now c.args.v c.child_of-first.result c.open_cycle.result c.pair_of-pair.result c.open_cycle.new.top c.open_cycle.new.mate o c.pair_of-pair.ensures opened in
    let top_same : length c.open_cycle.new.top ≡ length c.args.state.now.top.items = c.open_cycle.auto.top ∙ ap length c.deref_mut.ensures.value in
    let top_is : length c.open_cycle.new.top ≡ c.args.state.now.top.len = omega (arith, top_same, c.args.state.now.top.ok.0) in
    rw (take_at c.open_cycle.new.top (drop (length c.open_cycle.new.top) c.args.state.now.top.items) c.args.state.now.top.len top_is)
    (opened_fewer c.args.costs.now s.size s.held.items s.halves.items s.child.items s.next.items s.link.items (top_of s c.args.v) (slice_index c.open_cycle.new.top c.pair_of-pair.result.inside) c.pair_of-pair.result
    s.top.items c.open_cycle.new.top s.mate.items c.open_cycle.new.mate z c.args.v c.requires.v_in refl)

pub returns-clause-others : goal.returns-clause-others
returns-clause-others c =
    let s = c.args.state.now in
    let o = open_top c.args.costs.now c.args.state.now c.args.v c.child_of-first.result c.pair_of-pair.result c.requires.asked c.requires.so_far c.requires.v_in c.child_of-first.ensures c.pair_of-pair.ensures in
    let opened = rw (c.deref.ensures.value, c.deref-2.ensures.value, c.deref-3.ensures.value, c.deref_mut.ensures.value, c.deref_mut-2.ensures.value) at c.open_cycle.ensures in
    let z = opened_top c.args.costs.now c.args.state.now c.args.v c.child_of-first.result c.open_cycle.result c.pair_of-pair.result c.open_cycle.new.top c.open_cycle.new.mate o c.pair_of-pair.ensures opened in
    let top_same : length c.open_cycle.new.top ≡ length c.args.state.now.top.items = c.open_cycle.auto.top ∙ ap length c.deref_mut.ensures.value in
    let top_is : length c.open_cycle.new.top ≡ c.args.state.now.top.len = omega (arith, top_same, c.args.state.now.top.ok.0) in
    rw (take_at c.open_cycle.new.top (drop (length c.open_cycle.new.top) c.args.state.now.top.items) c.args.state.now.top.len top_is)
    (opened_others c.args.costs.now s.size s.held.items s.halves.items s.child.items s.next.items s.link.items (top_of s c.args.v) (slice_index c.open_cycle.new.top c.pair_of-pair.result.inside) c.pair_of-pair.result
    s.top.items c.open_cycle.new.top s.mate.items c.open_cycle.new.mate z)
