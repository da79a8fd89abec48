use Rattle.std.proofs.Common.{◌≡◌, ◌+◌, ◌<◌, length, slice_index, sum, sym, ap, ◌∙◌, arith}
use Rattle.std.proofs.lemmas.List.{get_or_read}
use Rattle.flow_cut.proofs.Trying.{further_to_try, layered_set, led_on, some_fewer, spent_at_end, sum_set}
use Rattle.flow_cut.proofs.Ways.{reached_in}
use Rattle.flow_cut.proofs.blocking.step.Goals as goal

pub returns-then-end-index-clause-layered : goal.returns-then-end-index-clause-layered
returns-then-end-index-clause-layered c =
    let arcs = c.args.arcs.now in
    let l = c.args.layers.now in
    let a = c.args.adjacency.now in
    let e = c.args.ends in
    let r = c.index-r.result.now in
    let led = led_on arcs c.args.flows.now e.nodes e.source a.starts.items a.list.items l.level.items l.via.items c.args.untried.now c.args.v c.skip-end.result c.index.result.now r
    c.requires.adjacency c.requires.layered c.requires.untried c.requires.reached c.skip-end.ensures.below c.index.ensures c.if-end-index.true c.skip-end.ensures.found c.index-r.ensures in
    layered_set arcs e.nodes e.source c.head-w.result l.level.items l.via.items r c.requires.layered led.0 (sym c.head-w.ensures)
    (ap (slice_index l.level.items) c.head-w.ensures ∙ led.2.further) (rw led.1 c.requires.reached)

pub returns-then-end-index-clause-reached : goal.returns-then-end-index-clause-reached
returns-then-end-index-clause-reached c =
    let arcs = c.args.arcs.now in
    let l = c.args.layers.now in
    let a = c.args.adjacency.now in
    let e = c.args.ends in
    let r = c.index-r.result.now in
    let led = led_on arcs c.args.flows.now e.nodes e.source a.starts.items a.list.items l.level.items l.via.items c.args.untried.now c.args.v c.skip-end.result c.index.result.now r
    c.requires.adjacency c.requires.layered c.requires.untried c.requires.reached c.skip-end.ensures.below c.index.ensures c.if-end-index.true c.skip-end.ensures.found c.index-r.ensures in
    λ none. omega (arith, none, ap (slice_index l.level.items) c.head-w.ensures, led.2.further)

pub returns-then-end-index-clause-less : goal.returns-then-end-index-clause-less
returns-then-end-index-clause-less c =
    let arcs = c.args.arcs.now in
    let l = c.args.layers.now in
    let a = c.args.adjacency.now in
    let e = c.args.ends in
    let r = c.index-r.result.now in
    let led = led_on arcs c.args.flows.now e.nodes e.source a.starts.items a.list.items l.level.items l.via.items c.args.untried.now c.args.v c.skip-end.result c.index.result.now r
    c.requires.adjacency c.requires.layered c.requires.untried c.requires.reached c.skip-end.ensures.below c.index.ensures c.if-end-index.true c.skip-end.ensures.found c.index-r.ensures in
    let there : c.args.v < length c.args.untried.now = omega (arith, reached_in l.level.items c.args.v c.requires.reached, c.requires.layered.level_len, c.requires.untried.untried_len) in
    let further : slice_index l.level.items c.head-w.result ≡ slice_index l.level.items c.args.v + 1 =
    omega (arith, ap (slice_index l.level.items) c.head-w.ensures, led.2.further, ap (slice_index l.level.items) led.1) in
    further_to_try e.nodes _ _ _ _ (omega (arith, sum_set c.args.untried.now c.args.v c.skip-end.result there, c.skip-end.ensures.below)) further (c.requires.layered.bounded c.head-w.result)

pub returns-else-end-index-clause-less : goal.returns-else-end-index-clause-less
returns-else-end-index-clause-less c =
    let l = c.args.layers.now in
    let there : c.args.v < length c.args.untried.now = omega (arith, reached_in l.level.items c.args.v c.requires.reached, c.requires.layered.level_len, c.requires.untried.untried_len) in
    some_fewer c.args.ends.nodes l.level.items c.retreat.result (sum c.retreat.new.untried) _ (sum c.args.untried.now) (slice_index l.level.items c.args.v)
    (omega (arith, sum_set c.args.untried.now c.args.v c.skip-end.result there, c.skip-end.ensures.below)) c.retreat.ensures.less

pub returns-else-end-index-clause-spent : goal.returns-else-end-index-clause-spent
returns-else-end-index-clause-spent c =
    let l = c.args.layers.now in
    let starts = c.args.adjacency.now.starts.items in
    let v = c.args.v in
    let node = reached_in l.level.items v c.requires.reached in
    let there : v < length c.args.untried.now = omega (arith, node, c.requires.layered.level_len, c.requires.untried.untried_len) in
    let in_starts : v < length starts = omega (arith, node, c.requires.layered.level_len, c.requires.adjacency.starts_len) in
    let start = get_or_read starts v c.index.result.now in_starts c.index.ensures 0 in
    spent_at_end c.retreat.result c.args.untried.now c.retreat.new.untried starts v c.args.ends.source c.skip-end.result c.retreat.ensures.spent c.retreat.ensures.kept there
    (omega (arith, start, c.if-end-index.false))
