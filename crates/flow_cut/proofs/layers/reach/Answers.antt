use Rattle.std.proofs.Common.{◌≡◌, ◌≤◌, ◌<◌, length, slice_index, sym, ◌∙◌, arith}
use Rattle.std.proofs.lemmas.List.{get_or_read}
use Rattle.flow_cut.specs.Flows.{IsNode}
use Rattle.flow_cut.specs.Residual.{left_on}
use Rattle.flow_cut.proofs.Chains.{head_in, tail_in}
use Rattle.flow_cut.proofs.Searching.{search_more, progress_more}
use Rattle.flow_cut.proofs.layers.reach.Goals as goal
use Rattle.flow_cut.proofs.layers.reach.Goals.{In_ok-push}

node : (c : In_ok-push) → IsNode c.args.ends.nodes c.head-w.result
node c = rw c.head-w.ensures (head_in c.args.ends.nodes c.args.arcs.now c.args.r c.requires.network.ends c.requires.in_arcs)

new : (c : In_ok-push) → slice_index c.args.layers.now.level.items c.head-w.result ≡ 0
new c =
    let level = c.args.layers.now.level.items in
    let below : c.head-w.result < length level = omega (arith, (node c).in_range, c.requires.search.layered.level_len) in
    sym (get_or_read level c.head-w.result c.index.result.now below c.index.ensures 0) ∙ c.if-index-eq0.true

near : (c : In_ok-push) → c.index-then-left-gt0.result.now ≡ slice_index c.args.layers.now.level.items c.args.v
near c =
    let level = c.args.layers.now.level.items in
    let tail = tail_in c.args.ends.nodes c.args.arcs.now c.args.r c.requires.network.ends c.requires.in_arcs in
    let below : c.args.v < length level = omega (arith, tail.in_range, c.requires.own, c.requires.search.layered.level_len) in
    get_or_read level c.args.v c.index-then-left-gt0.result.now below c.index-then-left-gt0.ensures 0

left : (c : In_ok-push) → 1 ≤ left_on c.args.arcs.now c.args.flows.now c.args.r
left c = omega (arith, c.left.ensures, c.if-left-gt0.true)

pub returns-in_ok-push-clause-search : goal.returns-in_ok-push-clause-search
returns-in_ok-push-clause-search c =
    let l = c.args.layers.now in
    rw (near c, c.in_ok-push.ensures.items)
    (search_more c.args.arcs.now c.args.flows.now c.args.ends.nodes c.args.ends.source c.args.v c.head-w.result l.level.items l.via.items c.args.queue.now.items
    c.args.r c.requires.search (node c) c.requires.in_arcs c.requires.own (sym c.head-w.ensures) c.requires.reached (new c) (left c))

pub returns-in_ok-push-clause-progress : goal.returns-in_ok-push-clause-progress
returns-in_ok-push-clause-progress c =
    let l = c.args.layers.now in
    rw (near c, c.in_ok-push.ensures.items)
    (progress_more c.args.arcs.now c.args.flows.now c.args.ends.nodes c.args.ends.source c.args.v c.head-w.result l.level.items l.via.items c.args.queue.now.items
    c.args.r c.requires.search (node c) c.requires.in_arcs c.requires.own (sym c.head-w.ensures) c.requires.reached (new c) (left c))
