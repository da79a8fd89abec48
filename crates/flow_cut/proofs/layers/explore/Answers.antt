use Rattle.std.proofs.Common.{◌≡◌, ◌≤◌, ◌<◌, length, slice_index, arith}
use Rattle.std.proofs.lemmas.List.{get_or_read}
use Rattle.flow_cut.specs.Adjacency.{no_residual}
use Rattle.flow_cut.proofs.Listing.{read_node}
use Rattle.flow_cut.proofs.Searching.{exploring_more, pending_more}
use Rattle.flow_cut.proofs.layers.explore.Goals as goal

pub reach-requires-clause-own : goal.reach-requires-clause-own
reach-requires-clause-own c =
    let a = c.args.adjacency.now in
    let v = c.index-v.result.now in
    let k = c.loop-k.k in
    let node = c.requires.search.nodes c.args.place c.requires.in_queue in
    let is = get_or_read c.args.queue.now.items c.args.place v c.requires.in_queue c.index-v.ensures 0 in
    let small : v ≤ c.args.ends.nodes = omega (arith, is, node.in_range) in
    let p = read_node c.args.arcs.now c.args.ends.nodes a.starts.items a.list.items v c.index-k.result.now c.index-k-end.result.now c.requires.adjacency small c.index-k.ensures c.index-k-end.ensures in
    let low : slice_index a.starts.items v ≤ k = omega (arith, p.0) in
    let high : k < c.index-k-end.result.now = omega arith in
    let below : k < length a.list.items = omega (arith, p.1.in_list, high) in
    rw (get_or_read a.list.items k c.index.result.now below c.index.ensures no_residual) (p.1.own k low high)

pub loop-k-preserved : goal.loop-k-preserved
loop-k-preserved c =
    let a = c.args.adjacency.now in
    let v = c.index-v.result.now in
    let k = c.loop-k.k in
    let node = c.requires.search.nodes c.args.place c.requires.in_queue in
    let is = get_or_read c.args.queue.now.items c.args.place v c.requires.in_queue c.index-v.ensures 0 in
    let small : v ≤ c.args.ends.nodes = omega (arith, is, node.in_range) in
    let p = read_node c.args.arcs.now c.args.ends.nodes a.starts.items a.list.items v c.index-k.result.now c.index-k-end.result.now c.requires.adjacency small c.index-k.ensures c.index-k-end.ensures in
    let high : k < c.index-k-end.result.now = omega arith in
    let below : k < length a.list.items = omega (arith, p.1.in_list, high) in
    let item = get_or_read a.list.items k c.index.result.now below c.index.ensures no_residual in
    exploring_more c.args.arcs.now c.args.flows.now c.args.ends.nodes c.args.ends.source a.list.items (slice_index a.starts.items v) k
    c.args.layers.now.level.items c.args.queue.now.items c.loop-k.layers.level.items c.loop-k.layers.via.items c.loop-k.queue.items
    c.reach.new.layers.level.items c.reach.new.layers.via.items c.reach.new.queue.items
    c.loop-k.invariant c.in_ok-reach.ensures.search c.in_ok-reach.ensures.progress (rw item at c.in_ok-reach.ensures.reached)

pub returns-clause-pending : goal.returns-clause-pending
returns-clause-pending c =
    let a = c.args.adjacency.now in
    let v = c.index-v.result.now in
    let k = c.loop-k.k in
    let node = c.requires.search.nodes c.args.place c.requires.in_queue in
    let is = get_or_read c.args.queue.now.items c.args.place v c.requires.in_queue c.index-v.ensures 0 in
    let small : v ≤ c.args.ends.nodes = omega (arith, is, node.in_range) in
    let p = read_node c.args.arcs.now c.args.ends.nodes a.starts.items a.list.items v c.index-k.result.now c.index-k-end.result.now c.requires.adjacency small c.index-k.ensures c.index-k-end.ensures in
    let end : k ≡ c.index-k-end.result.now = omega (arith, p.0, p.1.ordered) in
    pending_more c.args.arcs.now c.args.flows.now c.args.ends.nodes c.args.ends.source a.list.items (slice_index a.starts.items v) k c.args.place v
    c.args.layers.now.level.items c.args.queue.now.items c.loop-k.layers.level.items c.loop-k.layers.via.items c.loop-k.queue.items
    is c.requires.in_queue c.requires.pending (rw end p.1) c.loop-k.invariant
