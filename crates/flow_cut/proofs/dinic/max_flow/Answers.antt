use Rattle.std.proofs.Common.{◌≡◌, drop, length, replicate, arith, rules}
use Rattle.std.proofs.lemmas.List.{take_at, take_rest}
use Rattle.flow_cut.proofs.Least.{brings_none, ended_cut, ended_side, flow_from, reached_nodes}
use Rattle.flow_cut.proofs.dinic.max_flow.Goals as goal

pub send_greatest-requires-clause-brings : goal.send_greatest-requires-clause-brings
send_greatest-requires-clause-brings c =
    let zeros : c.in_ok-flows.flows.items ≡ replicate (length c.args.arcs.now) 0 = search rules in
    rw (c.deref_mut.ensures.value, zeros) (brings_none c.args.arcs.now c.args.s c.args.t)

pub returns-clause-flow : goal.returns-clause-flow
returns-clause-flow c =
    let flows = c.send_greatest.new.flows in
    let brings = c.in_ok-value.ensures.brings in
    let long : length flows ≡ c.in_ok-flows.flows.len = omega (arith, brings.rooms.one_each, c.in_ok-flows.ensures.len, c.in_ok-flows.flows.ok.0) in
    rw (take_at flows (drop (length flows) c.in_ok-flows.flows.items) c.in_ok-flows.flows.len long)
    (flow_from c.args.arcs.now c.args.s c.args.t c.in_ok-value.value flows c.requires.apart brings)

pub returns-clause-side : goal.returns-clause-side
returns-clause-side c =
    let l = c.send_greatest.new.layers in
    let side : c.in_ok-side.side.items ≡ reached_nodes l.level.items = rw (c.deref.ensures.value, take_rest l.level.items 1) at c.in_ok-side.ensures in
    rw side
    (ended_side c.args.arcs.now c.send_greatest.new.flows c.args.nodes c.args.s c.args.t c.in_ok-value.value l.level.items l.via.items
    c.requires.network c.requires.source c.requires.target c.requires.apart c.in_ok-value.ensures.brings c.in_ok-value.ensures.ended)

pub returns-clause-cut : goal.returns-clause-cut
returns-clause-cut c =
    let l = c.send_greatest.new.layers in
    let side : c.in_ok-side.side.items ≡ reached_nodes l.level.items = rw (c.deref.ensures.value, take_rest l.level.items 1) at c.in_ok-side.ensures in
    rw side
    (ended_cut c.args.arcs.now c.send_greatest.new.flows c.args.nodes c.args.s c.args.t c.in_ok-value.value l.level.items l.via.items
    c.requires.network c.requires.source c.requires.target c.requires.apart c.in_ok-value.ensures.brings c.in_ok-value.ensures.ended)
