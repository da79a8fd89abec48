use Rattle.blossom_match.specs.Ways.{on_cycle}
use Rattle.blossom_match.proofs.Rooting.{shrunk_searching, shrunk_less, shrunk_keeps, shrunk_growth}
use Rattle.blossom_match.proofs.Retracing.{shrunk_by, less_since, same_keeps, same_growth}
use Rattle.blossom_match.proofs.Turning.{root_trans}
use Rattle.blossom_match.proofs.shrink.shrink.Goals as goal

pub gather-requires-clause-top_in : goal.gather-requires-clause-top_in
gather-requires-clause-top_in c = rw (c.link_cycle.ensures.relinked.top, c.link_cycle.ensures.relinked.size) c.fork.ensures.forked.searching.so_far.tops.top_in

pub returns-clause-searching : goal.returns-clause-searching
returns-clause-searching c =
    shrunk_searching c.args.costs.now c.fork.new.state c.found.new.state (on_cycle c.fork.new.state.one_way.items c.fork.new.state.other_way.items c.meeting-join.result.one c.meeting-join.result.other)
    c.slot-whole.result c.meeting-join.result.node
    (shrunk_by c.args.costs.now c.fork.new.state c.link_cycle.new.state c.gather.new.state c.found.new.state c.args.u c.args.v c.meeting-join.result.node c.meeting-join.result.one c.meeting-join.result.other c.slot-whole.result
    (record { table = c.requires.asked.table; forked = c.fork.ensures.forked; join = c.meeting-join.ensures })
    c.slot-whole.ensures c.link_cycle.ensures.closed c.link_cycle.ensures.relinked c.gather.ensures c.found.ensures)

pub returns-clause-less : goal.returns-clause-less
returns-clause-less c =
    less_since c.args.state.now c.fork.new.state c.found.new.state c.fork.ensures.same
    (shrunk_less c.args.costs.now c.fork.new.state c.found.new.state (on_cycle c.fork.new.state.one_way.items c.fork.new.state.other_way.items c.meeting-join.result.one c.meeting-join.result.other)
    c.slot-whole.result c.meeting-join.result.node
    (shrunk_by c.args.costs.now c.fork.new.state c.link_cycle.new.state c.gather.new.state c.found.new.state c.args.u c.args.v c.meeting-join.result.node c.meeting-join.result.one c.meeting-join.result.other c.slot-whole.result
    (record { table = c.requires.asked.table; forked = c.fork.ensures.forked; join = c.meeting-join.ensures })
    c.slot-whole.ensures c.link_cycle.ensures.closed c.link_cycle.ensures.relinked c.gather.ensures c.found.ensures))

pub returns-clause-keeps : goal.returns-clause-keeps
returns-clause-keeps c =
    root_trans c.args.state.now c.fork.new.state c.found.new.state (same_keeps c.args.state.now c.fork.new.state c.fork.ensures.same)
    (shrunk_keeps c.args.costs.now c.fork.new.state c.found.new.state (on_cycle c.fork.new.state.one_way.items c.fork.new.state.other_way.items c.meeting-join.result.one c.meeting-join.result.other)
    c.slot-whole.result c.meeting-join.result.node
    (shrunk_by c.args.costs.now c.fork.new.state c.link_cycle.new.state c.gather.new.state c.found.new.state c.args.u c.args.v c.meeting-join.result.node c.meeting-join.result.one c.meeting-join.result.other c.slot-whole.result
    (record { table = c.requires.asked.table; forked = c.fork.ensures.forked; join = c.meeting-join.ensures })
    c.slot-whole.ensures c.link_cycle.ensures.closed c.link_cycle.ensures.relinked c.gather.ensures c.found.ensures))

pub returns-clause-growth : goal.returns-clause-growth
returns-clause-growth c =
    same_growth c.args.state.now c.fork.new.state c.found.new.state c.fork.ensures.same
    (shrunk_growth c.args.costs.now c.fork.new.state c.found.new.state (on_cycle c.fork.new.state.one_way.items c.fork.new.state.other_way.items c.meeting-join.result.one c.meeting-join.result.other)
    c.slot-whole.result c.meeting-join.result.node
    (shrunk_by c.args.costs.now c.fork.new.state c.link_cycle.new.state c.gather.new.state c.found.new.state c.args.u c.args.v c.meeting-join.result.node c.meeting-join.result.one c.meeting-join.result.other c.slot-whole.result
    (record { table = c.requires.asked.table; forked = c.fork.ensures.forked; join = c.meeting-join.ensures })
    c.slot-whole.ensures c.link_cycle.ensures.closed c.link_cycle.ensures.relinked c.gather.ensures c.found.ensures))
