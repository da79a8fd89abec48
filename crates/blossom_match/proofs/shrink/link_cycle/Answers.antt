use Rattle.std.proofs.Common.{length}
use Rattle.blossom_match.specs.Turns.{top_of}
use Rattle.blossom_match.proofs.Forking.{arms_of, fork_of}
use Rattle.blossom_match.proofs.shrink.link_cycle.Goals as goal

pub close_links-requires-clause-fork : goal.close_links-requires-clause-fork
close_links-requires-clause-fork c =
    let shape = c.requires.forked.searching.so_far.shape in
    rw (c.deref.ensures.value, c.deref-2.ensures.value, c.deref_mut.ensures.value)
    (fork_of c.args.costs.now c.args.state.now c.requires.forked.searching.tree.depth (top_of c.args.state.now c.args.u) (top_of c.args.state.now c.args.v) c.args.join.node c.args.join.one c.args.join.other
    (length c.args.state.now.next.items)
    (arms_of c.args.costs.now c.args.state.now c.args.u c.args.v c.args.join.node c.args.join.one c.args.join.other (record { table = c.requires.asked.table; forked = c.requires.forked; join = c.requires.join }))
    shape.next_len shape.top_len)
