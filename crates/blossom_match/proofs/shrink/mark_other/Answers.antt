use Rattle.std.proofs.Common.{◌≡◌, ◌<◌, arith, length}
use Rattle.std.proofs.lemmas.List.{get_or_read}
use Rattle.blossom_match.specs.Turns.{top_of}
use Rattle.blossom_match.proofs.Forking.{way_up}
use Rattle.blossom_match.proofs.shrink.mark_other.Goals as goal

pub mark-requires-clause-up : goal.mark-requires-clause-up
mark-requires-clause-up c =
    let shape = c.requires.searching.so_far.shape in
    let from_in : c.args.v < length c.args.state.now.top.items = omega (arith, c.requires.v_in, shape.top_len) in
    let root_in : c.args.state.now.root < length c.args.state.now.top.items = omega (arith, c.requires.searching.tree.root_in, shape.top_len) in
    let from : c.index-from.result.now ≡ top_of c.args.state.now c.args.v = get_or_read c.args.state.now.top.items c.args.v c.index-from.result.now from_in c.index-from.ensures 0 in
    let root : c.index-root.result.now ≡ top_of c.args.state.now c.args.state.now.root =
    get_or_read c.args.state.now.top.items c.args.state.now.root c.index-root.result.now root_in c.index-root.ensures 0 in
    rw (c.deref.ensures.value, c.deref-2.ensures.value, from, root) (way_up c.args.costs.now c.args.state.now c.args.v c.requires.searching c.requires.aimed c.requires.outer)
