use Rattle.std.proofs.Common.{◌≡◌, ◌<◌, ◌∙◌, sym, arith, length}
use Rattle.std.proofs.lemmas.List.{get_or_read}
use Rattle.blossom_match.specs.Turns.{top_of, label_of}
use Rattle.blossom_match.specs.declared.state.Label.TheVariants.{Free, Outer}
use Rattle.blossom_match.proofs.Limits.{sums_pack, meet_at_half}
use Rattle.blossom_match.proofs.room.outer_turn.Goals as goal

pub room-requires-clause-packs : goal.room-requires-clause-packs
room-requires-clause-packs c = sums_pack c.args.costs.now c.args.state.now c.args.u c.args.v c.requires.searching.so_far c.requires.u_in c.requires.v_in c.requires.apart

pub room-requires-in-Free-clause-packs : goal.room-requires-in-Free-clause-packs
room-requires-in-Free-clause-packs c = sums_pack c.args.costs.now c.args.state.now c.args.u c.args.v c.requires.searching.so_far c.requires.u_in c.requires.v_in c.requires.apart

pub returns-in-Outer-clause-happens : goal.returns-in-Outer-clause-happens
returns-in-Outer-clause-happens c =
    let so_far = c.requires.searching.so_far in
    let v_in : c.args.v < length c.args.state.now.top.items = omega (arith, c.requires.v_in, so_far.shape.top_len) in
    let node : c.index.result.now ≡ top_of c.args.state.now c.args.v = get_or_read c.args.state.now.top.items c.args.v c.index.result.now v_in c.index.ensures 0 in
    let node_in : c.index.result.now < length c.args.state.now.label.items = omega (arith, node, so_far.tops.top_in c.args.v c.requires.v_in, so_far.shape.label_len) in
    let at : c.index-2.result.now ≡ label_of c.args.state.now c.index.result.now = get_or_read c.args.state.now.label.items c.index.result.now c.index-2.result.now node_in c.index-2.ensures Free in
    let outer : label_of c.args.state.now (top_of c.args.state.now c.args.v) ≡ Outer = rw node at (sym at ∙ c.in-Outer.is) in
    meet_at_half c.args.costs.now c.args.state.now c.room.result c.args.u c.args.v c.requires.searching c.requires.u_in c.requires.v_in c.requires.apart c.requires.outer outer c.room.ensures
