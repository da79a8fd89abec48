use Rattle.std.proofs.Common.{◌≡◌, ◌<◌, ◌∙◌, sym, arith, length}
use Rattle.std.proofs.lemmas.List.{get_or_read}
use Rattle.blossom_match.specs.Turns.{top_of}
use Rattle.blossom_match.proofs.Limits.{sums_pack}
use Rattle.blossom_match.proofs.rooms.bound_with.Goals as goal

pub room-room-requires-clause-packs : goal.room-room-requires-clause-packs
room-room-requires-clause-packs c =
    let shape = c.requires.searching.so_far.shape in
    let u_in : c.args.u < length c.args.state.now.top.items = omega (arith, c.requires.u_in, shape.top_len) in
    let v_in : c.args.v < length c.args.state.now.top.items = omega (arith, c.requires.v_in, shape.top_len) in
    let at_u : c.index.result.now ≡ top_of c.args.state.now c.args.u = get_or_read c.args.state.now.top.items c.args.u c.index.result.now u_in c.index.ensures 0 in
    let at_v : c.index-2.result.now ≡ top_of c.args.state.now c.args.v = get_or_read c.args.state.now.top.items c.args.v c.index-2.result.now v_in c.index-2.ensures 0 in
    sums_pack c.args.costs.now c.args.state.now c.args.u c.args.v c.requires.searching.so_far c.requires.u_in c.requires.v_in (λ same. c.if-index.false (at_u ∙ same ∙ sym at_v))
