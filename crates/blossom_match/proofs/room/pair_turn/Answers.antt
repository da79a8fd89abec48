use Rattle.std.proofs.Common.{◌≡◌, ◌<◌, ◌∙◌, ap, arith, length}
use Rattle.std.proofs.lemmas.List.{get_or_read}
use Rattle.blossom_match.specs.Turns.{top_of, label_of}
use Rattle.blossom_match.specs.declared.state.Label.TheVariants.{Free}
use Rattle.blossom_match.proofs.Limits.{no_outer}
use Rattle.blossom_match.proofs.room.pair_turn.Goals as goal

pub returns-in_default-clause-keeps : goal.returns-in_default-clause-keeps
returns-in_default-clause-keeps c =
    let so_far = c.requires.searching.so_far in
    let u_in : c.args.u < length c.args.state.now.top.items = omega (arith, c.requires.u_in, so_far.shape.top_len) in
    let node : c.index-3.result.now ≡ top_of c.args.state.now c.args.u = get_or_read c.args.state.now.top.items c.args.u c.index-3.result.now u_in c.index-3.ensures 0 in
    let node_in : c.index-3.result.now < length c.args.state.now.label.items = omega (arith, node, so_far.tops.top_in c.args.u c.requires.u_in, so_far.shape.label_len) in
    let at : c.index-4.result.now ≡ label_of c.args.state.now c.index-3.result.now = get_or_read c.args.state.now.label.items c.index-3.result.now c.index-4.result.now node_in c.index-4.ensures Free in
    no_outer c.args.costs.now c.args.state.now _ c.args.u c.args.v (λ outer. c.in_default.not-Outer (at ∙ ap (λ x. label_of c.args.state.now x) node ∙ outer))
