use Rattle.std.proofs.Common.{◌≡◌, ◌<◌, ◌∙◌, ap, subst, arith, length, slice_index}
use Rattle.std.proofs.lemmas.List.{get_or_read}
use Rattle.blossom_match.specs.declared.state.Label.TheVariants.{Free}
use Rattle.blossom_match.specs.Turns.{top_of, label_of}
use Rattle.blossom_match.specs.Rooms.{IsBounded, IsBoundBy}
use Rattle.blossom_match.proofs.Limits.{pair_less}
use Rattle.blossom_match.proofs.Bounding.{rooms_bound, bounded_pair}
use Rattle.blossom_match.proofs.rooms.try_member.Goals as goal

pub returns-then-is_bounded-clause-keeps : goal.returns-then-is_bounded-clause-keeps
returns-then-is_bounded-clause-keeps c =
    let so_far = c.requires.searching.so_far in
    let v_in : c.args.v < length c.args.state.now.top.items = omega (arith, c.requires.v_in, so_far.shape.top_len) in
    let node : c.index.result.now ≡ top_of c.args.state.now c.args.v = get_or_read c.args.state.now.top.items c.args.v c.index.result.now v_in c.index.ensures 0 in
    let node_in : c.index.result.now < length c.args.state.now.label.items = omega (arith, node, so_far.tops.top_in c.args.v c.requires.v_in, so_far.shape.label_len) in
    let label : c.index-label.result.now ≡ label_of c.args.state.now (top_of c.args.state.now c.args.v) =
    get_or_read c.args.state.now.label.items c.index.result.now c.index-label.result.now node_in c.index-label.ensures Free ∙ ap (λ s. label_of c.args.state.now s) node in
    λ u u_in. bounded_pair c.args.costs.now c.args.state.now u c.args.v c.args.found c.args.known.now c.args.least.now u_in c.requires.v_in c.requires.rooms c.requires.all
    (subst (λ l. IsBounded l (slice_index c.args.least.now c.args.v) c.args.found) label (c.is_bounded.ensures c.if-is_bounded.true))

pub returns-clause-keeps : goal.returns-clause-keeps
returns-clause-keeps c = λ u u_in. pair_less c.args.costs.now c.args.state.now _ _ _ _ c.lesser.ensures.second (c.least_pair_to-exact.ensures.keeps u u_in)

pub returns-clause-rooms : goal.returns-clause-rooms
returns-clause-rooms c =
    let so_far = c.requires.searching.so_far in
    let v_in : c.args.v < length c.args.state.now.top.items = omega (arith, c.requires.v_in, so_far.shape.top_len) in
    let node : c.index.result.now ≡ top_of c.args.state.now c.args.v = get_or_read c.args.state.now.top.items c.args.v c.index.result.now v_in c.index.ensures 0 in
    let node_in : c.index.result.now < length c.args.state.now.label.items = omega (arith, node, so_far.tops.top_in c.args.v c.requires.v_in, so_far.shape.label_len) in
    let label : c.index-label.result.now ≡ label_of c.args.state.now (top_of c.args.state.now c.args.v) =
    get_or_read c.args.state.now.label.items c.index.result.now c.index-label.result.now node_in c.index-label.ensures Free ∙ ap (λ s. label_of c.args.state.now s) node in
    rooms_bound c.args.costs.now c.args.state.now c.args.v c.bound_by.result c.least_pair_to-exact.result c.args.known.now c.args.least.now c.requires.v_in c.requires.rooms
    (subst (λ l. IsBoundBy l (slice_index c.args.least.now c.args.v) c.bound_by.result c.least_pair_to-exact.result) label c.bound_by.ensures) c.least_pair_to-exact.ensures.keeps
