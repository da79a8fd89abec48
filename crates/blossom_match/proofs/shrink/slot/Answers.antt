use Rattle.std.proofs.Common.{◌≡◌, ◌<◌, ◌∙◌, ap, arith, length, slice_index}
use Rattle.std.proofs.lemmas.List.{get_or_read}
use Rattle.blossom_match.specs.Turns.{top_of}
use Rattle.blossom_match.proofs.Retracing.{foot_of}
use Rattle.blossom_match.proofs.shrink.slot.Goals as goal

pub index-part-requires : goal.index-part-requires
index-part-requires c =
    let f = foot_of c.args.costs.now c.args.state.now c.args.u c.args.v c.args.join.node c.args.join.one c.args.join.other c.foot-member.result
    (record { table = c.requires.asked.table; forked = c.requires.forked; join = c.requires.join }) c.foot-member.ensures.one c.foot-member.ensures.other in
    omega (arith, f.member_in, c.requires.forked.searching.so_far.shape.top_len, c.args.state.now.top.ok.0)

pub index-base-requires : goal.index-base-requires
index-base-requires c =
    let f = foot_of c.args.costs.now c.args.state.now c.args.u c.args.v c.args.join.node c.args.join.one c.args.join.other c.foot-member.result
    (record { table = c.requires.asked.table; forked = c.requires.forked; join = c.requires.join }) c.foot-member.ensures.one c.foot-member.ensures.other in
    let shape = c.requires.forked.searching.so_far.shape in
    let member_in : c.foot-member.result < length c.args.state.now.top.items = omega (arith, f.member_in, shape.top_len) in
    let part : c.index-part.result.now ≡ top_of c.args.state.now c.foot-member.result = get_or_read c.args.state.now.top.items c.foot-member.result c.index-part.result.now member_in c.index-part.ensures 0 in
    omega (arith, part, f.node_in, shape.base_len, c.args.state.now.base.ok.0)

pub overflow_add-result : goal.overflow_add-result
overflow_add-result c =
    let f = foot_of c.args.costs.now c.args.state.now c.args.u c.args.v c.args.join.node c.args.join.one c.args.join.other c.foot-member.result
    (record { table = c.requires.asked.table; forked = c.requires.forked; join = c.requires.join }) c.foot-member.ensures.one c.foot-member.ensures.other in
    let shape = c.requires.forked.searching.so_far.shape in
    let member_in : c.foot-member.result < length c.args.state.now.top.items = omega (arith, f.member_in, shape.top_len) in
    let part : c.index-part.result.now ≡ top_of c.args.state.now c.foot-member.result = get_or_read c.args.state.now.top.items c.foot-member.result c.index-part.result.now member_in c.index-part.ensures 0 in
    let part_in : c.index-part.result.now < length c.args.state.now.base.items = omega (arith, part, f.node_in, shape.base_len) in
    let base : c.index-base.result.now ≡ slice_index c.args.state.now.base.items (top_of c.args.state.now c.foot-member.result) =
    get_or_read c.args.state.now.base.items c.index-part.result.now c.index-base.result.now part_in c.index-base.ensures 0 ∙ ap (λ x. slice_index c.args.state.now.base.items x) part in
    omega (arith, base, f.slot.in_slots, shape.size_is, c.requires.asked.table.few)

pub returns : goal.returns
returns c =
    let f = foot_of c.args.costs.now c.args.state.now c.args.u c.args.v c.args.join.node c.args.join.one c.args.join.other c.foot-member.result
    (record { table = c.requires.asked.table; forked = c.requires.forked; join = c.requires.join }) c.foot-member.ensures.one c.foot-member.ensures.other in
    let shape = c.requires.forked.searching.so_far.shape in
    let member_in : c.foot-member.result < length c.args.state.now.top.items = omega (arith, f.member_in, shape.top_len) in
    let part : c.index-part.result.now ≡ top_of c.args.state.now c.foot-member.result = get_or_read c.args.state.now.top.items c.foot-member.result c.index-part.result.now member_in c.index-part.ensures 0 in
    let part_in : c.index-part.result.now < length c.args.state.now.base.items = omega (arith, part, f.node_in, shape.base_len) in
    let base : c.index-base.result.now ≡ slice_index c.args.state.now.base.items (top_of c.args.state.now c.foot-member.result) =
    get_or_read c.args.state.now.base.items c.index-part.result.now c.index-base.result.now part_in c.index-base.ensures 0 ∙ ap (λ x. slice_index c.args.state.now.base.items x) part in
    rw base f.slot
