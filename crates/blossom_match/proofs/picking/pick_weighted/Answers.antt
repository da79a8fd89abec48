use Rattle.std.proofs.Common.{◌≡◌, ◌<◌, ◌+◌, ◌∙◌, sym, subst, arith, suc, length, slice_index}
use Rattle.std.proofs.lemmas.List.{get_or_read}
use Rattle.blossom_match.specs.Unfolded.{ArePicked}
use Rattle.blossom_match.proofs.Selecting.{skipped}
use Rattle.blossom_match.proofs.picking.pick_weighted.Goals as goal

pub returns-then-index-eq0 : goal.returns-then-index-eq0
returns-then-index-eq0 c =
    let s_in : c.args.s < length c.args.state.now.halves.items = omega (arith, c.requires.s_in, c.requires.unfolded.shape.halves_len) in
    let none : slice_index c.args.state.now.halves.items c.args.s ≡ 0 =
    sym (get_or_read c.args.state.now.halves.items c.args.s c.index.result.now s_in c.index.ensures 0) ∙ c.if-index-eq0.true in
    let more : suc c.args.s ≡ c.args.s + 1 = omega arith in
    subst (λ k. ArePicked c.args.state.now k c.args.sets.now.starts.items c.args.sets.now.members.items c.args.sets.now.weights.items) more
    (skipped c.args.state.now c.args.s c.args.sets.now.starts.items c.args.sets.now.members.items c.args.sets.now.weights.items c.requires.picked none)
