use Rattle.std.proofs.Common.{◌≡◌, ◌<◌, ◌+◌, ◌-◌, ◌*◌, ◌++◌, ◌∙◌, ap, arith, length, take, drop}
use Rattle.std.proofs.lemmas.List.{get_or_read}
use Rattle.blossom_match.specs.Views.{holds}
use Rattle.blossom_match.specs.Unfolded.{listed}
use Rattle.blossom_match.proofs.Selecting.{picked_as, row_listed}
use Rattle.blossom_match.proofs.picking.pick.Goals as goal

pub returns : goal.returns
returns c =
    let n = c.args.state.now.size in
    let held = c.args.state.now.held.items in
    let s_in : c.args.s < length c.args.state.now.halves.items = omega (arith, c.requires.s_in, c.requires.unfolded.shape.halves_len) in
    let lists : c.list_members.new.members.items ≡ c.args.sets.now.members.items ++ listed c.args.state.now.size (holds c.args.state.now.size c.args.state.now.held.items c.args.s) =
    c.in_ok-list_members.ensures
    ∙ ap (λ l. c.args.sets.now.members.items ++ l)
    (row_listed c.args.state.now.size c.args.s c.args.state.now.held.items (take ((c.args.s + 1) * c.args.state.now.size - c.args.s * c.args.state.now.size) (drop (c.args.s * c.args.state.now.size) c.deref.result.now))
    (ap (λ l. take ((c.args.s + 1) * c.args.state.now.size - c.args.s * c.args.state.now.size) (drop (c.args.s * c.args.state.now.size) l)) c.deref.ensures.value) c.requires.s_in c.requires.unfolded.shape.held_len) in
    picked_as c.args.state.now c.args.s c.len.result c.index.result.now c.args.sets.now.starts.items c.args.sets.now.members.items c.args.sets.now.weights.items _ _ _ c.requires.picked c.requires.some
    (get_or_read c.args.state.now.halves.items c.args.s c.index.result.now s_in c.index.ensures 0) lists (omega (arith, c.len.ensures, c.list_members.new.members.ok.0)) c.in_ok-push.ensures.items c.in_ok-push-2.ensures.items
