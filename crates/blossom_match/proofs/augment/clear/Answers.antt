use Rattle.std.proofs.Common.{◌≡◌, refl, ap, ◌∙◌, length, drop, arith}
use Rattle.std.proofs.lemmas.List.{take_at}
use Rattle.blossom_match.proofs.Planting.{relabeled, replicate_free}
use Rattle.blossom_match.proofs.augment.clear.Goals as goal

pub returns-clause-between : goal.returns-clause-between
returns-clause-between c =
    let same : length c.free_all.new.label ≡ length c.args.state.now.label.items = c.free_all.auto.label ∙ ap length c.deref_mut.ensures.value in
    let is : length c.free_all.new.label ≡ c.args.state.now.label.len = omega (arith, same, c.args.state.now.label.ok.0) in
    relabeled c.args.costs.now c.args.state.now _ refl refl refl refl refl refl refl refl refl refl refl refl
    (rw (take_at c.free_all.new.label (drop (length c.free_all.new.label) c.args.state.now.label.items) c.args.state.now.label.len is) same) refl c.requires.between

pub returns-clause-treeless : goal.returns-clause-treeless
returns-clause-treeless c =
    let same : length c.free_all.new.label ≡ length c.args.state.now.label.items = c.free_all.auto.label ∙ ap length c.deref_mut.ensures.value in
    let is : length c.free_all.new.label ≡ c.args.state.now.label.len = omega (arith, same, c.args.state.now.label.ok.0) in
    λ s. rw (take_at c.free_all.new.label (drop (length c.free_all.new.label) c.args.state.now.label.items) c.args.state.now.label.len is, c.free_all.ensures)
    (replicate_free (length c.deref_mut.result.now) s)
