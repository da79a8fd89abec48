use Rattle.std.proofs.Common.{◌≡◌, ◌∙◌, IfOk, sym, subst}
use Rattle.carp_base.specs.Problem.{IsValid}
use Rattle.town_maker.proofs.Soundness.{drawn_town}
use Rattle.town_maker.proofs.maker.town.Goals as goal

pub build-requires : goal.build-requires
build-requires c =
    let is =
    drawn_town _ _ _ _ _ _ _ _ _ _ (c.deref.ensures.value ∙ c.in_ok-streets.ensures) c.new-words.ensures c.new-required.ensures.items c.new-others.ensures.items
    (c.deref-2.ensures.value ∙ c.in_ok-draw_edges.ensures.required) (c.deref-3.ensures.value ∙ c.in_ok-draw_edges.ensures.others) c.in_ok-draw_edges.ensures.words
    c.draw_from-depot.ensures in
    subst IsValid (sym is) (c.towns_are_valid.ensures c.args.seed)

pub returns : goal.returns
returns c =
    let is =
    drawn_town _ _ _ _ _ _ _ _ _ _ (c.deref.ensures.value ∙ c.in_ok-streets.ensures) c.new-words.ensures c.new-required.ensures.items c.new-others.ensures.items
    (c.deref-2.ensures.value ∙ c.in_ok-draw_edges.ensures.required) (c.deref-3.ensures.value ∙ c.in_ok-draw_edges.ensures.others) c.in_ok-draw_edges.ensures.words
    c.draw_from-depot.ensures in
    subst (λ p. IfOk c.build.result (λ inst. inst ≡ p)) is c.build.ensures
