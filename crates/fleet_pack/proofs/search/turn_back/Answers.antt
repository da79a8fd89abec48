use Rattle.std.proofs.Common.{◌++◌, ◌∷◌, [], ap, sym, subst, ◌∙◌}
use Rattle.packing_trees.specs.declared.node.PackChoice.{PackChoice}
use Rattle.fleet_pack.specs.States.{IsBack}
use Rattle.fleet_pack.proofs.Stepping.{past_apart, back_at}
use Rattle.fleet_pack.proofs.search.turn_back.Goals as goal

pub returns-in-Together : goal.returns-in-Together
returns-in-Together c =
    subst (IsBack c.args.path.now.items) (sym c.in_ok-push.ensures.items)
    (back_at c.args.path.now.items c.loop-choice.path.items c.pop.new.self.items c.in-Together.a c.in-Together.b c.loop-choice.invariant
    (c.in-Some.ensures.items ∙ ap (λ (x : PackChoice). c.pop.new.self.items ++ x ∷ []) c.in-Together.is))

pub loop-choice-preserved : goal.loop-choice-preserved
loop-choice-preserved c =
    past_apart c.loop-choice.path.items c.pop.new.self.items c.in_default-choice.field-0 c.in_default-choice.field-1
    (c.in-Some.ensures.items ∙ ap (λ (x : PackChoice). c.pop.new.self.items ++ x ∷ []) c.in_default-choice.is)
    ∙ c.loop-choice.invariant
