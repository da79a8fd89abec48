use Rattle.std.proofs.Common.{◌≡◌, ℕ, [], ◌∷◌, arith, inl, inr, refl}
use Rattle.packing_trees.specs.declared.node.PackChoice.TheVariants as choices
use Rattle.packing_trees.proofs.Naming.{named_bundles}
use Rattle.packing_trees.proofs.examples.a_way_along_choices.Goals as goal

pub returns-clause-bundled : goal.returns-clause-bundled
returns-clause-bundled c = record { way = 3 ∷ (2 ∷ []); leads = (inl (0, omega arith, refl), (inr (1, omega arith, refl), refl)) }

pub returns-clause-apart : goal.returns-clause-apart
returns-clause-apart c = λ bundled.
    let same : ◌≡◌ {A = ℕ} 1 2 = ((named_bundles (choices.Apart 1 2 ∷ [])).tells 1 2).1 bundled in
    omega (arith, same)
