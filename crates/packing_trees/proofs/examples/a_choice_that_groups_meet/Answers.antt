use Rattle.std.proofs.Common.{◌≡◌, ℕ, arith}
use Rattle.packing_trees.specs.declared.node.PackChoice.TheVariants.{Together}
use Rattle.packing_trees.proofs.examples.a_choice_that_groups_meet.Goals as goal

pub returns-clause-branch : goal.returns-clause-branch
returns-clause-branch c = λ meets.
    let same : ◌≡◌ {A = ℕ} 1 2 = meets 0 (Together 1 3) (omega arith) in
    omega (arith, same)
