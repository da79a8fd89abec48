use Rattle.std.proofs.Common.{◌≤◌, List, length, ap, refl, arith, inl, inr, pos}
use Rattle.deadhead_paths.specs.Examples.{town}
use Rattle.branch_rules.specs.Bonds.{GroupWeight, IsGroup}
use Rattle.branch_rules.specs.Examples.{row}
use Rattle.dual_master.proofs.examples.groups_of_a_raised_set.Goals as goal

pub returns-clause-of_the_start : goal.returns-clause-of_the_start
returns-clause-of_the_start c = inl refl

pub returns-clause-of_neither : goal.returns-clause-of_neither
returns-clause-of_neither c = λ is. elim is [
  | inl same ↦ absurd (omega (arith, ap (λ (ws : List GroupWeight). length ws) same))
  | inr groups ↦
      let group : IsGroup town row = groups 0 (record { edges = row; weight = pos 3 }) (omega arith) in
      let second : 2 ≤ 1 = (group.required 1 0 (omega arith)).in_range in
      absurd (omega (arith, second))
]
