use Rattle.std.proofs.Common.{refl, inl, inr, arith}
use Rattle.branch_rules.proofs.SmallTrees.{crossed_now, town_shows, town_shows_above}
use Rattle.branch_rules.proofs.examples.a_lean_tree.Goals as goal

pub returns-clause-closed : goal.returns-clause-closed
returns-clause-closed c = inl (town_shows, refl)

pub returns-clause-inner : goal.returns-clause-inner
returns-clause-inner c = (1, 1, inl (crossed_now, refl), inl (town_shows_above, refl), refl)

pub returns-clause-a_turn_too_few : goal.returns-clause-a_turn_too_few
returns-clause-a_turn_too_few c = λ turns. elim turns.2 [
  | inl void ↦ elim turns.3 [
    | inl priced ↦ absurd (omega (arith, void.1, priced.1, turns.4))
    | inr none ↦ absurd (none.0 town_shows_above)
  ]
  | inr none ↦ absurd (none.0 crossed_now)
]
