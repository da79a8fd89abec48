-- A branch is fixed where it is not void and each pair of an edge and a later one is determined.
use Rattle.std.proofs.Common.{ℕ, ◌+◌, List, arith, inl, inr}
use Rattle.std.proofs.lemmas.Bool.{cases_lt, cases_eq}
use Rattle.carp_base.specs.Problem.{Problem, IsRequired}
use Rattle.decision_chains.specs.Exclusions.{same, IsDetermined}
use Rattle.decision_chains.specs.Laws.{YesPairsJoin, ExcludedIsSymmetric}
use Rattle.decision_chains.specs.declared.decision.Decision.{Decision}
use Rattle.branch_rules.specs.Decisions.{IsFixed, IsVoid}
use Rattle.branch_tree.specs.Splits.{AreSettledBelow}

module _ (joins : YesPairsJoin) (turns : ExcludedIsSymmetric) (p : Problem) (pool : List (List ℕ)) (branch : List Decision) (settled : AreSettledBelow p branch (p.required + 1)) where
  turned : (a b : ℕ) → IsDetermined p branch a b → IsDetermined p branch b a
  turned a b (inl said) = inl (joins.yes_turned branch a b said)
  turned a b (inr out) = inr (turns p branch a b out)

  each : (a b : ℕ) → IsRequired p a → IsRequired p b → IsDetermined p branch a b
  each a b is_a is_b = elim (cases_lt a b) [
    | inl less ↦ settled a b is_a is_b (omega (arith, is_a.in_range)) less
    | inr most ↦ elim (cases_eq a b) [
      | inl equal ↦ inr (same equal)
      | inr other ↦ turned b a (settled b a is_b is_a (omega (arith, is_b.in_range)) (omega (arith, most, other)))
    ]
  ]

  pub is_fixed : ¬ (IsVoid p pool branch) → IsFixed p pool branch
  is_fixed not_void = record { open_yet = not_void; settled = each }
