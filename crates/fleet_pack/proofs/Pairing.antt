-- Open pairs, row by row.
use Rattle.std.proofs.Common.{ℕ, ◌+◌, ◌<◌, List, sym, subst, arith, inl, inr, Option, Some, None}
use Rattle.std.proofs.lemmas.Bool.{cases_eq}
use Rattle.carp_base.specs.Problem.{Problem}
use Rattle.packing_trees.specs.declared.node.PackChoice.{PackChoice}
use Rattle.packing_trees.specs.Bundles.{IsPair, IsClosedPair}
use Rattle.fleet_pack.specs.declared.pairs.OpenPair.{OpenPair}
use Rattle.fleet_pack.specs.States.{FindsBefore, FindsOneMore, FindsOpen}

pub one_more : (p : Problem) (branch : List PackChoice) (a b : ℕ) (before after : Option OpenPair) → IsPair p a b → FindsBefore p branch a b before → FindsOneMore p branch a b before after →
    FindsBefore p branch a (b + 1) after
one_more p branch a b before None pair finds more =
    let old = subst (FindsBefore p branch a b) more.0 finds in
    λ c d within here. elim here [
      | inl less ↦ old c d within (inl less)
      | inr row ↦ elim (cases_eq d b) [
        | inl same ↦ subst (λ x. IsClosedPair p branch x d) (sym row.0) (subst (IsClosedPair p branch a) (sym same) more.1)
        | inr other ↦ old c d within (inr (row.0, omega (arith, row.1, other)))
      ]
    ]
one_more p branch a b before (Some found) pair finds (inl is) = subst (FindsBefore p branch a b) is finds
one_more p branch a b before (Some found) pair finds (inr new) = (
  subst (λ x. IsPair p x found.b) (sym new.0) (subst (IsPair p a) (sym new.1) pair),
  λ closed. new.2 (subst (λ x. IsClosedPair p branch x b) new.0 (subst (IsClosedPair p branch found.a) new.1 closed)),
)

pub next_row : (p : Problem) (branch : List PackChoice) (a : ℕ) (found : Option OpenPair) → FindsBefore p branch a (p.required + 1) found → FindsBefore p branch (a + 1) (a + 1 + 1) found
next_row p branch a None finds = λ c d within here. elim here [
  | inl less ↦ elim (cases_eq c a) [
    | inl same ↦ finds c d within (inr (same, omega (arith, within.2)))
    | inr other ↦ finds c d within (inl (omega (arith, less, other)))
  ]
  | inr row ↦ absurd (omega (arith, row.0, row.1, within.1))
]
next_row p branch a (Some found) finds = finds

pub all_rows : (p : Problem) (branch : List PackChoice) (a b : ℕ) (found : Option OpenPair) → p.required < a → FindsBefore p branch a b found → FindsOpen p branch found
all_rows p branch a b None past finds = λ c d within. finds c d within (inl (omega (arith, within.1, within.2, past)))
all_rows p branch a b (Some found) past finds = finds

pub no_row : (p : Problem) (branch : List PackChoice) → FindsBefore p branch 1 2 None
no_row p branch = λ c d within here. elim here [
  | inl less ↦ absurd (omega (arith, less, within.0))
  | inr row ↦ absurd (omega (arith, row.0, row.1, within.1))
]
