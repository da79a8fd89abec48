-- The decisions of an inner node are open where it may stand.
use Rattle.std.proofs.Common.{ℕ, List}
use Rattle.carp_base.specs.Problem.{Problem}
use Rattle.decision_chains.specs.declared.decision.Decision.{Decision}
use Rattle.branch_rules.specs.Trees.{first_of, second_of}
use Rattle.branch_rules.specs.declared.node.Node.{Node}
use Rattle.branch_rules.specs.declared.node.Node.TheVariants.{Pair, Cut, Price, Void, Fixed}
use Rattle.grown_trees.specs.Laws.{IsOpenDecision}
use Rattle.branch_tree.specs.Leaves.{IsSplitNode}

module _ (p : Problem) (pool : List (List ℕ)) (branch : List Decision) where
  pub first_open : (node : Node) → IsSplitNode p pool branch node → IsOpenDecision p branch (first_of node)
  first_open (Pair a b) is = is.lean
  first_open (Cut shore k) is = tt
  first_open (Price set) is = absurd is.inner
  first_open Void is = absurd is.inner
  first_open Fixed is = absurd is.inner

  pub second_open : (node : Node) → IsSplitNode p pool branch node → IsOpenDecision p branch (second_of node)
  second_open (Pair a b) is = is.lean
  second_open (Cut shore k) is = tt
  second_open (Price set) is = absurd is.inner
  second_open Void is = absurd is.inner
  second_open Fixed is = absurd is.inner
