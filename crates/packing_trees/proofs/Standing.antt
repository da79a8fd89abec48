-- Nodes that are as they should be are those of a tree that is right, and of the others one is the first to fail.
use Rattle.std.proofs.Common.{◌≡◌, ℕ, suc, ◌+◌, List, [], ◌∷◌, ◌++◌, length, sym, ◌∙◌, subst, arith, append_assoc, append-nil, length-append, inl, inr}
use Rattle.std.specs.List.{All}
use Rattle.std.proofs.lemmas.List.Elements.{All-append, All-cons, All-nil}
use Rattle.std.proofs.lemmas.List.{get_or_append_left, get_or-append-add}
use Rattle.carp_base.specs.Problem.{Problem}
use Rattle.packing_trees.specs.declared.node.PackChoice.{PackChoice}
use Rattle.packing_trees.specs.declared.node.PackChoice.TheVariants as choices
use Rattle.packing_trees.specs.declared.node.PackNode.{PackNode}
use Rattle.packing_trees.specs.declared.node.PackNode.TheVariants.{Pair, Share, Apart}
use Rattle.packing_trees.specs.declared.reason.PackReason.{PackReason}
use Rattle.packing_trees.specs.declared.reason.PackReason.TheVariants.{NotLean, ShareWrong, NotApart, LeafLow}
use Rattle.packing_trees.specs.Trees.{PackTree, pair, share, settled, preorder, PairsIn, IsLean, Shows, IsPackProof}
use Rattle.packing_trees.specs.Reasons.{AreWhole, FirstNodeFails, NodeFails, NodeFits, NodeIsRight, branches_below}
use Rattle.packing_trees.specs.Layers.{AreRight}

-- The pairs of a tree and of its nodes.
all_first : {X : Type 0} (P : X → Type 0) (xs ys : List X) → All P (xs ++ ys) → All P xs
all_first P xs ys all k d less = subst P (get_or_append_left xs ys d k less) (all k d (simp length-append (omega (arith, less))))

all_last : {X : Type 0} (P : X → Type 0) (xs ys : List X) → All P (xs ++ ys) → All P ys
all_last P xs ys all k d less = subst P (get_or-append-add xs ys k d) (all (length xs + k) d (simp length-append (omega (arith, less))))

all_rest : {X : Type 0} (P : X → Type 0) (x : X) (xs : List X) → All P (x ∷ xs) → All P xs
all_rest P x xs all k d less = all (suc k) d (omega (arith, less))

module _ (p : Problem) where
  pairs_from : (tree : PackTree) → All (NodeFits p) (preorder tree) → PairsIn p tree
  pairs_from (pair a b t u) fits =
      let rest = all_rest (NodeFits p) (Pair a b) (preorder t ++ preorder u) fits in (
        fits 0 Apart (omega arith),
        pairs_from t (all_first (NodeFits p) (preorder t) (preorder u) rest),
        pairs_from u (all_last (NodeFits p) (preorder t) (preorder u) rest),
      )
  pairs_from (share s) fits = tt
  pairs_from settled fits = tt

  pairs_to : (tree : PackTree) → PairsIn p tree → All (NodeFits p) (preorder tree)
  pairs_to (pair a b t u) pairs =
      All-cons (NodeFits p) (Pair a b) (preorder t ++ preorder u) pairs.0 (All-append (NodeFits p) (preorder t) (preorder u) (pairs_to t pairs.1) (pairs_to u pairs.2))
  pairs_to (share s) pairs = All-cons (NodeFits p) (Share s) [] tt (All-nil (NodeFits p))
  pairs_to settled pairs = All-cons (NodeFits p) Apart [] tt (All-nil (NodeFits p))

  -- A tree is right exactly where its nodes are.
  module _ (bound : ℕ) where
    right_from : (tree : PackTree) (more : List PackNode) (branch : List PackChoice) (waiting : List (List PackChoice)) → AreRight p bound (preorder tree ++ more) (branch ∷ waiting) →
        IsLean p branch tree × Shows p branch bound tree × AreRight p bound more waiting
    right_from (pair a b t u) more branch waiting right =
        let all : AreRight p bound (preorder t ++ (preorder u ++ more)) ((branch ++ choices.Together a b ∷ []) ∷ ((branch ++ choices.Apart a b ∷ []) ∷ waiting)) =
        subst (λ (xs : List PackNode). AreRight p bound xs ((branch ++ choices.Together a b ∷ []) ∷ ((branch ++ choices.Apart a b ∷ []) ∷ waiting))) (append_assoc (preorder t) (preorder u) more) right.1 in
        let first = right_from t (preorder u ++ more) (branch ++ choices.Together a b ∷ []) ((branch ++ choices.Apart a b ∷ []) ∷ waiting) all in
        let second = right_from u more (branch ++ choices.Apart a b ∷ []) waiting first.2 in
        ((right.0, first.0, second.0), (first.1, second.1), second.2)
    right_from (share s) more branch waiting right = (tt, right.0, right.1)
    right_from settled more branch waiting right = (tt, right.0, right.1)

    right_to : (tree : PackTree) (more : List PackNode) (branch : List PackChoice) (waiting : List (List PackChoice)) → IsLean p branch tree → Shows p branch bound tree → AreRight p bound more waiting →
        AreRight p bound (preorder tree ++ more) (branch ∷ waiting)
    right_to (pair a b t u) more branch waiting lean shows rest = (
      lean.0,
      subst (λ (xs : List PackNode). AreRight p bound xs ((branch ++ choices.Together a b ∷ []) ∷ ((branch ++ choices.Apart a b ∷ []) ∷ waiting))) (sym (append_assoc (preorder t) (preorder u) more))
          (right_to t (preorder u ++ more) (branch ++ choices.Together a b ∷ []) ((branch ++ choices.Apart a b ∷ []) ∷ waiting) lean.1 shows.0 (right_to u more (branch ++ choices.Apart a b ∷ []) waiting lean.2 shows.1 rest)),
    )
    right_to (share s) more branch waiting lean shows rest = (shows, rest)
    right_to settled more branch waiting lean shows rest = (shows, rest)

    pub proof_from : (nodes : List PackNode) → AreWhole nodes → All (NodeFits p) nodes → AreRight p bound nodes ([] ∷ []) → IsPackProof p nodes bound
    proof_from nodes whole fits right =
        let tree = whole.0 in
        let back : preorder tree ++ [] ≡ nodes = append-nil (preorder tree) ∙ whole.1 in
        let parts = right_from tree [] [] [] (subst (λ (xs : List PackNode). AreRight p bound xs ([] ∷ [])) (sym back) right) in
        record { tree = tree; nodes_are = whole.1; pairs = pairs_from tree (subst (λ (xs : List PackNode). All (NodeFits p) xs) (sym whole.1) fits); lean = parts.0; shows = parts.1 }

    pub right_where : (nodes : List PackNode) → IsPackProof p nodes bound → AreRight p bound nodes ([] ∷ [])
    right_where nodes proof = subst (λ (xs : List PackNode). AreRight p bound xs ([] ∷ [])) (append-nil (preorder proof.tree) ∙ proof.nodes_are) (right_to proof.tree [] [] [] proof.lean proof.shows tt)

    pub fits_where : (nodes : List PackNode) → IsPackProof p nodes bound → All (NodeFits p) nodes
    fits_where nodes proof = subst (λ (xs : List PackNode). All (NodeFits p) xs) proof.nodes_are (pairs_to proof.tree proof.pairs)

    -- A node fails in one way at most, and in none where it is right.
    right_or_not : (number : ℕ) (branch : List PackChoice) (node : PackNode) (r : PackReason) → NodeIsRight p bound branch node → NodeFails p bound number branch node r → ⊥
    right_or_not number branch (Pair a b) r right fails = right fails.0
    right_or_not number branch (Share s) r right (inl wrong) = omega (arith, right.0, wrong.0)
    right_or_not number branch (Share s) r right (inr low) = omega (arith, right.1, low.1)
    right_or_not number branch Apart r right (inl wrong) = wrong.0 right.0
    right_or_not number branch Apart r right (inr low) = omega (arith, right.1, low.1)

    fails_once : (number : ℕ) (branch : List PackChoice) (node : PackNode) (r q : PackReason) → NodeFails p bound number branch node r → NodeFails p bound number branch node q → r ≡ q
    fails_once number branch (Pair a b) r q one other = one.1 ∙ sym other.1
    fails_once number branch (Share s) r q (inl one) (inl other) = one.1 ∙ sym other.1
    fails_once number branch (Share s) r q (inl one) (inr other) = absurd (omega (arith, one.0, other.0))
    fails_once number branch (Share s) r q (inr one) (inl other) = absurd (omega (arith, one.0, other.0))
    fails_once number branch (Share s) r q (inr one) (inr other) = one.2 ∙ sym other.2
    fails_once number branch Apart r q (inl one) (inl other) = one.1 ∙ sym other.1
    fails_once number branch Apart r q (inl one) (inr other) = absurd (one.0 other.0)
    fails_once number branch Apart r q (inr one) (inl other) = absurd (other.0 one.0)
    fails_once number branch Apart r q (inr one) (inr other) = one.2 ∙ sym other.2

    pub nodes_right_or_not : (nodes : List PackNode) (number : ℕ) (waiting : List (List PackChoice)) (r : PackReason) → AreRight p bound nodes waiting → FirstNodeFails p bound number nodes waiting r → ⊥
    nodes_right_or_not [] number waiting r right fails = fails
    nodes_right_or_not (node ∷ nodes) number [] r right fails = fails
    nodes_right_or_not (node ∷ nodes) number (branch ∷ waiting) r right (inl here) = right_or_not number branch node r right.0 here
    nodes_right_or_not (node ∷ nodes) number (branch ∷ waiting) r right (inr later) = nodes_right_or_not nodes (number + 1) (branches_below branch node ++ waiting) r right.1 later.1

    pub nodes_fail_once : (nodes : List PackNode) (number : ℕ) (waiting : List (List PackChoice)) (r q : PackReason) → FirstNodeFails p bound number nodes waiting r → FirstNodeFails p bound number nodes waiting q → r ≡ q
    nodes_fail_once [] number waiting r q one other = absurd one
    nodes_fail_once (node ∷ nodes) number [] r q one other = absurd one
    nodes_fail_once (node ∷ nodes) number (branch ∷ waiting) r q (inl one) (inl other) = fails_once number branch node r q one other
    nodes_fail_once (node ∷ nodes) number (branch ∷ waiting) r q (inl one) (inr other) = absurd (right_or_not number branch node r other.0 one)
    nodes_fail_once (node ∷ nodes) number (branch ∷ waiting) r q (inr one) (inl other) = absurd (right_or_not number branch node q one.0 other)
    nodes_fail_once (node ∷ nodes) number (branch ∷ waiting) r q (inr one) (inr other) = nodes_fail_once nodes (number + 1) (branches_below branch node ++ waiting) r q one.1 other.1

-- The reasons of nodes.
abbrev pub IsOfNode : PackReason → Type 0
IsOfNode (NotLean n) = Unit {0}
IsOfNode (ShareWrong n) = Unit {0}
IsOfNode (NotApart n) = Unit {0}
IsOfNode (LeafLow n value) = Unit {0}
IsOfNode _ = ⊥

module _ (p : Problem) (bound : ℕ) where
  of_node : (number : ℕ) (branch : List PackChoice) (node : PackNode) (r : PackReason) → NodeFails p bound number branch node r → IsOfNode r
  of_node number branch (Pair a b) r fails = subst IsOfNode (sym fails.1) tt
  of_node number branch (Share s) r (inl wrong) = subst IsOfNode (sym wrong.1) tt
  of_node number branch (Share s) r (inr low) = subst IsOfNode (sym low.2) tt
  of_node number branch Apart r (inl wrong) = subst IsOfNode (sym wrong.1) tt
  of_node number branch Apart r (inr low) = subst IsOfNode (sym low.2) tt

  pub of_nodes : (nodes : List PackNode) (number : ℕ) (waiting : List (List PackChoice)) (r : PackReason) → FirstNodeFails p bound number nodes waiting r → IsOfNode r
  of_nodes [] number waiting r fails = absurd fails
  of_nodes (node ∷ nodes) number [] r fails = absurd fails
  of_nodes (node ∷ nodes) number (branch ∷ waiting) r (inl here) = of_node number branch node r here
  of_nodes (node ∷ nodes) number (branch ∷ waiting) r (inr later) = of_nodes nodes (number + 1) (branches_below branch node ++ waiting) r later.1
