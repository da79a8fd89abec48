-- Nodes in preorder are those of one tree, and what holds of the nodes of a tree holds of those of a carried one.
use Rattle.std.proofs.Common.{◌≡◌, ℕ, List, [], ◌∷◌, ◌++◌, refl, sym, subst, ◌∙◌, append_assoc, append-nil, inl, inr, All}
use Rattle.std.proofs.lemmas.List.Elements.{All-nil, All-cons, All-head, All-tail, All-append}
use Rattle.carp_base.specs.Problem.{Problem}
use Rattle.decision_chains.specs.declared.decision.Decision.{Decision}
use Rattle.decision_chains.specs.declared.decision.Decision.TheVariants.{Yes, No, Low, High}
use Rattle.branch_rules.specs.Trees.{Tree, pair, cut, price, void, fixed, preorder}
use Rattle.branch_rules.specs.declared.node.Node.{Node}
use Rattle.branch_rules.specs.declared.node.Node.TheVariants.{Pair, Cut}
use Rattle.tree_transfer.specs.Carried.{IsCarried}

tails : {X : Type 0} {x y : X} {xs ys : List X} → (x ∷ xs) ≡ (y ∷ ys) → xs ≡ ys
tails e = cc

-- a tree is determined by its nodes, whatever follows them
tree_first : (t u : Tree) (xs ys : List Node) → (preorder t ++ xs) ≡ (preorder u ++ ys) → (t ≡ u) × (xs ≡ ys)
tree_first (pair a b t u) (pair c d v w) xs ys e =
    let both = tree_first t v (preorder u ++ xs) (preorder w ++ ys) (sym (append_assoc (preorder t) (preorder u) xs) ∙ tails e ∙ append_assoc (preorder v) (preorder w) ys) in
    let last = tree_first u w xs ys both.1 in
    (cc, last.1)
tree_first (cut a k t u) (cut c l v w) xs ys e =
    let both = tree_first t v (preorder u ++ xs) (preorder w ++ ys) (sym (append_assoc (preorder t) (preorder u) xs) ∙ tails e ∙ append_assoc (preorder v) (preorder w) ys) in
    let last = tree_first u w xs ys both.1 in
    (cc, last.1)
tree_first (price s) (price r) xs ys e = (cc, cc)
tree_first void void xs ys e = (refl, cc)
tree_first fixed fixed xs ys e = (refl, cc)
tree_first (pair a b t u) (cut c l v w) xs ys e = cc
tree_first (pair a b t u) (price r) xs ys e = cc
tree_first (pair a b t u) void xs ys e = cc
tree_first (pair a b t u) fixed xs ys e = cc
tree_first (cut a k t u) (pair c d v w) xs ys e = cc
tree_first (cut a k t u) (price r) xs ys e = cc
tree_first (cut a k t u) void xs ys e = cc
tree_first (cut a k t u) fixed xs ys e = cc
tree_first (price s) (pair c d v w) xs ys e = cc
tree_first (price s) (cut c l v w) xs ys e = cc
tree_first (price s) void xs ys e = cc
tree_first (price s) fixed xs ys e = cc
tree_first void (pair c d v w) xs ys e = cc
tree_first void (cut c l v w) xs ys e = cc
tree_first void (price r) xs ys e = cc
tree_first void fixed xs ys e = cc
tree_first fixed (pair c d v w) xs ys e = cc
tree_first fixed (cut c l v w) xs ys e = cc
tree_first fixed (price r) xs ys e = cc
tree_first fixed void xs ys e = cc

pub one_tree : (t u : Tree) → preorder t ≡ preorder u → t ≡ u
one_tree t u e = (tree_first t u [] [] (append-nil (preorder t) ∙ e ∙ sym (append-nil (preorder u)))).0

-- what holds of all holds of those in front, and of those behind
pub all_front : {X : Type 0} (P : X → Type 0) (xs ys : List X) → All P (xs ++ ys) → All P xs
all_front P [] ys all = All-nil P
all_front P (x ∷ xs) ys all = All-cons P x xs (All-head P x (xs ++ ys) all) (all_front P xs ys (All-tail P x (xs ++ ys) all))

pub all_back : {X : Type 0} (P : X → Type 0) (xs ys : List X) → All P (xs ++ ys) → All P ys
all_back P [] ys all = all
all_back P (x ∷ xs) ys all = all_back P xs ys (All-tail P x (xs ++ ys) all)

module _ (p : Problem) (pool : List (List ℕ)) (P : Node → Type 0) where
  split_all : (node : Node) (t u v w : Tree) → All P (node ∷ (preorder t ++ preorder u)) → (All P (preorder t) → All P (preorder v)) → (All P (preorder u) → All P (preorder w)) →
      All P (node ∷ (preorder v ++ preorder w))
  split_all node t u v w all first second =
      let rest = All-tail P node (preorder t ++ preorder u) all in
      All-cons P node (preorder v ++ preorder w) (All-head P node (preorder t ++ preorder u) all)
      (All-append P (preorder v) (preorder w) (first (all_front P (preorder t) (preorder u) rest)) (second (all_back P (preorder t) (preorder u) rest)))

  pub carried_all : (t u : Tree) (branch : List Decision) → All P (preorder t) → IsCarried p pool branch t u → All P (preorder u)
  carried_all (pair a b t v) u branch all is = elim is [
    | inl gone ↦ carried_all v u branch (all_back P (preorder t) (preorder v) (All-tail P (Pair a b) (preorder t ++ preorder v) all)) gone.1
    | inr stays ↦
        subst (λ (x : Tree). All P (preorder x)) (sym stays.1.4)
        (split_all (Pair a b) t v stays.1.0 stays.1.1 all (λ front. carried_all t stays.1.0 (branch ++ Yes a b ∷ []) front stays.1.2) (λ back. carried_all v stays.1.1 (branch ++ No a b ∷ []) back stays.1.3))
  ]
  carried_all (cut s k t v) u branch all is = elim is [
    | inl gone ↦ carried_all v u branch (all_back P (preorder t) (preorder v) (All-tail P (Cut s k) (preorder t ++ preorder v) all)) gone.1
    | inr stays ↦
        subst (λ (x : Tree). All P (preorder x)) (sym stays.1.4)
        (split_all (Cut s k) t v stays.1.0 stays.1.1 all (λ front. carried_all t stays.1.0 (branch ++ Low s k ∷ []) front stays.1.2) (λ back. carried_all v stays.1.1 (branch ++ High s k ∷ []) back stays.1.3))
  ]
  carried_all (price s) u branch all is = subst (λ (x : Tree). All P (preorder x)) (sym is) all
  carried_all void u branch all is = subst (λ (x : Tree). All P (preorder x)) (sym is) all
  carried_all fixed u branch all is = subst (λ (x : Tree). All P (preorder x)) (sym is) all
