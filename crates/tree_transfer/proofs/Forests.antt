-- One node of some trees, what it leaves, and what it becomes.
use Rattle.std.proofs.Common.{◌≡◌, ℕ, suc, ◌+◌, ◌≤◌, ◌<◌, List, [], ◌∷◌, ◌++◌, length, drop, refl, sym, ap, ◌∙◌, subst, arith, inl, inr, append_assoc, append-nil, length-append, length-drop}
use Rattle.std.proofs.lemmas.List.{drop_more}
use Rattle.std.proofs.lemmas.Bool.{cases_lt}
use Rattle.carp_base.specs.Problem.{Problem}
use Rattle.decision_chains.specs.declared.decision.Decision.{Decision}
use Rattle.decision_chains.specs.declared.decision.Decision.TheVariants.{Yes, No, Low, High}
use Rattle.decision_chains.specs.Exclusions.{Excluded}
use Rattle.branch_rules.specs.Decisions.{lower_of}
use Rattle.branch_rules.specs.Trees.{Tree, pair, cut, price, void, fixed, preorder, node_at}
use Rattle.branch_rules.specs.declared.node.Node.{Node}
use Rattle.branch_rules.specs.declared.node.Node.TheVariants as nodes
use Rattle.branch_rules.specs.Waiting.{waiting_after}
use Rattle.tree_transfer.specs.Carrying.{AreCarriedOver, GivesWay, IsCarrying, IsForest, LiesBehind, Opens, forest}
use Rattle.tree_transfer.specs.Shown.{AreCarried, AreTreeNodes}

abbrev first_of : List Node → Node
first_of [] = nodes.Void
first_of (x ∷ xs) = x

abbrev rest_of : List Node → List Node
rest_of [] = []
rest_of (x ∷ xs) = xs

same_first : (x y : Node) (xs ys : List Node) → x ∷ xs ≡ y ∷ ys → x ≡ y
same_first x y xs ys same = ap first_of same

same_rest : (x y : Node) (xs ys : List Node) → x ∷ xs ≡ y ∷ ys → xs ≡ ys
same_rest x y xs ys same = ap rest_of same

some_nodes : (tree : Tree) → 1 ≤ length (preorder tree)
some_nodes (pair a b t u) = omega arith
some_nodes (cut shore k t u) = omega arith
some_nodes (price set) = omega arith
some_nodes void = omega arith
some_nodes fixed = omega arith

-- Past a whole subtree.

no_nodes : (trees : List Tree) (rest : List Node) → length (forest trees ++ rest) ≡ 0 → forest trees ++ rest ≡ rest
no_nodes [] rest none = refl
no_nodes (t ∷ ts) rest none =
    absurd (omega (arith, none, some_nodes t, length-append (preorder t ++ forest ts) rest, length-append (preorder t) (forest ts)))

-- where no node is left, nothing of the subtree is
pub ended : (all : List Node) (place open_yet : ℕ) (rest : List Node) → place ≡ length all → IsForest open_yet (drop place all) rest → drop place all ≡ rest
ended all place open_yet rest end f = f.is ∙ no_nodes f.trees rest (omega (arith, end, length-drop place all, ap length f.is))

no_trees : (trees : List Tree) (all rest : List Node) → length trees ≡ 0 → all ≡ forest trees ++ rest → all ≡ rest
no_trees [] all rest none is = is
no_trees (t ∷ ts) all rest none is = absurd (omega (arith, none))

pub closed : (all rest : List Node) → IsForest 0 all rest → all ≡ rest
closed all rest f = no_trees f.trees all rest f.many f.is

pub begun : (all : List Node) (first : Tree) (rest : List Node) → all ≡ preorder first ++ rest → IsForest 1 all rest
begun all first rest is = record {
  trees = first ∷ [];
  many = refl;
  is = is ∙ ap (λ (xs : List Node). xs ++ rest) (sym (append-nil (preorder first)));
}

trees_on : (trees : List Tree) (open_yet after : ℕ) (node : Node) (left rest : List Node) → length trees ≡ open_yet → 1 ≤ open_yet → Opens open_yet node after → node ∷ left ≡ forest trees ++ rest → IsForest after left rest
trees_on [] open_yet after node left rest many some opens is = absurd (omega (arith, many, some))
trees_on (pair a b t u ∷ ts) open_yet after node left rest many some opens is =
    let same : node ≡ nodes.Pair a b = same_first _ _ _ _ is in
    let more : after ≡ open_yet + 1 = subst (λ (n : Node). Opens open_yet n after) same opens in
    record {
      trees = t ∷ (u ∷ ts);
      many = omega (arith, many, more);
      is = same_rest _ _ _ _ is ∙ ap (λ (xs : List Node). xs ++ rest) (append_assoc (preorder t) (preorder u) (forest ts));
    }
trees_on (cut shore k t u ∷ ts) open_yet after node left rest many some opens is =
    let same : node ≡ nodes.Cut shore k = same_first _ _ _ _ is in
    let more : after ≡ open_yet + 1 = subst (λ (n : Node). Opens open_yet n after) same opens in
    record {
      trees = t ∷ (u ∷ ts);
      many = omega (arith, many, more);
      is = same_rest _ _ _ _ is ∙ ap (λ (xs : List Node). xs ++ rest) (append_assoc (preorder t) (preorder u) (forest ts));
    }
trees_on (price set ∷ ts) open_yet after node left rest many some opens is =
    let same : node ≡ nodes.Price set = same_first _ _ _ _ is in
    let less : open_yet ≡ after + 1 = subst (λ (n : Node). Opens open_yet n after) same opens in
    record { trees = ts; many = omega (arith, many, less); is = same_rest _ _ _ _ is }
trees_on (void ∷ ts) open_yet after node left rest many some opens is =
    let same : node ≡ nodes.Void = same_first _ _ _ _ is in
    let less : open_yet ≡ after + 1 = subst (λ (n : Node). Opens open_yet n after) same opens in
    record { trees = ts; many = omega (arith, many, less); is = same_rest _ _ _ _ is }
trees_on (fixed ∷ ts) open_yet after node left rest many some opens is =
    let same : node ≡ nodes.Fixed = same_first _ _ _ _ is in
    let less : open_yet ≡ after + 1 = subst (λ (n : Node). Opens open_yet n after) same opens in
    record { trees = ts; many = omega (arith, many, less); is = same_rest _ _ _ _ is }

pub opens_few : (before : ℕ) (node : Node) (after : ℕ) → Opens before node after → after ≤ before + 1
opens_few before (nodes.Pair a b) after opens = omega (arith, opens)
opens_few before (nodes.Cut shore k) after opens = omega (arith, opens)
opens_few before (nodes.Price set) after opens = omega (arith, opens)
opens_few before nodes.Void after opens = omega (arith, opens)
opens_few before nodes.Fixed after opens = omega (arith, opens)

-- past one node
pub forest_on : (all : List Node) (place open_yet after : ℕ) (rest : List Node) → place < length all → 1 ≤ open_yet → Opens open_yet (node_at all place) after →
    IsForest open_yet (drop place all) rest → IsForest after (drop (place + 1) all) rest
forest_on all place open_yet after rest less some opens f =
    trees_on f.trees open_yet after (node_at all place) (drop (place + 1) all) rest f.many some opens (sym (drop_more all place nodes.Void less) ∙ f.is)

-- What becomes of a node.

module _ (p : Problem) (pool : List (List ℕ)) (branch : List Decision) (waiting : List (List Decision)) where
  -- the trees that follow make these trees
  record Back (trees more : List Tree) (node : Node) : Type 0 where
    pub whole : List Tree
    pub over : AreCarriedOver p pool (branch ∷ waiting) trees whole
    pub nodes_are : forest whole ≡ node ∷ forest more

  -- a node that stays leaves these trees
  record Kept (trees : List Tree) (node : Node) (left : List Node) : Type 0 where
    pub next : List Tree
    pub left_is : left ≡ forest next
    pub even : length next ≡ length (waiting_after branch node waiting)
    pub back : (more : List Tree) → AreCarriedOver p pool (waiting_after branch node waiting) next more → Back trees more node

  pair_back : (a b : ℕ) (t u : Tree) (ts : List Tree) → ¬ (Excluded p branch a b) → (more : List Tree) →
      AreCarriedOver p pool ((branch ++ Yes a b ∷ []) ∷ ((branch ++ No a b ∷ []) ∷ waiting)) (t ∷ (u ∷ ts)) more → Back (pair a b t u ∷ ts) more (nodes.Pair a b)
  pair_back a b t u ts not [] over = absurd over
  pair_back a b t u ts not (x ∷ []) over = absurd over.1
  pair_back a b t u ts not (x ∷ (y ∷ rest)) over = record {
    whole = pair a b x y ∷ rest;
    over = (inr (not, (x, y, over.0, over.1.0, refl)), over.1.1);
    nodes_are = ap (λ (xs : List Node). nodes.Pair a b ∷ xs) (append_assoc (preorder x) (preorder y) (forest rest));
  }

  cut_back : (shore k : ℕ) (t u : Tree) (ts : List Tree) → lower_of p pool branch shore ≤ k → (more : List Tree) →
      AreCarriedOver p pool ((branch ++ Low shore k ∷ []) ∷ ((branch ++ High shore k ∷ []) ∷ waiting)) (t ∷ (u ∷ ts)) more → Back (cut shore k t u ∷ ts) more (nodes.Cut shore k)
  cut_back shore k t u ts most [] over = absurd over
  cut_back shore k t u ts most (x ∷ []) over = absurd over.1
  cut_back shore k t u ts most (x ∷ (y ∷ rest)) over = record {
    whole = cut shore k x y ∷ rest;
    over = (inr (most, (x, y, over.0, over.1.0, refl)), over.1.1);
    nodes_are = ap (λ (xs : List Node). nodes.Cut shore k ∷ xs) (append_assoc (preorder x) (preorder y) (forest rest));
  }

  at_least : (shore k : ℕ) → ¬ (k < lower_of p pool branch shore) → lower_of p pool branch shore ≤ k
  at_least shore k not = elim (cases_lt k (lower_of p pool branch shore)) [
    | inl less ↦ absurd (not less)
    | inr most ↦ omega (arith, most)
  ]

  kept_on : (trees : List Tree) (node : Node) (left : List Node) → node ∷ left ≡ forest trees → length trees ≡ suc (length waiting) → (GivesWay p pool branch node → ⊥) → Kept trees node left
  kept_on [] node left is even not = absurd (omega (arith, even))
  kept_on (pair a b t u ∷ ts) node left is even not =
      let same : node ≡ nodes.Pair a b = same_first _ _ _ _ is in
      let not_out : ¬ (Excluded p branch a b) = λ out. not (subst (GivesWay p pool branch) (sym same) out) in
      subst (λ (n : Node). Kept (pair a b t u ∷ ts) n left) (sym same) (record {
        next = t ∷ (u ∷ ts);
        left_is = same_rest _ _ _ _ is ∙ append_assoc (preorder t) (preorder u) (forest ts);
        even = omega (arith, even);
        back = pair_back a b t u ts not_out;
      })
  kept_on (cut shore k t u ∷ ts) node left is even not =
      let same : node ≡ nodes.Cut shore k = same_first _ _ _ _ is in
      let most : lower_of p pool branch shore ≤ k = at_least shore k (λ less. not (subst (GivesWay p pool branch) (sym same) less)) in
      subst (λ (n : Node). Kept (cut shore k t u ∷ ts) n left) (sym same) (record {
        next = t ∷ (u ∷ ts);
        left_is = same_rest _ _ _ _ is ∙ append_assoc (preorder t) (preorder u) (forest ts);
        even = omega (arith, even);
        back = cut_back shore k t u ts most;
      })
  kept_on (price set ∷ ts) node left is even not =
      let same : node ≡ nodes.Price set = same_first _ _ _ _ is in
      subst (λ (n : Node). Kept (price set ∷ ts) n left) (sym same) (record {
        next = ts;
        left_is = same_rest _ _ _ _ is;
        even = omega (arith, even);
        back = λ more over. record { whole = price set ∷ more; over = (refl, over); nodes_are = refl };
      })
  kept_on (void ∷ ts) node left is even not =
      let same : node ≡ nodes.Void = same_first _ _ _ _ is in
      subst (λ (n : Node). Kept (void ∷ ts) n left) (sym same) (record {
        next = ts;
        left_is = same_rest _ _ _ _ is;
        even = omega (arith, even);
        back = λ more over. record { whole = void ∷ more; over = (refl, over); nodes_are = refl };
      })
  kept_on (fixed ∷ ts) node left is even not =
      let same : node ≡ nodes.Fixed = same_first _ _ _ _ is in
      subst (λ (n : Node). Kept (fixed ∷ ts) n left) (sym same) (record {
        next = ts;
        left_is = same_rest _ _ _ _ is;
        even = omega (arith, even);
        back = λ more over. record { whole = fixed ∷ more; over = (refl, over); nodes_are = refl };
      })

  -- a node that gives way leaves its second child
  record Skipped (trees : List Tree) (left : List Node) : Type 0 where
    pub first : Tree
    pub second : Tree
    pub others : List Tree
    pub left_is : left ≡ preorder first ++ forest (second ∷ others)
    pub many : length trees ≡ suc (length others)
    pub back : (more : List Tree) → AreCarriedOver p pool (branch ∷ waiting) (second ∷ others) more → AreCarriedOver p pool (branch ∷ waiting) trees more

  pair_gives : (a b : ℕ) (t u : Tree) (ts : List Tree) → Excluded p branch a b → (more : List Tree) →
      AreCarriedOver p pool (branch ∷ waiting) (u ∷ ts) more → AreCarriedOver p pool (branch ∷ waiting) (pair a b t u ∷ ts) more
  pair_gives a b t u ts out [] over = absurd over
  pair_gives a b t u ts out (x ∷ rest) over = (inl (out, over.0), over.1)

  cut_gives : (shore k : ℕ) (t u : Tree) (ts : List Tree) → k < lower_of p pool branch shore → (more : List Tree) →
      AreCarriedOver p pool (branch ∷ waiting) (u ∷ ts) more → AreCarriedOver p pool (branch ∷ waiting) (cut shore k t u ∷ ts) more
  cut_gives shore k t u ts less [] over = absurd over
  cut_gives shore k t u ts less (x ∷ rest) over = (inl (less, over.0), over.1)

  skipped_on : (trees : List Tree) (node : Node) (left : List Node) → node ∷ left ≡ forest trees → length trees ≡ suc (length waiting) → GivesWay p pool branch node → Skipped trees left
  skipped_on [] node left is even gives = absurd (omega (arith, even))
  skipped_on (pair a b t u ∷ ts) node left is even gives =
      let same : node ≡ nodes.Pair a b = same_first _ _ _ _ is in
      record {
        first = t;
        second = u;
        others = ts;
        left_is = same_rest _ _ _ _ is ∙ append_assoc (preorder t) (preorder u) (forest ts);
        many = refl;
        back = pair_gives a b t u ts (subst (GivesWay p pool branch) same gives);
      }
  skipped_on (cut shore k t u ∷ ts) node left is even gives =
      let same : node ≡ nodes.Cut shore k = same_first _ _ _ _ is in
      record {
        first = t;
        second = u;
        others = ts;
        left_is = same_rest _ _ _ _ is ∙ append_assoc (preorder t) (preorder u) (forest ts);
        many = refl;
        back = cut_gives shore k t u ts (subst (GivesWay p pool branch) same gives);
      }
  skipped_on (price set ∷ ts) node left is even gives = absurd (subst (GivesWay p pool branch) (same_first node (nodes.Price set) _ _ is) gives)
  skipped_on (void ∷ ts) node left is even gives = absurd (subst (GivesWay p pool branch) (same_first node nodes.Void _ _ is) gives)
  skipped_on (fixed ∷ ts) node left is even gives = absurd (subst (GivesWay p pool branch) (same_first node nodes.Fixed _ _ is) gives)

  module _ (all : List Node) (place : ℕ) (new : List Node) (c : IsCarrying p pool all place (branch ∷ waiting) new) (less : place < length all) where
    here : node_at all place ∷ drop (place + 1) all ≡ forest c.trees
    here = sym (drop_more all place nodes.Void less) ∙ c.left

    -- a node stays
    pub keeps : (GivesWay p pool branch (node_at all place) → ⊥) → IsCarrying p pool all (place + 1) (waiting_after branch (node_at all place) waiting) (new ++ node_at all place ∷ [])
    keeps not =
        let node = node_at all place in
        let kept = kept_on c.trees node (drop (place + 1) all) here c.even not in
        record {
          trees = kept.next;
          left = kept.left_is;
          even = kept.even;
          rest = λ more over.
              let back = kept.back more over in
              let same : new ++ forest back.whole ≡ (new ++ node ∷ []) ++ forest more =
              ap (λ (xs : List Node). new ++ xs) back.nodes_are ∙ sym (append_assoc new (node ∷ []) (forest more)) in
              subst (AreCarried p pool all) same (c.rest back.whole back.over);
        }

    -- a node gives way
    pub gives_way : (to : ℕ) → GivesWay p pool branch (node_at all place) → LiesBehind all (place + 1) to → IsCarrying p pool all to (branch ∷ waiting) new
    gives_way to gives behind =
        let skipped = skipped_on c.trees (node_at all place) (drop (place + 1) all) here c.even gives in
        record {
          trees = skipped.second ∷ skipped.others;
          left = behind skipped.first (forest (skipped.second ∷ skipped.others)) skipped.left_is;
          even = omega (arith, skipped.many, c.even);
          rest = λ more over. c.rest more (skipped.back more over);
        }

-- Begin and end.

module _ (p : Problem) (pool : List (List ℕ)) (all : List Node) where
  one_tree : (tree : Tree) → preorder tree ≡ all → (more : List Tree) → AreCarriedOver p pool ([] ∷ []) (tree ∷ []) more → AreCarried p pool all ([] ++ forest more)
  one_tree tree is [] over = absurd over
  one_tree tree is (u ∷ []) over = record { tree = tree; carried = u; old_nodes = is; new_nodes = sym (append-nil (preorder u)); is = over.0 }
  one_tree tree is (u ∷ (v ∷ more)) over = absurd over.1

  pub carrying_none : AreTreeNodes p pool all → IsCarrying p pool all 0 ([] ∷ []) []
  carrying_none x = record {
    trees = x.tree ∷ [];
    left = sym x.in_preorder ∙ sym (append-nil (preorder x.tree));
    even = refl;
    rest = one_tree x.tree x.in_preorder;
  }

  none_over : (trees : List Tree) (waiting : List (List Decision)) → length trees ≡ length waiting → length (forest trees) ≡ 0 → AreCarriedOver p pool waiting trees []
  none_over [] [] even none = tt
  none_over [] (b ∷ waiting) even none = absurd (omega (arith, even))
  none_over (t ∷ ts) waiting even none = absurd (omega (arith, none, some_nodes t, length-append (preorder t) (forest ts)))

  pub carried_all : (place : ℕ) (waiting : List (List Decision)) (new : List Node) → place ≡ length all → IsCarrying p pool all place waiting new → AreCarried p pool all new
  carried_all place waiting new end c =
      let none : length (forest c.trees) ≡ 0 = omega (arith, end, length-drop place all, ap length c.left) in
      subst (AreCarried p pool all) (append-nil new) (c.rest [] (none_over c.trees waiting c.even none))
