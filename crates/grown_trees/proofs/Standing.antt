-- The nodes of a tree that has grown at a leaf, each with the decisions on the way to it.
use Rattle.std.proofs.Common.{◌≡◌, ℕ, zero, suc, ◌+◌, ◌-◌, ◌≤◌, ◌<◌, List, [], ◌∷◌, ◌++◌, length, map, take, drop, get_or, refl, sym, ap, ◌∙◌, subst, arith, inl, inr, append-nil, length-append}
use Rattle.std.proofs.lemmas.Bool.{cases_lt, lt-ltb, le-ltb}
use Rattle.std.proofs.lemmas.List.{get_or_append_left, get_or-append_right, map-append}
use Rattle.decision_chains.specs.declared.decision.Decision.{Decision}
use Rattle.decision_chains.specs.declared.decision.Decision.TheVariants.{Yes, No, Low, High}
use Rattle.branch_rules.specs.declared.node.Node.{Node}
use Rattle.branch_rules.specs.declared.node.Node.TheVariants as nodes
use Rattle.branch_rules.specs.Trees.{Tree, pair, cut, price, void, fixed, preorder, node_at}
use Rattle.grown_trees.specs.Places.{size_of, IsLeaf, IsLeafAt, branch_to, grown}
use Rattle.grown_trees.specs.Stands.{Stand, stands}
use Rattle.grown_trees.proofs.Halves.{put_first, put_second}

-- a place of a tree of two subtrees, behind the root
module _ (tree t u : Tree) (x : Node) (is : preorder tree ≡ x ∷ (preorder t ++ preorder u)) (k : ℕ) where
  pub node_first : k < size_of t → node_at (preorder tree) (suc k) ≡ node_at (preorder t) k
  node_first less = ap (λ (xs : List Node). node_at xs (suc k)) is ∙ get_or_append_left (preorder t) (preorder u) nodes.Void k less

  pub node_second : size_of t ≤ k → node_at (preorder tree) (suc k) ≡ node_at (preorder u) (k - size_of t)
  node_second past = ap (λ (xs : List Node). node_at xs (suc k)) is ∙ get_or-append_right (preorder t) (preorder u) (size_of t) k nodes.Void refl past

  pub inside_second : size_of t ≤ k → suc k < size_of tree → k - size_of t < size_of u
  inside_second past inside = omega (arith, past, inside, ap length is, length-append (preorder t) (preorder u))

  leaf_first : k < size_of t → IsLeafAt tree (suc k) → IsLeafAt t k
  leaf_first less at = record { inside = less; leaf = subst IsLeaf (node_first less) at.leaf }

  leaf_second : size_of t ≤ k → IsLeafAt tree (suc k) → IsLeafAt u (k - size_of t)
  leaf_second past at = record { inside = inside_second past at.inside; leaf = subst IsLeaf (node_second past) at.leaf }

pub stands_long : (branch : List Decision) (tree : Tree) → length (stands branch tree) ≡ size_of tree
stands_long branch (pair a b t u) =
    omega (
      arith,
      stands_long (branch ++ Yes a b ∷ []) t,
      stands_long (branch ++ No a b ∷ []) u,
      length-append (stands (branch ++ Yes a b ∷ []) t) (stands (branch ++ No a b ∷ []) u),
      length-append (preorder t) (preorder u),
    )
stands_long branch (cut shore k t u) =
    omega (
      arith,
      stands_long (branch ++ Low shore k ∷ []) t,
      stands_long (branch ++ High shore k ∷ []) u,
      length-append (stands (branch ++ Low shore k ∷ []) t) (stands (branch ++ High shore k ∷ []) u),
      length-append (preorder t) (preorder u),
    )
stands_long branch (price set) = refl
stands_long branch void = refl
stands_long branch fixed = refl

nodes_join : (x : Node) (ss rs : List Stand) (ts us : List Node) → map (λ (s : Stand). s.node) ss ≡ ts → map (λ (s : Stand). s.node) rs ≡ us →
    x ∷ map (λ (s : Stand). s.node) (ss ++ rs) ≡ x ∷ (ts ++ us)
nodes_join x ss rs ts us first second =
    ap (λ (xs : List Node). x ∷ xs) (map-append (λ (s : Stand). s.node) ss rs ∙ ap (λ (xs : List Node). xs ++ map (λ (s : Stand). s.node) rs) first ∙ ap (λ (xs : List Node). ts ++ xs) second)

pub stands_nodes : (branch : List Decision) (tree : Tree) → map (λ (s : Stand). s.node) (stands branch tree) ≡ preorder tree
stands_nodes branch (pair a b t u) =
    nodes_join (nodes.Pair a b) (stands (branch ++ Yes a b ∷ []) t) (stands (branch ++ No a b ∷ []) u) (preorder t) (preorder u) (stands_nodes _ t) (stands_nodes _ u)
stands_nodes branch (cut shore k t u) =
    nodes_join (nodes.Cut shore k) (stands (branch ++ Low shore k ∷ []) t) (stands (branch ++ High shore k ∷ []) u) (preorder t) (preorder u) (stands_nodes _ t) (stands_nodes _ u)
stands_nodes branch (price set) = refl
stands_nodes branch void = refl
stands_nodes branch fixed = refl

pub stands_grown : (branch : List Decision) (tree sub : Tree) (i : ℕ) → IsLeafAt tree i →
    stands branch (grown tree i sub) ≡ take i (stands branch tree) ++ (stands (branch_to branch tree i) sub ++ drop (i + 1) (stands branch tree))
stands_grown branch (pair a b t u) sub zero at = absurd at.leaf
stands_grown branch (pair a b t u) sub (suc k) at = elim (cases_lt k (size_of t)) [
  | inl less ↦ rw (lt-ltb k (size_of t) less) (
      ap (λ (ss : List Stand). record { branch = branch; node = nodes.Pair a b } ∷ (ss ++ stands (branch ++ No a b ∷ []) u))
      (stands_grown (branch ++ Yes a b ∷ []) t sub k (leaf_first (pair a b t u) t u (nodes.Pair a b) refl k less at))
      ∙ put_first (record { branch = branch; node = nodes.Pair a b }) (stands (branch ++ Yes a b ∷ []) t) (stands (branch ++ No a b ∷ []) u)
      (size_of t) (stands_long (branch ++ Yes a b ∷ []) t) k (stands (branch_to (branch ++ Yes a b ∷ []) t k) sub) less
      )
  | inr past ↦ rw (le-ltb k (size_of t) past) (
      ap (λ (ss : List Stand). record { branch = branch; node = nodes.Pair a b } ∷ (stands (branch ++ Yes a b ∷ []) t ++ ss))
      (stands_grown (branch ++ No a b ∷ []) u sub (k - size_of t) (leaf_second (pair a b t u) t u (nodes.Pair a b) refl k past at))
      ∙ put_second (record { branch = branch; node = nodes.Pair a b }) (stands (branch ++ Yes a b ∷ []) t) (stands (branch ++ No a b ∷ []) u)
      (size_of t) (stands_long (branch ++ Yes a b ∷ []) t) k (stands (branch_to (branch ++ No a b ∷ []) u (k - size_of t)) sub) past
      )
]
stands_grown branch (cut shore m t u) sub zero at = absurd at.leaf
stands_grown branch (cut shore m t u) sub (suc k) at = elim (cases_lt k (size_of t)) [
  | inl less ↦ rw (lt-ltb k (size_of t) less) (
      ap (λ (ss : List Stand). record { branch = branch; node = nodes.Cut shore m } ∷ (ss ++ stands (branch ++ High shore m ∷ []) u))
      (stands_grown (branch ++ Low shore m ∷ []) t sub k (leaf_first (cut shore m t u) t u (nodes.Cut shore m) refl k less at))
      ∙ put_first (record { branch = branch; node = nodes.Cut shore m }) (stands (branch ++ Low shore m ∷ []) t) (stands (branch ++ High shore m ∷ []) u)
      (size_of t) (stands_long (branch ++ Low shore m ∷ []) t) k (stands (branch_to (branch ++ Low shore m ∷ []) t k) sub) less
      )
  | inr past ↦ rw (le-ltb k (size_of t) past) (
      ap (λ (ss : List Stand). record { branch = branch; node = nodes.Cut shore m } ∷ (stands (branch ++ Low shore m ∷ []) t ++ ss))
      (stands_grown (branch ++ High shore m ∷ []) u sub (k - size_of t) (leaf_second (cut shore m t u) t u (nodes.Cut shore m) refl k past at))
      ∙ put_second (record { branch = branch; node = nodes.Cut shore m }) (stands (branch ++ Low shore m ∷ []) t) (stands (branch ++ High shore m ∷ []) u)
      (size_of t) (stands_long (branch ++ Low shore m ∷ []) t) k (stands (branch_to (branch ++ High shore m ∷ []) u (k - size_of t)) sub) past
      )
]
stands_grown branch (price set) sub zero at = sym (append-nil (stands branch sub))
stands_grown branch (price set) sub (suc k) at = absurd (omega (arith, at.inside))
stands_grown branch void sub zero at = sym (append-nil (stands branch sub))
stands_grown branch void sub (suc k) at = absurd (omega (arith, at.inside))
stands_grown branch fixed sub zero at = sym (append-nil (stands branch sub))
stands_grown branch fixed sub (suc k) at = absurd (omega (arith, at.inside))

stand_first : (x : Stand) (ss rs : List Stand) (k : ℕ) (d : Stand) → k < length ss → get_or (x ∷ (ss ++ rs)) (suc k) d ≡ get_or ss k d
stand_first x ss rs k d less = get_or_append_left ss rs d k less

stand_second : (x : Stand) (ss rs : List Stand) (n k : ℕ) (d : Stand) → length ss ≡ n → n ≤ k → get_or (x ∷ (ss ++ rs)) (suc k) d ≡ get_or rs (k - n) d
stand_second x ss rs n k d long past = get_or-append_right ss rs n k d long past

abbrev At : List Decision → Node → Stand
At branch node = record { branch = branch; node = node }

pub stands_at : (branch : List Decision) (tree : Tree) (i : ℕ) (d : Stand) → i < size_of tree →
    get_or (stands branch tree) i d ≡ record { branch = branch_to branch tree i; node = node_at (preorder tree) i }
stands_at branch (pair a b t u) zero d inside = refl
stands_at branch (pair a b t u) (suc k) d inside = elim (cases_lt k (size_of t)) [
  | inl less ↦ rw (lt-ltb k (size_of t) less) (
      stand_first (At branch (nodes.Pair a b)) (stands (branch ++ Yes a b ∷ []) t) (stands (branch ++ No a b ∷ []) u) k d (omega (arith, less, stands_long (branch ++ Yes a b ∷ []) t))
      ∙ stands_at (branch ++ Yes a b ∷ []) t k d less
      ∙ ap (At (branch_to (branch ++ Yes a b ∷ []) t k)) (sym (node_first (pair a b t u) t u (nodes.Pair a b) refl k less))
      )
  | inr past ↦ rw (le-ltb k (size_of t) past) (
      stand_second (At branch (nodes.Pair a b)) (stands (branch ++ Yes a b ∷ []) t) (stands (branch ++ No a b ∷ []) u) (size_of t) k d (stands_long (branch ++ Yes a b ∷ []) t) past
      ∙ stands_at (branch ++ No a b ∷ []) u (k - size_of t) d (inside_second (pair a b t u) t u (nodes.Pair a b) refl k past inside)
      ∙ ap (At (branch_to (branch ++ No a b ∷ []) u (k - size_of t))) (sym (node_second (pair a b t u) t u (nodes.Pair a b) refl k past))
      )
]
stands_at branch (cut shore m t u) zero d inside = refl
stands_at branch (cut shore m t u) (suc k) d inside = elim (cases_lt k (size_of t)) [
  | inl less ↦ rw (lt-ltb k (size_of t) less) (
      stand_first (At branch (nodes.Cut shore m)) (stands (branch ++ Low shore m ∷ []) t) (stands (branch ++ High shore m ∷ []) u) k d (omega (arith, less, stands_long (branch ++ Low shore m ∷ []) t))
      ∙ stands_at (branch ++ Low shore m ∷ []) t k d less
      ∙ ap (At (branch_to (branch ++ Low shore m ∷ []) t k)) (sym (node_first (cut shore m t u) t u (nodes.Cut shore m) refl k less))
      )
  | inr past ↦ rw (le-ltb k (size_of t) past) (
      stand_second (At branch (nodes.Cut shore m)) (stands (branch ++ Low shore m ∷ []) t) (stands (branch ++ High shore m ∷ []) u) (size_of t) k d (stands_long (branch ++ Low shore m ∷ []) t) past
      ∙ stands_at (branch ++ High shore m ∷ []) u (k - size_of t) d (inside_second (cut shore m t u) t u (nodes.Cut shore m) refl k past inside)
      ∙ ap (At (branch_to (branch ++ High shore m ∷ []) u (k - size_of t))) (sym (node_second (cut shore m t u) t u (nodes.Cut shore m) refl k past))
      )
]
stands_at branch (price set) zero d inside = refl
stands_at branch (price set) (suc k) d inside = absurd (omega (arith, inside))
stands_at branch void zero d inside = refl
stands_at branch void (suc k) d inside = absurd (omega (arith, inside))
stands_at branch fixed zero d inside = refl
stands_at branch fixed (suc k) d inside = absurd (omega (arith, inside))
