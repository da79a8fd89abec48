-- Nodes that are one whole tree.
use Rattle.std.proofs.Common.{◌≡◌, ℕ, zero, suc, ◌+◌, ◌-◌, ◌≤◌, ◌<◌, List, [], ◌∷◌, ◌++◌, length, get_or, drop, refl, sym, ap, ◌∙◌, subst, arith, append_assoc, append-nil}
use Rattle.std.specs.List.{flat_map}
use Rattle.std.proofs.lemmas.List.{drop_more}
use Rattle.packing_trees.specs.declared.node.PackNode.{PackNode}
use Rattle.packing_trees.specs.declared.node.PackNode.TheVariants.{Pair, Share, Apart}
use Rattle.packing_trees.specs.Trees.{PackTree, pair, share, settled, preorder}
use Rattle.packing_trees.specs.Reasons.{AreWhole, NotWholeAt}
use Rattle.packing_trees.specs.Layers.{Fills, subtrees_after}

-- One node more.
not_whole_on : (n read : ℕ) (node : PackNode) (nodes : List PackNode) (place : ℕ) → (n ≡ 0 → ⊥) → NotWholeAt (subtrees_after n node) (read + 1) nodes place → NotWholeAt n read (node ∷ nodes) place
not_whole_on zero read node nodes place some fails = absurd (some refl)
not_whole_on (suc n) read (Pair a b) nodes place some fails = let same : suc n + 1 ≡ suc (suc n) = omega arith in subst (λ k. NotWholeAt k (read + 1) nodes place) same fails
not_whole_on (suc n) read (Share s) nodes place some fails = let same : suc n - 1 ≡ n = omega arith in subst (λ k. NotWholeAt k (read + 1) nodes place) same fails
not_whole_on (suc n) read Apart nodes place some fails = let same : suc n - 1 ≡ n = omega arith in subst (λ k. NotWholeAt k (read + 1) nodes place) same fails

fills_on : (n : ℕ) (node : PackNode) (nodes : List PackNode) → (n ≡ 0 → ⊥) → Fills (subtrees_after n node) nodes → Fills n (node ∷ nodes)
fills_on zero node nodes some fills = absurd (some refl)
fills_on (suc n) (Pair a b) nodes some fills = let same : suc n + 1 ≡ suc (suc n) = omega arith in subst (λ k. Fills k nodes) same fills
fills_on (suc n) (Share s) nodes some fills = let same : suc n - 1 ≡ n = omega arith in subst (λ k. Fills k nodes) same fills
fills_on (suc n) Apart nodes some fills = let same : suc n - 1 ≡ n = omega arith in subst (λ k. Fills k nodes) same fills

pub after_most : (n m : ℕ) (node : PackNode) → m ≡ subtrees_after n node → m ≤ n + 1
after_most n m (Pair a b) is = omega (arith, is)
after_most n m (Share s) is = omega (arith, is)
after_most n m Apart is = omega (arith, is)

module _ (nodes : List PackNode) (i : ℕ) (less : i < length nodes) where
  pub whole_early : (n : ℕ) → n ≡ 0 → NotWholeAt n i (drop i nodes) i
  whole_early n none = subst (λ k. NotWholeAt k i (drop i nodes) i) (sym none) (subst (λ xs. NotWholeAt 0 i xs i) (sym (drop_more nodes i Apart less)) refl)

  pub fails_more : (n m : ℕ) (d : PackNode) → (n ≡ 0 → ⊥) → m ≡ subtrees_after n (get_or nodes i d) → ((place : ℕ) → NotWholeAt n i (drop i nodes) place → NotWholeAt 1 0 nodes place) →
      (place : ℕ) → NotWholeAt m (i + 1) (drop (i + 1) nodes) place → NotWholeAt 1 0 nodes place
  fails_more n m d some is before place fails =
      before place (subst (λ xs. NotWholeAt n i xs place) (sym (drop_more nodes i d less))
      (not_whole_on n i (get_or nodes i d) (drop (i + 1) nodes) place some (subst (λ k. NotWholeAt k (i + 1) (drop (i + 1) nodes) place) is fails)))

  pub fills_more : (n m : ℕ) (d : PackNode) → (n ≡ 0 → ⊥) → m ≡ subtrees_after n (get_or nodes i d) → (Fills n (drop i nodes) → Fills 1 nodes) → Fills m (drop (i + 1) nodes) → Fills 1 nodes
  fills_more n m d some is before fills =
      before (subst (λ xs. Fills n xs) (sym (drop_more nodes i d less)) (fills_on n (get_or nodes i d) (drop (i + 1) nodes) some (subst (λ k. Fills k (drop (i + 1) nodes)) is fills)))

-- Trees.
abbrev Forest : List PackNode → ℕ → Type 0
Forest nodes n = (trees : List PackTree) × (length trees ≡ n) × (flat_map preorder trees ≡ nodes)

joined : (a b : ℕ) (nodes : List PackNode) (n : ℕ) (trees : List PackTree) → length trees ≡ suc (suc n) → flat_map preorder trees ≡ nodes → Forest (Pair a b ∷ nodes) (suc n)
joined a b nodes n [] long are = absurd (omega (arith, long))
joined a b nodes n (t ∷ []) long are = absurd (omega (arith, long))
joined a b nodes n (t ∷ (u ∷ rest)) long are = (
  pair a b t u ∷ rest,
  omega (arith, long),
  ap (λ (xs : List PackNode). Pair a b ∷ xs) (append_assoc (preorder t) (preorder u) (flat_map preorder rest) ∙ are),
)

alone : (top : PackNode) (leaf : PackTree) (nodes : List PackNode) (n : ℕ) → preorder leaf ≡ top ∷ [] → Forest nodes n → Forest (top ∷ nodes) (suc n)
alone top leaf nodes n reads forest =
    (leaf ∷ forest.0, omega (arith, forest.1), ap (λ (xs : List PackNode). xs ++ flat_map preorder forest.0) reads ∙ ap (λ (xs : List PackNode). top ∷ xs) forest.2)

grow : (nodes : List PackNode) (n : ℕ) → Fills n nodes → Forest nodes n
grow [] zero fills = ([], refl, refl)
grow [] (suc n) fills = absurd fills
grow (node ∷ nodes) zero fills = absurd fills
grow (Pair a b ∷ nodes) (suc n) fills = let forest = grow nodes (suc (suc n)) fills in joined a b nodes n forest.0 forest.1 forest.2
grow (Share s ∷ nodes) (suc n) fills = alone (Share s) (share s) nodes n refl (grow nodes n fills)
grow (Apart ∷ nodes) (suc n) fills = alone Apart settled nodes n refl (grow nodes n fills)

one_of : (trees : List PackTree) (nodes : List PackNode) → length trees ≡ 1 → flat_map preorder trees ≡ nodes → AreWhole nodes
one_of [] nodes one are = absurd (omega (arith, one))
one_of (t ∷ []) nodes one are = (t, sym (append-nil (preorder t)) ∙ are)
one_of (t ∷ (u ∷ rest)) nodes one are = absurd (omega (arith, one))

pub whole_from : (nodes : List PackNode) → Fills 1 nodes → AreWhole nodes
whole_from nodes fills = let forest = grow nodes 1 fills in one_of forest.0 nodes forest.1 forest.2

tree_fills : (tree : PackTree) (n : ℕ) (more : List PackNode) → Fills n more → Fills (suc n) (preorder tree ++ more)
tree_fills (pair a b t u) n more fills =
    subst (λ xs. Fills (suc (suc n)) xs) (sym (append_assoc (preorder t) (preorder u) more)) (tree_fills t (suc n) (preorder u ++ more) (tree_fills u n more fills))
tree_fills (share s) n more fills = fills
tree_fills settled n more fills = fills

fills_from : (nodes : List PackNode) → AreWhole nodes → Fills 1 nodes
fills_from nodes whole = subst (λ xs. Fills 1 xs) (append-nil (preorder whole.0) ∙ whole.1) (tree_fills whole.0 0 [] tt)

fills_or_not : (nodes : List PackNode) (n read place : ℕ) → Fills n nodes → NotWholeAt n read nodes place → ⊥
fills_or_not [] zero read place fills fails = fails
fills_or_not [] (suc n) read place fills fails = fills
fills_or_not (node ∷ nodes) zero read place fills fails = fills
fills_or_not (Pair a b ∷ nodes) (suc n) read place fills fails = fills_or_not nodes (suc (suc n)) (read + 1) place fills fails
fills_or_not (Share s ∷ nodes) (suc n) read place fills fails = fills_or_not nodes n (read + 1) place fills fails
fills_or_not (Apart ∷ nodes) (suc n) read place fills fails = fills_or_not nodes n (read + 1) place fills fails

pub whole_or_not : (nodes : List PackNode) (place : ℕ) → AreWhole nodes → NotWholeAt 1 0 nodes place → ⊥
whole_or_not nodes place whole fails = fills_or_not nodes 1 0 place (fills_from nodes whole) fails

pub not_whole_once : (nodes : List PackNode) (n read a b : ℕ) → NotWholeAt n read nodes a → NotWholeAt n read nodes b → a ≡ b
not_whole_once [] zero read a b one other = absurd one
not_whole_once [] (suc n) read a b one other = one ∙ sym other
not_whole_once (node ∷ nodes) zero read a b one other = one ∙ sym other
not_whole_once (Pair c d ∷ nodes) (suc n) read a b one other = not_whole_once nodes (suc (suc n)) (read + 1) a b one other
not_whole_once (Share s ∷ nodes) (suc n) read a b one other = not_whole_once nodes n (read + 1) a b one other
not_whole_once (Apart ∷ nodes) (suc n) read a b one other = not_whole_once nodes n (read + 1) a b one other
