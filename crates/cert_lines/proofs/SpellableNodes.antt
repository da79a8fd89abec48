-- Nodes that follow each other until the tree is whole are a tree in preorder.
use Rattle.std.proofs.Common.{◌≡◌, ℕ, zero, suc, ◌+◌, ◌-◌, ◌≤◌, ◌↔◌, List, [], ◌∷◌, ◌++◌, map, length, refl, sym, ap, subst, ◌∙◌, append_assoc, arith}
use Rattle.std.specs.List.{AllByRecursion, flat_map}
use Rattle.std.proofs.lemmas.List.{append-nil}
use Rattle.branch_rules.specs.Trees.{Tree, pair, cut, price, void, fixed, preorder}
use Rattle.branch_rules.specs.declared.node.Node.{Node}
use Rattle.branch_rules.specs.declared.node.Node.TheVariants.{Pair, Cut, Price, Void, Fixed}
use Rattle.cert_lines.specs.declared.next.Next.{Next}
use Rattle.cert_lines.specs.Lines.{Line, node, nodes}
use Rattle.cert_lines.specs.Order.{LatestFirst, next_of, left_of, open_of, children, open_after, nodes_to_come}
use Rattle.cert_lines.specs.Certificates.{shores_of, sets_of}
use Rattle.cert_lines.specs.Ranges.{IsNodeInRange}
use Rattle.cert_lines.specs.Agreement.{IsPairInOrder, BecomesWhole}
use Rattle.cert_lines.specs.Spelling.{AreGood, IsFineNode}

-- The nodes are fine.

node_fine : (borders units : ℕ) (x : Node) → IsNodeInRange borders units x → IsPairInOrder x → IsFineNode borders units x
node_fine borders units (Pair a b) inside order = (inside.0.from_first, order, inside.1.to_last)
node_fine borders units (Cut border k) inside order = inside
node_fine borders units (Price set) inside order = inside
node_fine borders units Void inside order = tt
node_fine borders units Fixed inside order = tt

pub nodes_fine : (all : List Node) (borders units : ℕ) (said : LatestFirst) (lines : List Line) → length (shores_of said) ≡ borders → length (sets_of said) ≡ units →
    AreGood said (map node all ++ lines) → AllByRecursion (IsFineNode borders units) all
nodes_fine [] borders units said lines many sets good = tt
nodes_fine (x ∷ all) borders units said lines many sets good =
    let inside : IsNodeInRange borders units x =
    subst (λ (n : ℕ). IsNodeInRange borders n x) sets (subst (λ (n : ℕ). IsNodeInRange n (length (sets_of said)) x) many good.1) in
    (node_fine borders units x inside good.2.0, nodes_fine all borders units (node x ∷ said) lines many sets good.3)

-- The trees that they are.

record Forest (subtrees : ℕ) (all : List Node) : Type 0 where
  trees : List Tree
  count : length trees ≡ subtrees
  are : all ≡ flat_map preorder trees

leaf_first : (t : Tree) (x : Node) (subtrees more : ℕ) (all : List Node) → preorder t ≡ x ∷ [] → more ≡ subtrees → Forest more all → Forest (suc subtrees) (x ∷ all)
leaf_first t x subtrees more all is same forest = record {
  trees = t ∷ forest.trees;
  count = ap suc (forest.count ∙ same);
  are = (λ i. x ∷ forest.are i) ∙ ap (λ (front : List Node). front ++ flat_map preorder forest.trees) (sym is);
}

-- a node with two subtrees, the first two of those that follow
two_first : (join : Tree → Tree → Tree) (x : Node) (subtrees more : ℕ) (all : List Node) → ((one two : Tree) → preorder (join one two) ≡ x ∷ (preorder one ++ preorder two)) →
    more ≡ suc (suc subtrees) → (trees : List Tree) → length trees ≡ more → all ≡ flat_map preorder trees → Forest (suc subtrees) (x ∷ all)
two_first join x subtrees more all is same [] count are = absurd (omega arith)
two_first join x subtrees more all is same (one ∷ []) count are = absurd (omega arith)
two_first join x subtrees more all is same (one ∷ two ∷ trees) count are = record {
  trees = join one two ∷ trees;
  count = omega arith;
  are = (λ i. x ∷ are i) ∙ (λ i. x ∷ sym (append_assoc (preorder one) (preorder two) (flat_map preorder trees)) i)
      ∙ ap (λ (front : List Node). front ++ flat_map preorder trees) (sym (is one two));
}

node_first : (x : Node) (subtrees : ℕ) (all : List Node) → Forest (subtrees + children x) all → Forest (suc subtrees) (x ∷ all)
node_first (Pair a b) subtrees all forest = two_first (pair a b) (Pair a b) subtrees (subtrees + 2) all (λ one two. refl) (omega arith) forest.trees forest.count forest.are
node_first (Cut border k) subtrees all forest = two_first (cut border k) (Cut border k) subtrees (subtrees + 2) all (λ one two. refl) (omega arith) forest.trees forest.count forest.are
node_first (Price set) subtrees all forest = leaf_first (price set) (Price set) subtrees (subtrees + 0) all refl (omega arith) forest
node_first Void subtrees all forest = leaf_first void Void subtrees (subtrees + 0) all refl (omega arith) forest
node_first Fixed subtrees all forest = leaf_first fixed Fixed subtrees (subtrees + 0) all refl (omega arith) forest

-- where nodes are to come exactly where subtrees are, this is so after a node too
still : (left subtrees : ℕ) (x : Node) → BecomesWhole (suc left) (suc subtrees) x → ((left ≡ 0) ↔ (subtrees + children x ≡ 0))
still left subtrees x whole =
    (λ e. let last : open_after (suc subtrees) x ≡ 0 = whole.1 (omega arith) in omega arith, λ e. let last : suc left ≡ 1 = whole.0 (omega arith) in omega arith)

forest_of : (all : List Node) (subtrees : ℕ) (said : LatestFirst) (lines : List Line) → next_of said ≡ nodes_to_come (length all) subtrees →
    ((length all ≡ 0) ↔ (subtrees ≡ 0)) → AreGood said (map node all ++ lines) → Forest subtrees all
forest_of [] subtrees said lines at both good = record { trees = []; count = sym (both.0 refl); are = refl }
forest_of (x ∷ all) zero said lines at both good = absurd (omega (arith, both.1 refl))
forest_of (x ∷ all) (suc subtrees) said lines at both good =
    let whole : BecomesWhole (suc (length all)) (suc subtrees) x = subst (λ (y : Next). BecomesWhole (left_of y) (open_of y) x) at good.2.1 in
    let less : (n : ℕ) → suc n - 1 ≡ n = λ n. omega arith in
    node_first x subtrees all
    (forest_of all (subtrees + children x) (node x ∷ said) lines
    (ap (λ (y : Next). nodes_to_come (left_of y - 1) (open_after (open_of y) x)) at ∙ (λ i. nodes_to_come (less (length all) i) (less subtrees i + children x)))
    (still (length all) subtrees x whole) good.3)

only_tree : (all : List Node) (trees : List Tree) → length trees ≡ 1 → all ≡ flat_map preorder trees → (t : Tree) × (all ≡ preorder t)
only_tree all [] count are = absurd (omega arith)
only_tree all (t ∷ []) count are = (t, are ∙ append-nil (preorder t))
only_tree all (t ∷ other ∷ trees) count are = absurd (omega arith)

pub tree_of : (all : List Node) (said : LatestFirst) (lines : List Line) → 1 ≤ length all → AreGood (nodes (length all) ∷ said) (map node all ++ lines) →
    (t : Tree) × (all ≡ preorder t)
tree_of all said lines some good =
    let forest = forest_of all 1 (nodes (length all) ∷ said) lines refl (λ e. absurd (omega arith), λ e. absurd (omega arith)) good in
    only_tree all forest.trees forest.count forest.are
