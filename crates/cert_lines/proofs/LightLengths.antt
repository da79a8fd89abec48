-- The text of a light certificate: its groups by their edges, and its nodes along their tree.
use Rattle.std.proofs.Common.{◌≡◌, ℕ, ◌+◌, ◌*◌, ◌≤◌, List, [], ◌∷◌, ◌++◌, map, length, refl, sym, ap, subst, ◌∙◌, append_assoc, length-append, arith, lit<}
use Rattle.std.specs.List.{All, AllByRecursion, sum_by}
use Rattle.std.proofs.lemmas.List.{map-append}
use Rattle.std.proofs.lemmas.List.Elements.{recursion_from_All}
use Rattle.std.proofs.lemmas.List.Sums.{sum_by-cons}
use Rattle.branch_rules.specs.Bonds.{GroupWeight}
use Rattle.branch_rules.specs.Prices.{Prices}
use Rattle.branch_rules.specs.Trees.{Tree, pair, cut, price, void, fixed, preorder}
use Rattle.branch_rules.specs.declared.node.Node.{Node}
use Rattle.branch_rules.specs.declared.node.Node.TheVariants.{Pair, Cut, Price, Void, Fixed}
use Rattle.cert_lines.specs.Lengths.{IsShortCut, IsLight}
use Rattle.cert_lines.specs.Lines.{Line, node, end, words_of}
use Rattle.cert_lines.specs.Order.{children}
use Rattle.cert_lines.specs.Certificates.{Certificate}
use Rattle.cert_lines.specs.Spelling.{text_of, IsFineSet, IsFineNode}
use Rattle.cert_lines.proofs.FineNodes.{front_all, back_all}
use Rattle.cert_lines.proofs.Lengths.{edges_in, groups_room, fine_within, head_within}
use Rattle.cert_lines.proofs.Rooms.{numeral_within, room, lines_room}

-- Groups.

longer_are : (groups : List GroupWeight) → sum_by (λ (w : GroupWeight). length w.edges + 6) groups ≡ edges_in groups + 6 * length groups
longer_are [] = refl
longer_are (w ∷ groups) = omega (arith, sum_by-cons (λ (w : GroupWeight). length w.edges + 6) w groups, longer_are groups)

-- a group takes at most four bytes for each edge, and less than for six more
groups_by_edges : (groups : List GroupWeight) → 22 * length groups + 4 * edges_in groups ≤ 4 * sum_by (λ (w : GroupWeight). length w.edges + 6) groups
groups_by_edges groups = omega (arith, longer_are groups)

groups_few : (all : List Prices) (pool : List (List ℕ)) → AllByRecursion (IsFineSet pool) all →
    AllByRecursion (λ set. sum_by (λ (w : GroupWeight). length w.edges + 6) set.groups ≤ 5000) all → groups_room all ≤ 20000 * length all
groups_few [] pool fine few = omega arith
groups_few (set ∷ all) pool fine few =
    omega (
      arith,
      few.0,
      groups_by_edges set.groups,
      groups_few all pool fine.1 few.1,
    )

-- Nodes.

-- a leaf takes at most 10 bytes, and a node with two children at most 13
node_short : (borders units : ℕ) (x : Node) → borders ≤ 2000 → units ≤ 256 → IsFineNode borders units x → IsShortCut x → 2 * room (words_of (node x)) ≤ 20 + 3 * children x
node_short borders units (Pair a b) few some fine short =
    omega (
      arith,
      numeral_within 3 a (lit< tt) (omega (arith, fine)) (omega (arith, fine)),
      numeral_within 3 b (lit< tt) (omega (arith, fine)) (omega (arith, fine)),
    )
node_short borders units (Cut border k) few some fine short =
    omega (
      arith,
      numeral_within 4 border (lit< tt) (omega (arith, few, fine.0.to_last)) (omega (arith, few, fine.0.to_last)),
      numeral_within 3 k (lit< tt) (omega (arith, short)) (omega (arith, short)),
    )
node_short borders units (Price set) few some fine short =
    omega (arith, numeral_within 3 set (lit< tt) (omega (arith, some, fine.to_last)) (omega (arith, some, fine.to_last)))
node_short borders units Void few some fine short = omega arith
node_short borders units Fixed few some fine short = omega arith

-- the node is fine, and its cut is short
record IsSmall (borders units : ℕ) (x : Node) : Type 0 where
  fine : IsFineNode borders units x
  short : IsShortCut x

-- a tree has one leaf more than inner nodes, so that two of its nodes take at most 23 bytes, less 3
abbrev FitsTree : List Node → List Line → Type 0
FitsTree all rest = 2 * lines_room (map node all ++ rest) + 3 ≤ 23 * length all + 2 * lines_room rest

inner_fits : (x : Node) (one two : List Node) (rest : List Line) → 2 * room (words_of (node x)) ≤ 26 → FitsTree one (map node two ++ rest) → FitsTree two rest →
    FitsTree (x ∷ (one ++ two)) rest
inner_fits x one two rest short first second =
    let joined : map node one ++ (map node two ++ rest) ≡ map node (one ++ two) ++ rest =
    sym (append_assoc (map node one) (map node two) rest) ∙ ap (λ (ls : List Line). ls ++ rest) (sym (map-append node one two)) in
    omega (arith, short, first, second, ap lines_room joined, length-append one two)

tree_fits : (borders units : ℕ) → borders ≤ 2000 → units ≤ 256 → (t : Tree) (rest : List Line) → AllByRecursion (IsSmall borders units) (preorder t) → FitsTree (preorder t) rest
tree_fits borders units few some (pair a b together apart) rest all =
    inner_fits (Pair a b) (preorder together) (preorder apart) rest (node_short borders units (Pair a b) few some all.0.fine all.0.short)
    (tree_fits borders units few some together (map node (preorder apart) ++ rest) (front_all (IsSmall borders units) (preorder together) (preorder apart) all.1))
    (tree_fits borders units few some apart rest (back_all (IsSmall borders units) (preorder together) (preorder apart) all.1))
tree_fits borders units few some (cut shore k below above) rest all =
    inner_fits (Cut shore k) (preorder below) (preorder above) rest (node_short borders units (Cut shore k) few some all.0.fine all.0.short)
    (tree_fits borders units few some below (map node (preorder above) ++ rest) (front_all (IsSmall borders units) (preorder below) (preorder above) all.1))
    (tree_fits borders units few some above rest (back_all (IsSmall borders units) (preorder below) (preorder above) all.1))
tree_fits borders units few some (price set) rest all = omega (arith, node_short borders units (Price set) few some all.0.fine all.0.short)
tree_fits borders units few some void rest all = omega arith
tree_fits borders units few some fixed rest all = omega arith

nodes_fit : (c : Certificate) → IsLight c → FitsTree c.nodes (end ∷ [])
nodes_fit c light =
    let fine = light.fine in
    let all : All (IsSmall (length c.shores) (length c.sets)) c.nodes =
    λ k d within. record { fine = fine.nodes_fine k d within; short = light.short_cuts k d within } in
    subst (λ (all : List Node). FitsTree all (end ∷ [])) (sym fine.in_preorder)
    (tree_fits (length c.shores) (length c.sets) fine.few_shores fine.few_sets fine.tree (end ∷ [])
    (subst (AllByRecursion (IsSmall (length c.shores) (length c.sets))) fine.in_preorder (recursion_from_All (IsSmall (length c.shores) (length c.sets)) c.nodes all)))

-- The whole.

pub light_short : (c : Certificate) → IsLight c → length (text_of c) ≤ 64000000
light_short c light =
    let fine = light.fine in
    omega (
      arith,
      light.few_tours,
      fine.few_sets,
      fine.few_nodes,
      fine_within c fine,
      groups_few c.sets c.shores (recursion_from_All (IsFineSet c.shores) c.sets fine.sets_fine)
          (recursion_from_All (λ (set : Prices). sum_by (λ (w : GroupWeight). length w.edges + 6) set.groups ≤ 5000) c.sets light.short_groups),
      head_within c fine,
      nodes_fit c light,
    )
