-- The nodes of a tree in preorder follow each other, and the tree becomes whole at the last.
use Rattle.std.proofs.Common.{◌≡◌, ℕ, suc, ◌+◌, ◌-◌, ◌<◌, ◌≤◌, ◌↔◌, List, [], ◌∷◌, ◌++◌, map, length, IsTrue, refl, sym, ap, subst, ◌∙◌, append_assoc, arith, length-append}
use Rattle.std.specs.List.{AllByRecursion}
use Rattle.std.proofs.lemmas.List.{map-append}
use Rattle.branch_rules.specs.Trees.{Tree, pair, cut, price, void, fixed, preorder}
use Rattle.branch_rules.specs.declared.node.Node.{Node}
use Rattle.branch_rules.specs.declared.node.Node.TheVariants.{Pair, Cut, Price, Void, Fixed}
use Rattle.cert_lines.specs.declared.next.Next.{Next}
use Rattle.cert_lines.specs.declared.next.Next.TheVariants as stands
use Rattle.cert_lines.specs.Lines.{Line, node, nodes, end}
use Rattle.cert_lines.specs.Order.{LatestFirst, next_of, follows, left_of, open_of, children, open_after, nodes_to_come}
use Rattle.cert_lines.specs.Certificates.{shores_of, sets_of}
use Rattle.cert_lines.specs.Ranges.{IsNodeInRange}
use Rattle.cert_lines.specs.Agreement.{IsPairInOrder, BecomesWhole}
use Rattle.cert_lines.specs.Spelling.{AreGood, IsFineNode}

-- so many shores and price sets were read
pub record Holds (borders units : ℕ) (said : LatestFirst) : Type 0 where
  pub borders_are : length (shores_of said) ≡ borders
  pub units_are : length (sets_of said) ≡ units

-- the lines are good, wherever so many nodes and so many whole subtrees are to come
pub record Goes (borders units left subtrees : ℕ) (lines : List Line) : Type 0 where
  pub good : (said : LatestFirst) → next_of said ≡ nodes_to_come left subtrees → Holds borders units said → AreGood said lines

in_range : (borders units : ℕ) (x : Node) → IsFineNode borders units x → IsNodeInRange borders units x
in_range borders units (Pair a b) fine =
    (record { from_first = fine.0; to_last = omega arith }, record { from_first = omega arith; to_last = fine.2 })
in_range borders units (Cut border k) fine = fine
in_range borders units (Price set) fine = fine
in_range borders units Void fine = tt
in_range borders units Fixed fine = tt

in_order : (borders units : ℕ) (x : Node) → IsFineNode borders units x → IsPairInOrder x
in_order borders units (Pair a b) fine = fine.1
in_order borders units (Cut border k) fine = tt
in_order borders units (Price set) fine = tt
in_order borders units Void fine = tt
in_order borders units Fixed fine = tt

becomes : (left subtrees : ℕ) (x : Node) → ((left ≡ 0) ↔ (subtrees + children x ≡ 0)) → BecomesWhole (suc left) (suc subtrees) x
becomes left subtrees x both =
    (λ e. let none : left ≡ 0 = both.1 (omega arith) in omega arith, λ e. let none : subtrees + children x ≡ 0 = both.0 (omega arith) in omega arith)

node_goes : (borders units left subtrees : ℕ) (x : Node) (lines : List Line) → IsFineNode borders units x → ((left ≡ 0) ↔ (subtrees + children x ≡ 0)) →
    Goes borders units left (subtrees + children x) lines → Goes borders units (suc left) (suc subtrees) (node x ∷ lines)
node_goes borders units left subtrees x lines fine both goes = record {
  good = λ said at holds. (
    subst (λ (y : Next). IsTrue (follows y (node x))) (sym at) refl,
    subst (λ (n : ℕ). IsNodeInRange n (length (sets_of said)) x) (sym holds.borders_are)
        (subst (λ (n : ℕ). IsNodeInRange borders n x) (sym holds.units_are) (in_range borders units x fine)),
    (in_order borders units x fine, subst (λ (y : Next). BecomesWhole (left_of y) (open_of y) x) (sym at) (becomes left subtrees x both)),
    goes.good (node x ∷ said)
        (ap (λ (y : Next). nodes_to_come (left_of y - 1) (open_after (open_of y) x)) at ∙ (λ i. nodes_to_come (less left i) (less subtrees i + children x)))
        (record { borders_are = holds.borders_are; units_are = holds.units_are }),
  );
}
  where
    less : (n : ℕ) → suc n - 1 ≡ n
    less n = omega arith

leaf_goes : (borders units left subtrees : ℕ) (x : Node) (lines : List Line) → children x ≡ 0 → IsFineNode borders units x → ((left ≡ 0) ↔ (subtrees ≡ 0)) →
    Goes borders units left subtrees lines → Goes borders units (1 + left) (suc subtrees) (node x ∷ lines)
leaf_goes borders units left subtrees x lines none fine both goes =
    let same : subtrees ≡ subtrees + children x = omega arith in
    let step : suc left ≡ 1 + left = omega arith in
    subst (λ (n : ℕ). Goes borders units n (suc subtrees) (node x ∷ lines)) step
    (node_goes borders units left subtrees x lines fine (subst (λ (n : ℕ). (left ≡ 0) ↔ (n ≡ 0)) same both)
    (subst (λ (n : ℕ). Goes borders units left n lines) same goes))

some_nodes : (t : Tree) → 0 < length (preorder t)
some_nodes (pair a b together apart) = omega arith
some_nodes (cut shore k below above) = omega arith
some_nodes (price set) = omega arith
some_nodes void = omega arith
some_nodes fixed = omega arith

pub front_all : (P : Node → Type 0) (xs ys : List Node) → AllByRecursion P (xs ++ ys) → AllByRecursion P xs
front_all P [] ys all = tt
front_all P (x ∷ xs) ys all = (all.0, front_all P xs ys all.1)

pub back_all : (P : Node → Type 0) (xs ys : List Node) → AllByRecursion P (xs ++ ys) → AllByRecursion P ys
back_all P [] ys all = all
back_all P (x ∷ xs) ys all = back_all P xs ys all.1

inner_goes : (borders units left subtrees : ℕ) (x : Node) (one two : List Node) (lines : List Line) → children x ≡ 2 → IsFineNode borders units x → 0 < length two →
    Goes borders units (length one + (length two + left)) (suc (suc subtrees)) (map node one ++ (map node two ++ lines)) →
    Goes borders units (length (x ∷ (one ++ two)) + left) (suc subtrees) (map node (x ∷ (one ++ two)) ++ lines)
inner_goes borders units left subtrees x one two lines both fine some goes =
    let more : suc (suc subtrees) ≡ subtrees + children x = omega arith in
    let total : suc (length one + (length two + left)) ≡ length (x ∷ (one ++ two)) + left = omega (arith, length-append one two) in
    let joined : map node one ++ (map node two ++ lines) ≡ map node (one ++ two) ++ lines =
    sym (append_assoc (map node one) (map node two) lines) ∙ ap (λ (ls : List Line). ls ++ lines) (sym (map-append node one two)) in
    let whole : (length one + (length two + left) ≡ 0) ↔ (subtrees + children x ≡ 0) = (λ e. absurd (omega arith), λ e. absurd (omega arith)) in
    let there : Goes borders units (suc (length one + (length two + left))) (suc subtrees) (node x ∷ (map node one ++ (map node two ++ lines))) =
    node_goes borders units (length one + (length two + left)) subtrees x (map node one ++ (map node two ++ lines)) fine whole
    (subst (λ (n : ℕ). Goes borders units (length one + (length two + left)) n (map node one ++ (map node two ++ lines))) more goes) in
    subst (λ (n : ℕ). Goes borders units n (suc subtrees) (map node (x ∷ (one ++ two)) ++ lines)) total
    (subst (λ (ls : List Line). Goes borders units (suc (length one + (length two + left))) (suc subtrees) (node x ∷ ls)) joined there)

two_open : (n left subtrees : ℕ) → 0 < n → ((n + left ≡ 0) ↔ (suc subtrees ≡ 0))
two_open n left subtrees some = (λ e. absurd (omega arith), λ e. absurd (omega arith))

tree_goes : (t : Tree) (borders units left subtrees : ℕ) (lines : List Line) → AllByRecursion (IsFineNode borders units) (preorder t) →
    ((left ≡ 0) ↔ (subtrees ≡ 0)) → Goes borders units left subtrees lines →
    Goes borders units (length (preorder t) + left) (suc subtrees) (map node (preorder t) ++ lines)
tree_goes (price set) borders units left subtrees lines fine both goes = leaf_goes borders units left subtrees (Price set) lines refl fine.0 both goes
tree_goes void borders units left subtrees lines fine both goes = leaf_goes borders units left subtrees Void lines refl tt both goes
tree_goes fixed borders units left subtrees lines fine both goes = leaf_goes borders units left subtrees Fixed lines refl tt both goes
tree_goes (pair a b together apart) borders units left subtrees lines fine both goes =
    let some = some_nodes apart in
    inner_goes borders units left subtrees (Pair a b) (preorder together) (preorder apart) lines refl fine.0 some
    (tree_goes together borders units (length (preorder apart) + left) (suc subtrees) (map node (preorder apart) ++ lines)
    (front_all (IsFineNode borders units) (preorder together) (preorder apart) fine.1) (two_open (length (preorder apart)) left subtrees some)
    (tree_goes apart borders units left subtrees lines (back_all (IsFineNode borders units) (preorder together) (preorder apart) fine.1) both goes))
tree_goes (cut shore k below above) borders units left subtrees lines fine both goes =
    let some = some_nodes above in
    inner_goes borders units left subtrees (Cut shore k) (preorder below) (preorder above) lines refl fine.0 some
    (tree_goes below borders units (length (preorder above) + left) (suc subtrees) (map node (preorder above) ++ lines)
    (front_all (IsFineNode borders units) (preorder below) (preorder above) fine.1) (two_open (length (preorder above)) left subtrees some)
    (tree_goes above borders units left subtrees lines (back_all (IsFineNode borders units) (preorder below) (preorder above) fine.1) both goes))

end_goes : (borders units : ℕ) → Goes borders units 0 0 (end ∷ [])
end_goes borders units = record { good = λ said at holds. (subst (λ (y : Next). IsTrue (follows y end)) (sym at) refl, tt, tt, tt) }

-- the nodes of a tree are good lines, up to the end
pub nodes_good : (all : List Node) (t : Tree) (borders units : ℕ) → all ≡ preorder t → length all ≤ 2097153 → AllByRecursion (IsFineNode borders units) all →
    (said : LatestFirst) → next_of said ≡ stands.Nodes → Holds borders units said → AreGood said (nodes (length all) ∷ (map node all ++ end ∷ []))
nodes_good all t borders units is few fine said at holds =
    let whole = tree_goes t borders units 0 0 (end ∷ []) (subst (AllByRecursion (IsFineNode borders units)) is fine) (λ e. refl, λ e. refl) (end_goes borders units) in
    let some : 1 ≤ length all = omega (arith, ap length is, some_nodes t) in
    let total : length (preorder t) + 0 ≡ length all = omega (arith, ap length is) in
    let there : Goes borders units (length all) 1 (map node all ++ end ∷ []) =
    subst (λ (n : ℕ). Goes borders units n 1 (map node all ++ end ∷ [])) total
    (subst (λ (xs : List Node). Goes borders units (length (preorder t) + 0) 1 (map node xs ++ end ∷ [])) (sym is) whole) in (
      subst (λ (y : Next). IsTrue (follows y (nodes (length all)))) (sym at) refl,
      record { from_first = some; to_last = few },
      tt,
      there.good (nodes (length all) ∷ said) refl (record { borders_are = holds.borders_are; units_are = holds.units_are }),
    )
