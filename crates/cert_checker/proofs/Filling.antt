-- Nodes that fill one tree: a branch waits for each of them, and they are the preorder of a tree.
use Rattle.std.proofs.Common.{◌≡◌, ℕ, suc, ◌+◌, ◌-◌, ◌≤◌, ◌<◌, true, false, Bool, List, [], ◌∷◌, ◌++◌, length, take, drop, refl, sym, ap, ◌∙◌, subst, arith, None, append_assoc, append-nil, length-drop}
use Rattle.std.specs.List.{flat_map}
use Rattle.std.proofs.lemmas.List.{take-append-drop}
use Rattle.decision_chains.specs.declared.decision.Decision.{Decision}
use Rattle.branch_rules.specs.Trees.{Support, Tree, pair, cut, price, void, fixed, preorder}
use Rattle.branch_rules.specs.declared.node.Node.{Node}
use Rattle.branch_rules.specs.declared.node.Node.TheVariants as nodes
use Rattle.cert_lines.specs.Order.{open_after}
use Rattle.cert_checker.specs.declared.checker.Checker.{Checker}
use Rattle.branch_rules.specs.declared.path.Path.{Path}
use Rattle.branch_rules.specs.Waiting.{waiting_after}
use Rattle.branch_rules.specs.Paths.{IsOpen, waits}
use Rattle.cert_checker.specs.Streams.{Fits}
use Rattle.cert_checker.specs.Walks.{Fills, HasWalked, Walked, waiting_for}

waiting_long : (branch : List Decision) (node : Node) (waiting : List (List Decision)) → length (waiting_after branch node waiting) ≡ open_after (suc (length waiting)) node
waiting_long branch (nodes.Pair a b) waiting = omega arith
waiting_long branch (nodes.Cut border k) waiting = omega arith
waiting_long branch (nodes.Price set) waiting = omega arith
waiting_long branch nodes.Void waiting = omega arith
waiting_long branch nodes.Fixed waiting = omega arith

fills_left : (taken more : List Node) (waiting : List (List Decision)) → Fills (taken ++ more) (length waiting) → Fills more (length (waiting_for taken waiting))
fills_left [] more waiting fills = fills
fills_left (x ∷ taken) more [] fills = absurd (omega (arith, fills.0))
fills_left (x ∷ taken) more (b ∷ waiting) fills = fills_left taken more (waiting_after b x waiting) (subst (Fills (taken ++ more)) (sym (waiting_long b x waiting)) fills.1)

some_left : (more : List Node) (n : ℕ) → Fills more n → 1 ≤ length more → 1 ≤ n
some_left [] n fills some = absurd (omega (arith, some))
some_left (x ∷ more) n fills some = fills.0

not_whole : (path : Path) (whole : Bool) → path.whole ≡ whole → 1 ≤ length (waits path) → IsOpen path
not_whole path false is some = is
not_whole path true is some =
    let none : waits path ≡ [] = rw is refl in
    absurd (omega (arith, some, ap length none))

-- where a node is still to come, the path goes on
pub goes_on : (s : Support) (bound : ℕ) (all : List Node) (place : ℕ) (checker : Checker) → Fills all 1 → place < length all → HasWalked s bound checker (take place all) → checker.reason ≡ None → IsOpen checker.path
goes_on s bound all place checker fills less walked none =
    let was : Walked s bound (take place all) None checker.taken (waits checker.path) = subst (λ r. Walked s bound (take place all) r checker.taken (waits checker.path)) none walked in
    let cut : Fills (take place all ++ drop place all) 1 = subst (λ xs. Fills xs 1) (sym (take-append-drop place all)) fills in
    let left = fills_left (take place all) (drop place all) ([] ∷ []) cut in
    let some : 1 ≤ length (waiting_for (take place all) ([] ∷ [])) = some_left (drop place all) _ left (omega (arith, length-drop place all, less)) in
    not_whole checker.path checker.path.whole refl (omega (arith, some, ap length was.2))

-- Trees.

abbrev TwoFirst : List Tree → Type 0
TwoFirst trees = (t u : Tree) × (rest : List Tree) × (trees ≡ t ∷ (u ∷ rest))

two_first : (trees : List Tree) (n : ℕ) → length trees ≡ n → 2 ≤ n → TwoFirst trees
two_first [] n is some = absurd (omega (arith, is, some))
two_first (t ∷ []) n is some = absurd (omega (arith, is, some))
two_first (t ∷ (u ∷ rest)) n is some = (t, u, rest, refl)

abbrev Forest : List Node → ℕ → Type 0
Forest all n = (trees : List Tree) × (length trees ≡ n) × (flat_map preorder trees ≡ all)

joined : (top : Node) (join : Tree → Tree → Tree) (all : List Node) (n : ℕ) → ((t u : Tree) → preorder (join t u) ≡ top ∷ (preorder t ++ preorder u)) → 1 ≤ n → Forest all (n - 1 + 2) → Forest (top ∷ all) n
joined top join all n reads some forest =
    let two = two_first forest.0 (n - 1 + 2) forest.1 (omega arith) in
    let t = two.0 in
    let u = two.1 in
    let rest = two.2 in
    let are : preorder t ++ (preorder u ++ flat_map preorder rest) ≡ all = ap (flat_map preorder) (sym two.3) ∙ forest.2 in (
      join t u ∷ rest,
      omega (arith, some, forest.1, ap length two.3),
      ap (λ (xs : List Node). xs ++ flat_map preorder rest) (reads t u)
          ∙ ap (λ (xs : List Node). top ∷ xs) (append_assoc (preorder t) (preorder u) (flat_map preorder rest) ∙ are),
    )

alone : (top : Node) (leaf : Tree) (all : List Node) (n : ℕ) → preorder leaf ≡ top ∷ [] → 1 ≤ n → Forest all (n - 1 + 0) → Forest (top ∷ all) n
alone top leaf all n reads some forest =
    (leaf ∷ forest.0, omega (arith, some, forest.1), ap (λ (xs : List Node). xs ++ flat_map preorder forest.0) reads ∙ ap (λ (xs : List Node). top ∷ xs) forest.2)

grow : (all : List Node) (n : ℕ) → Fills all n → Forest all n
grow [] n fills = ([], sym fills, refl)
grow (nodes.Pair a b ∷ all) n fills = joined (nodes.Pair a b) (pair a b) all n (λ t u. refl) fills.0 (grow all _ fills.1)
grow (nodes.Cut border k ∷ all) n fills = joined (nodes.Cut border k) (cut border k) all n (λ t u. refl) fills.0 (grow all _ fills.1)
grow (nodes.Price set ∷ all) n fills = alone (nodes.Price set) (price set) all n refl fills.0 (grow all _ fills.1)
grow (nodes.Void ∷ all) n fills = alone nodes.Void void all n refl fills.0 (grow all _ fills.1)
grow (nodes.Fixed ∷ all) n fills = alone nodes.Fixed fixed all n refl fills.0 (grow all _ fills.1)

one_of : (trees : List Tree) (all : List Node) → length trees ≡ 1 → flat_map preorder trees ≡ all → (tree : Tree) × (preorder tree ≡ all)
one_of [] all one is = absurd (omega (arith, one))
one_of (t ∷ []) all one is = (t, sym (append-nil (preorder t)) ∙ is)
one_of (t ∷ (u ∷ rest)) all one is = absurd (omega (arith, one))

-- the nodes are those of a tree
pub tree_of : (all : List Node) → Fills all 1 → (tree : Tree) × (preorder tree ≡ all)
tree_of all fills = let forest = grow all 1 fills in one_of forest.0 all forest.1 forest.2

-- Nodes so far.

one_waits : (taken : List Node) (x : Node) (waiting : List (List Decision)) → Fits (taken ++ x ∷ []) (length waiting) → 1 ≤ length (waiting_for taken waiting)
one_waits [] x waiting fits = fits.0
one_waits (y ∷ taken) x [] fits = absurd (omega (arith, fits.0))
one_waits (y ∷ taken) x (b ∷ waiting) fits = one_waits taken x (waiting_after b y waiting) (subst (Fits (taken ++ x ∷ [])) (sym (waiting_long b y waiting)) fits.1)

-- where a node comes after those so far, the path goes on
pub goes_so_far : (s : Support) (bound : ℕ) (taken : List Node) (x : Node) (checker : Checker) → Fits (taken ++ x ∷ []) 1 → HasWalked s bound checker taken → checker.reason ≡ None → IsOpen checker.path
goes_so_far s bound taken x checker fits walked none =
    let was : Walked s bound taken None checker.taken (waits checker.path) = subst (λ r. Walked s bound taken r checker.taken (waits checker.path)) none walked in
    not_whole checker.path checker.path.whole refl (omega (arith, one_waits taken x ([] ∷ []) fits, ap length was.2))
