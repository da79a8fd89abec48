-- A tree over the price sets that it names.
use Rattle.std.proofs.Common.{◌≡◌, ℕ, zero, suc, ◌+◌, ◌-◌, ◌≤◌, List, [], ◌∷◌, ◌++◌, length, map, refl, sym, ap, ◌∙◌, subst, arith, All, get_or}
use Rattle.std.specs.Prelude.{cond, nat_le}
use Rattle.std.specs.List.{AllByRecursion, Contains}
use Rattle.std.proofs.lemmas.List.{get_or_default, length-map, map-append}
use Rattle.std.proofs.lemmas.List.Elements.{All-map, recursion_from_All}
use Rattle.std.proofs.lemmas.List.Sums.{sum_by-cons}
use Rattle.decision_chains.specs.declared.decision.Decision.{Decision}
use Rattle.decision_chains.specs.declared.decision.Decision.TheVariants.{Yes, No, Low, High}
use Rattle.branch_rules.specs.Limits.{IsNodeIn}
use Rattle.branch_rules.specs.Prices.{Prices}
use Rattle.branch_rules.specs.Trees.{FixedShows, IsLean, PricesShow, Shows, Support, Tree, cut, fixed, no_prices, pair, preorder, price, set_at, void}
use Rattle.branch_rules.specs.declared.node.Node.{Node}
use Rattle.branch_rules.specs.declared.node.Node.TheVariants as nodes
use Rattle.grown_trees.specs.Growth.{AreNoted, IsNotedNode, IsSpelledNode, turns_in}
use Rattle.grown_trees.specs.Stands.{NodeShows, Stand, stands}
use Rattle.grown_trees.specs.declared.growing.GrowingNode.{GrowingNode}
use Rattle.tree_transfer.specs.Named.{AreNamedSets, IsNamed, renumbered, renumbered_entry}
use Rattle.tree_transfer.specs.NamedLaws.{StandsIn, with_only}

join_all : {X : Type 0} (P : X → Type 0) (xs ys : List X) → AllByRecursion P xs → AllByRecursion P ys → AllByRecursion P (xs ++ ys)
join_all P [] ys first second = second
join_all P (x ∷ xs) ys first second = (first.0, join_all P xs ys first.1 second)

part_all : {X : Type 0} (P : X → Type 0) (xs ys : List X) → AllByRecursion P (xs ++ ys) → AllByRecursion P xs × AllByRecursion P ys
part_all P [] ys all = (tt, all)
part_all P (x ∷ xs) ys all = let parts = part_all P xs ys all.1 in ((all.0, parts.0), parts.1)

-- the set of a number stands at the place before it
at_number : (c : Support) (n : ℕ) → 1 ≤ n → set_at c n ≡ get_or c.sets (n - 1) no_prices
at_number c zero some = absurd (omega (arith, some))
at_number c (suc k) some = let back : k ≡ suc k - 1 = omega arith in ap (λ i. get_or c.sets i no_prices) back

-- the tree with other numbers for its sets
abbrev tree_by : (number : ℕ → ℕ) → Tree → Tree
tree_by number (pair a b t u) = pair a b (tree_by number t) (tree_by number u)
tree_by number (cut shore k t u) = cut shore k (tree_by number t) (tree_by number u)
tree_by number (price set) = price (number set)
tree_by number void = void
tree_by number fixed = fixed

abbrev stand_by : (number : ℕ → ℕ) → Stand → Stand
stand_by number s = record { branch = s.branch; node = renumbered number s.node }

module _ (number : ℕ → ℕ) where
  preorder_by : (tree : Tree) → preorder (tree_by number tree) ≡ map (renumbered number) (preorder tree)
  preorder_by (pair a b t u) =
      ap (λ ns. nodes.Pair a b ∷ (ns ++ preorder (tree_by number u))) (preorder_by t) ∙ ap (λ ns. nodes.Pair a b ∷ (map (renumbered number) (preorder t) ++ ns)) (preorder_by u)
      ∙ ap (λ ns. nodes.Pair a b ∷ ns) (sym (map-append (renumbered number) (preorder t) (preorder u)))
  preorder_by (cut shore k t u) =
      ap (λ ns. nodes.Cut shore k ∷ (ns ++ preorder (tree_by number u))) (preorder_by t) ∙ ap (λ ns. nodes.Cut shore k ∷ (map (renumbered number) (preorder t) ++ ns)) (preorder_by u)
      ∙ ap (λ ns. nodes.Cut shore k ∷ ns) (sym (map-append (renumbered number) (preorder t) (preorder u)))
  preorder_by (price set) = refl
  preorder_by void = refl
  preorder_by fixed = refl

  stands_both : (head : Stand) (branch other : List Decision) (t u : Tree) →
      stands branch (tree_by number t) ≡ map (stand_by number) (stands branch t) → stands other (tree_by number u) ≡ map (stand_by number) (stands other u) →
      stand_by number head ∷ (stands branch (tree_by number t) ++ stands other (tree_by number u)) ≡ map (stand_by number) (head ∷ (stands branch t ++ stands other u))
  stands_both head branch other t u first second =
      ap (λ ss. stand_by number head ∷ (ss ++ stands other (tree_by number u))) first ∙ ap (λ ss. stand_by number head ∷ (map (stand_by number) (stands branch t) ++ ss)) second
      ∙ ap (λ ss. stand_by number head ∷ ss) (sym (map-append (stand_by number) (stands branch t) (stands other u)))

  stands_by : (branch : List Decision) (tree : Tree) → stands branch (tree_by number tree) ≡ map (stand_by number) (stands branch tree)
  stands_by branch (pair a b t u) =
      stands_both (record { branch = branch; node = nodes.Pair a b }) (branch ++ Yes a b ∷ []) (branch ++ No a b ∷ []) t u (stands_by (branch ++ Yes a b ∷ []) t) (stands_by (branch ++ No a b ∷ []) u)
  stands_by branch (cut shore k t u) =
      stands_both (record { branch = branch; node = nodes.Cut shore k }) (branch ++ Low shore k ∷ []) (branch ++ High shore k ∷ []) t u (stands_by (branch ++ Low shore k ∷ []) t)
      (stands_by (branch ++ High shore k ∷ []) u)
  stands_by branch (price set) = refl
  stands_by branch void = refl
  stands_by branch fixed = refl

-- the nodes of a tree are those of its stands
nodes_stand : (branch : List Decision) (tree : Tree) → map (λ (s : Stand). s.node) (stands branch tree) ≡ preorder tree
nodes_stand branch (pair a b t u) =
    ap (λ ns. nodes.Pair a b ∷ ns) (map-append (λ (s : Stand). s.node) (stands (branch ++ Yes a b ∷ []) t) (stands (branch ++ No a b ∷ []) u))
    ∙ ap (λ ns. nodes.Pair a b ∷ (ns ++ map (λ (s : Stand). s.node) (stands (branch ++ No a b ∷ []) u))) (nodes_stand (branch ++ Yes a b ∷ []) t)
    ∙ ap (λ ns. nodes.Pair a b ∷ (preorder t ++ ns)) (nodes_stand (branch ++ No a b ∷ []) u)
nodes_stand branch (cut shore k t u) =
    ap (λ ns. nodes.Cut shore k ∷ ns) (map-append (λ (s : Stand). s.node) (stands (branch ++ Low shore k ∷ []) t) (stands (branch ++ High shore k ∷ []) u))
    ∙ ap (λ ns. nodes.Cut shore k ∷ (ns ++ map (λ (s : Stand). s.node) (stands (branch ++ High shore k ∷ []) u))) (nodes_stand (branch ++ Low shore k ∷ []) t)
    ∙ ap (λ ns. nodes.Cut shore k ∷ (preorder t ++ ns)) (nodes_stand (branch ++ High shore k ∷ []) u)
nodes_stand branch (price set) = refl
nodes_stand branch void = refl
nodes_stand branch fixed = refl

-- the noted nodes are those of the tree
noted_nodes : (c : Support) (ss : List Stand) (es : List GrowingNode) → AreNoted c ss es → map (λ (e : GrowingNode). e.node) es ≡ map (λ (s : Stand). s.node) ss
noted_nodes c [] [] noted = refl
noted_nodes c [] (e ∷ es) noted = absurd noted
noted_nodes c (s ∷ ss) [] noted = absurd noted
noted_nodes c (s ∷ ss) (e ∷ es) noted =
    ap (λ n. n ∷ map (λ (x : GrowingNode). x.node) es) noted.0.same ∙ ap (λ ns. s.node ∷ ns) (noted_nodes c ss es noted.1)

pub noted_tree : (c : Support) (tree : Tree) (es : List GrowingNode) → AreNoted c (stands [] tree) es → map (λ (e : GrowingNode). e.node) es ≡ preorder tree
noted_tree c tree es noted = noted_nodes c (stands [] tree) es noted ∙ nodes_stand [] tree

module _ (number : ℕ → ℕ) (cost : ℕ) where
  abbrev counts : GrowingNode → ℕ
  counts e = cond (nat_le cost e.shows) 1 0

  turns_by : (es : List GrowingNode) → turns_in cost (map (renumbered_entry number) es) ≡ turns_in cost es
  turns_by [] = refl
  turns_by (e ∷ es) = sum_by-cons counts (renumbered_entry number e) (map (renumbered_entry number) es) ∙ ap (λ n. counts e + n) (turns_by es) ∙ sym (sum_by-cons counts e es)

module _ (c : Support) (new : List Prices) (number : ℕ → ℕ) where
  abbrev d : Support
  d = with_only c new

  -- a number of an old set, and that of the same set among the new ones
  record IsNumbered (set : ℕ) : Type 0 where
    pub from_one : 1 ≤ set
    pub in_range : set ≤ length c.sets
    pub new_from_one : 1 ≤ number set
    pub new_in_range : number set ≤ length new
    pub same : set_at d (number set) ≡ set_at c set

  abbrev NamesNumbered : Node → Type 0
  NamesNumbered (nodes.Pair a b) = Unit {0}
  NamesNumbered (nodes.Cut shore k) = Unit {0}
  NamesNumbered (nodes.Price set) = IsNumbered set
  NamesNumbered nodes.Void = Unit {0}
  NamesNumbered nodes.Fixed = Unit {0}

  prices_there : (branch : List Decision) (set : Prices) (bound : ℕ) → PricesShow c branch set bound → PricesShow d branch set bound
  prices_there branch set bound is = record { fits = is.fits; above = is.above }

  prices_back : (branch : List Decision) (set : Prices) (bound : ℕ) → PricesShow d branch set bound → PricesShow c branch set bound
  prices_back branch set bound is = record { fits = is.fits; above = is.above }

  fixed_there : (branch : List Decision) (bound : ℕ) → FixedShows c branch bound → FixedShows d branch bound
  fixed_there branch bound is = record { settled = is.settled; value = is.value; fixed = is.fixed; enough = is.enough }

  fixed_back : (branch : List Decision) (bound : ℕ) → FixedShows d branch bound → FixedShows c branch bound
  fixed_back branch bound is = record { settled = is.settled; value = is.value; fixed = is.fixed; enough = is.enough }

  there : (bound : ℕ) (branch : List Decision) (node : Node) → NamesNumbered node → NodeShows c bound branch node → NodeShows d bound branch (renumbered number node)
  there bound branch (nodes.Pair a b) names is = tt
  there bound branch (nodes.Cut shore k) names is = tt
  there bound branch (nodes.Price set) names is =
      (names.new_from_one, names.new_in_range, subst (λ (s : Prices). PricesShow d branch s bound) (sym names.same) (prices_there branch (set_at c set) bound is.2))
  there bound branch nodes.Void names is = is
  there bound branch nodes.Fixed names is = fixed_there branch bound is

  back : (bound : ℕ) (branch : List Decision) (node : Node) → NamesNumbered node → NodeShows d bound branch (renumbered number node) → NodeShows c bound branch node
  back bound branch (nodes.Pair a b) names is = tt
  back bound branch (nodes.Cut shore k) names is = tt
  back bound branch (nodes.Price set) names is =
      (names.from_one, names.in_range, prices_back branch (set_at c set) bound (subst (λ (s : Prices). PricesShow d branch s bound) names.same is.2))
  back bound branch nodes.Void names is = is
  back bound branch nodes.Fixed names is = fixed_back branch bound is

  shows_by : (branch : List Decision) (bound : ℕ) (tree : Tree) → AllByRecursion NamesNumbered (preorder tree) → Shows c branch bound tree → Shows d branch bound (tree_by number tree)
  shows_by branch bound (pair a b t u) names is =
      let parts = part_all NamesNumbered (preorder t) (preorder u) names.1 in
      (shows_by (branch ++ Yes a b ∷ []) bound t parts.0 is.0, shows_by (branch ++ No a b ∷ []) bound u parts.1 is.1)
  shows_by branch bound (cut shore k t u) names is =
      let parts = part_all NamesNumbered (preorder t) (preorder u) names.1 in
      (shows_by (branch ++ Low shore k ∷ []) bound t parts.0 is.0, shows_by (branch ++ High shore k ∷ []) bound u parts.1 is.1)
  shows_by branch bound (price set) names is = there bound branch (nodes.Price set) names.0 is
  shows_by branch bound void names is = is
  shows_by branch bound fixed names is = fixed_there branch bound is

  lean_by : (branch : List Decision) (cuts : ℕ) (tree : Tree) → IsLean c branch cuts tree → IsLean d branch cuts (tree_by number tree)
  lean_by branch cuts (pair a b t u) is = (is.0, lean_by (branch ++ Yes a b ∷ []) cuts t is.1, lean_by (branch ++ No a b ∷ []) cuts u is.2)
  lean_by branch cuts (cut shore k t u) is = (is.0, lean_by (branch ++ Low shore k ∷ []) (cuts - 1) t is.1, lean_by (branch ++ High shore k ∷ []) (cuts - 1) u is.2)
  lean_by branch cuts (price set) is = tt
  lean_by branch cuts void is = tt
  lean_by branch cuts fixed is = tt

  one_noted : (s : Stand) (e : GrowingNode) → NamesNumbered s.node → IsNotedNode c s e → IsNotedNode d (stand_by number s) (renumbered_entry number e)
  one_noted s e names is = record {
    same = ap (renumbered number) is.same;
    pairs = is.pairs;
    shores = is.shores;
    shows = λ bound small. (
      λ shown. (is.shows bound small).0 (back bound s.branch s.node names shown),
      λ within. there bound s.branch s.node names ((is.shows bound small).1 within),
    );
  }

  noted_by : (ss : List Stand) (es : List GrowingNode) → AllByRecursion NamesNumbered (map (λ (s : Stand). s.node) ss) → AreNoted c ss es → AreNoted d (map (stand_by number) ss) (map (renumbered_entry number) es)
  noted_by [] [] names noted = tt
  noted_by [] (e ∷ es) names noted = absurd noted
  noted_by (s ∷ ss) [] names noted = absurd noted
  noted_by (s ∷ ss) (e ∷ es) names noted = (one_noted s e names.0 noted.0, noted_by ss es names.1 noted.1)

  inside_by : (node : Node) → IsNodeIn c.problem c.pool node → IsNodeIn c.problem c.pool (renumbered number node)
  inside_by (nodes.Pair a b) is = is
  inside_by (nodes.Cut shore k) is = is
  inside_by (nodes.Price set) is = tt
  inside_by nodes.Void is = tt
  inside_by nodes.Fixed is = tt

  spelled_by : (node : Node) → NamesNumbered node → IsSpelledNode (length c.sets) node → IsSpelledNode (length new) (renumbered number node)
  spelled_by (nodes.Pair a b) names is = is
  spelled_by (nodes.Cut shore k) names is = is
  spelled_by (nodes.Price set) names is = (names.new_from_one, names.new_in_range)
  spelled_by nodes.Void names is = tt
  spelled_by nodes.Fixed names is = tt

module _ (c : Support) (new : List Prices) (before after : List GrowingNode) (tree : Tree) (spelled : All (IsSpelledNode (length c.sets)) (preorder tree)) (noted : AreNoted c (stands [] tree) before)
    (named : AreNamedSets c.sets new before after) where
  abbrev number : ℕ → ℕ
  number = named.number

  all_nodes : map (λ (e : GrowingNode). e.node) before ≡ preorder tree
  all_nodes = noted_tree c tree before noted

  names_numbered : (node : Node) → IsSpelledNode (length c.sets) node → Contains (map (λ (e : GrowingNode). e.node) before) node → NamesNumbered c new number node
  names_numbered (nodes.Pair a b) is there = tt
  names_numbered (nodes.Cut shore k) is there = tt
  names_numbered (nodes.Price set) is there = record {
    from_one = is.0;
    in_range = is.1;
    new_from_one = named.from_one set there;
    new_in_range = named.in_range set there;
    same = at_number (with_only c new) (number set) (named.from_one set there) ∙ named.same set no_prices there ∙ sym (at_number c set is.0);
  }
  names_numbered nodes.Void is there = tt
  names_numbered nodes.Fixed is there = tt

  all_numbered : All (NamesNumbered c new number) (preorder tree)
  all_numbered = λ k d less.
      let node = get_or (preorder tree) k d in
      let here : get_or (preorder tree) k node ≡ node = get_or_default (preorder tree) k node d less in
      names_numbered node (spelled k d less) (subst (λ (ns : List Node). Contains ns node) (sym all_nodes) (k, less, here))

  -- a number that is named is that of an old set
  spelled_set : (set : ℕ) → IsNamed before set → IsSpelledNode (length c.sets) (nodes.Price set)
  spelled_set set there =
      let (k, less, is) = subst (λ (ns : List Node). Contains ns (nodes.Price set)) all_nodes there in
      subst (IsSpelledNode (length c.sets)) is (spelled k (nodes.Price set) less)

  by_recursion : AllByRecursion (NamesNumbered c new number) (preorder tree)
  by_recursion = recursion_from_All (NamesNumbered c new number) (preorder tree) all_numbered

  -- each new set is that of an old number
  from_old : All (Contains c.sets) new
  from_old = λ k d less.
      let (set, there, is) = named.no_other (k + 1) (omega arith) (omega (arith, less)) in
      let x = get_or new k d in
      let new_place : number set - 1 ≡ k = omega (arith, is) in
      let numbered = names_numbered (nodes.Price set) (spelled_set set there) there in
      (set - 1, omega (arith, numbered.from_one, numbered.in_range), sym (named.same set x there) ∙ ap (λ i. get_or new i x) new_place ∙ get_or_default new k x d less)

  pub stands_in : StandsIn c new before after tree
  stands_in = record {
    other = tree_by number tree;
    noted =
        subst (λ (es : List GrowingNode). AreNoted (with_only c new) (stands [] (tree_by number tree)) es) (sym named.nodes)
        (subst (λ (ss : List Stand). AreNoted (with_only c new) ss (map (renumbered_entry number) before)) (sym (stands_by number [] tree))
        (noted_by c new number (stands [] tree) before (subst (AllByRecursion (NamesNumbered c new number)) (sym (nodes_stand [] tree)) by_recursion) noted));
    inside = λ inside.
        subst (All (IsNodeIn c.problem c.pool)) (sym (preorder_by number tree))
        (All-map (IsNodeIn c.problem c.pool) (renumbered number) (preorder tree) (λ k d less. inside_by c new number (get_or (preorder tree) k d) (inside k d less)));
    spelled =
        subst (All (IsSpelledNode (length new))) (sym (preorder_by number tree))
        (All-map (IsSpelledNode (length new)) (renumbered number) (preorder tree) (λ k d less. spelled_by c new number (get_or (preorder tree) k d) (all_numbered k d less) (spelled k d less)));
    lean = λ cuts lean. lean_by c new number [] cuts tree lean;
    shows = λ bound shows. shows_by c new number [] bound tree by_recursion shows;
    old_sets = from_old;
    as_long = ap length (preorder_by number tree) ∙ length-map (preorder tree) (renumbered number);
    turns = λ cost. ap (turns_in cost) named.nodes ∙ turns_by number cost before;
  }
