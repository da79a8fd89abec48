-- The tree whose nodes these are.
use Rattle.std.proofs.Common.{◌≡◌, ℕ, ◌+◌, ◌≤◌, if◌then◌else◌, nat_le, List, [], ◌∷◌, ◌++◌, length, refl, sym, ap, ◌∙◌, subst, arith, append_assoc, append-nil}
use Rattle.std.specs.List.{All, flat_map}
use Rattle.std.proofs.lemmas.List.Sums.{sum_by-cons}
use Rattle.std.proofs.lemmas.List.Elements.{All-nil, All-cons, All-head, All-tail}
use Rattle.std.proofs.lemmas.Bool.{le-leb}
use Rattle.carp_base.specs.Problem.{Problem}
use Rattle.packing_trees.specs.declared.node.PackChoice.{PackChoice}
use Rattle.packing_trees.specs.declared.node.PackChoice.TheVariants as choices
use Rattle.packing_trees.specs.declared.node.PackNode.{PackNode}
use Rattle.packing_trees.specs.declared.node.PackNode.TheVariants as nodes
use Rattle.packing_trees.specs.Bundles.{bundle_count, share_value}
use Rattle.packing_trees.specs.Reasons.{branches_below}
use Rattle.packing_trees.specs.Trees.{PackTree, pair, share, settled, preorder, PairsIn, IsLean, Shows, turns_of}
use Rattle.fleet_pack.specs.declared.share.Share.{Share}
use Rattle.fleet_pack.specs.States.{waiting_for, NodesAre, AreLeaves, leaves_of, IsDone, IsState, closed_count, IsLeastValue, share_nodes}
use Rattle.fleet_pack.proofs.State.{are_weaker, done_fewer}

abbrev Branches : Type 0
Branches = List (List PackChoice)

module _ (p : Problem) where
  -- the value of a leaf is at least a bound
  abbrev IsAbove : ℕ → List PackChoice → PackNode → Type 0
  IsAbove x branch (nodes.Pair a b) = Unit {0}
  IsAbove x branch (nodes.Share s) = x ≤ share_value p branch s
  IsAbove x branch nodes.Apart = x ≤ bundle_count p branch

  abbrev turn_of : ℕ → List PackChoice → PackNode → ℕ
  turn_of count branch (nodes.Pair a b) = 1
  turn_of count branch (nodes.Share s) = if nat_le count (share_value p branch s) then 1 else 0
  turn_of count branch nodes.Apart = if nat_le count (bundle_count p branch) then 1 else 0

  abbrev turns_along : ℕ → List PackNode → Branches → ℕ
  turns_along count [] waiting = 0
  turns_along count (node ∷ taken) [] = 0
  turns_along count (node ∷ taken) (branch ∷ waiting) = turn_of count branch node + turns_along count taken (branches_below branch node ++ waiting)

  record Stands (bound : ℕ) (branch : List PackChoice) (tree : PackTree) : Type 0 where
    pairs : PairsIn p tree
    lean : IsLean p branch tree
    shows : Shows p branch bound tree

  abbrev AllStand : ℕ → Branches → List PackTree → Type 0
  AllStand bound [] [] = Unit {0}
  AllStand bound [] (t ∷ trees) = ⊥
  AllStand bound (branch ∷ waiting) [] = ⊥
  AllStand bound (branch ∷ waiting) (t ∷ trees) = Stands bound branch t × AllStand bound waiting trees

  abbrev AllShow : ℕ → Branches → List PackTree → Type 0
  AllShow x [] trees = Unit {0}
  AllShow x (branch ∷ waiting) [] = Unit {0}
  AllShow x (branch ∷ waiting) (t ∷ trees) = Shows p branch x t × AllShow x waiting trees

  abbrev all_turns : ℕ → Branches → List PackTree → ℕ
  all_turns count [] trees = 0
  all_turns count (branch ∷ waiting) [] = 0
  all_turns count (branch ∷ waiting) (t ∷ trees) = turns_of p branch count t + all_turns count waiting trees

  -- trees under the branches that wait, of which these are the nodes
  record Forest (bound count : ℕ) (all : List PackNode) (waiting : Branches) : Type 0 where
    trees : List PackTree
    are : flat_map preorder trees ≡ all
    stand : AllStand bound waiting trees
    turns : all_turns count waiting trees ≡ turns_along count all waiting
    above : (x : ℕ) → AllShow x waiting trees → NodesAre (IsAbove x) all waiting

  module _ (bound count : ℕ) where
    join : (a b : ℕ) (branch : List PackChoice) (waiting : Branches) (all : List PackNode) (trees : List PackTree) →
        IsDone p bound branch (nodes.Pair a b) → flat_map preorder trees ≡ all →
        AllStand bound ((branch ++ choices.Together a b ∷ []) ∷ ((branch ++ choices.Apart a b ∷ []) ∷ waiting)) trees →
        all_turns count ((branch ++ choices.Together a b ∷ []) ∷ ((branch ++ choices.Apart a b ∷ []) ∷ waiting)) trees
        ≡ turns_along count all ((branch ++ choices.Together a b ∷ []) ∷ ((branch ++ choices.Apart a b ∷ []) ∷ waiting)) →
        ((x : ℕ) → AllShow x ((branch ++ choices.Together a b ∷ []) ∷ ((branch ++ choices.Apart a b ∷ []) ∷ waiting)) trees →
        NodesAre (IsAbove x) all ((branch ++ choices.Together a b ∷ []) ∷ ((branch ++ choices.Apart a b ∷ []) ∷ waiting))) →
        Forest bound count (nodes.Pair a b ∷ all) (branch ∷ waiting)
    join a b branch waiting all [] done are stand turns above = absurd stand
    join a b branch waiting all (t ∷ []) done are stand turns above = absurd stand.1
    join a b branch waiting all (t ∷ (u ∷ rest)) done are stand turns above = record {
      trees = pair a b t u ∷ rest;
      are = ap (λ (xs : List PackNode). nodes.Pair a b ∷ xs) (append_assoc (preorder t) (preorder u) (flat_map preorder rest) ∙ are);
      stand = (
        record {
          pairs = (done.0, stand.0.pairs, stand.1.0.pairs);
          lean = (done.1, stand.0.lean, stand.1.0.lean);
          shows = (stand.0.shows, stand.1.0.shows);
        },
        stand.1.1,
      );
      turns = omega (arith, turns);
      above = λ x shown. (tt, above x (shown.0.0, (shown.0.1, shown.1)));
    }

    grow : (all : List PackNode) (waiting : Branches) → NodesAre (IsDone p bound) all waiting → waiting_for all waiting ≡ [] → Forest bound count all waiting
    grow [] [] are none = record { trees = []; are = refl; stand = tt; turns = refl; above = λ x shown. tt }
    grow [] (branch ∷ waiting) are none = cc
    grow (node ∷ all) [] are none = absurd are
    grow (nodes.Pair a b ∷ all) (branch ∷ waiting) are none =
        let forest = grow all ((branch ++ choices.Together a b ∷ []) ∷ ((branch ++ choices.Apart a b ∷ []) ∷ waiting)) are.1 none in
        join a b branch waiting all forest.trees are.0 forest.are forest.stand forest.turns forest.above
    grow (nodes.Share s ∷ all) (branch ∷ waiting) are none =
        let forest = grow all waiting are.1 none in record {
          trees = share s ∷ forest.trees;
          are = ap (λ (xs : List PackNode). nodes.Share s ∷ xs) forest.are;
          stand = (record { pairs = tt; lean = tt; shows = are.0 }, forest.stand);
          turns = omega (arith, forest.turns);
          above = λ x shown. (shown.0.1, forest.above x shown.1);
        }
    grow (nodes.Apart ∷ all) (branch ∷ waiting) are none =
        let forest = grow all waiting are.1 none in record {
          trees = settled ∷ forest.trees;
          are = ap (λ (xs : List PackNode). nodes.Apart ∷ xs) forest.are;
          stand = (record { pairs = tt; lean = tt; shows = are.0 }, forest.stand);
          turns = omega (arith, forest.turns);
          above = λ x shown. (shown.0.1, forest.above x shown.1);
        }

  -- the tree of all nodes
  record OneTree (bound count : ℕ) (all : List PackNode) : Type 0 where
    tree : PackTree
    are : preorder tree ≡ all
    stand : Stands bound [] tree
    turns : turns_of p [] count tree ≡ turns_along count all ([] ∷ [])
    above : (x : ℕ) → Shows p [] x tree → NodesAre (IsAbove x) all ([] ∷ [])

  one_of : (bound count : ℕ) (all : List PackNode) (trees : List PackTree) → flat_map preorder trees ≡ all → AllStand bound ([] ∷ []) trees →
      all_turns count ([] ∷ []) trees ≡ turns_along count all ([] ∷ []) → ((x : ℕ) → AllShow x ([] ∷ []) trees → NodesAre (IsAbove x) all ([] ∷ [])) → OneTree bound count all
  one_of bound count all [] are stand turns above = absurd stand
  one_of bound count all (t ∷ (u ∷ rest)) are stand turns above = absurd stand.1
  one_of bound count all (t ∷ []) are stand turns above = record {
    tree = t;
    are = sym (append-nil (preorder t)) ∙ are;
    stand = stand.0;
    turns = omega (arith, turns);
    above = λ x shown. above x (shown, tt);
  }

  tree_of : (bound count : ℕ) (all : List PackNode) → NodesAre (IsDone p bound) all ([] ∷ []) → waiting_for all ([] ∷ []) ≡ [] → OneTree bound count all
  tree_of bound count all are none = let forest = grow bound count all ([] ∷ []) are none in one_of bound count all forest.trees forest.are forest.stand forest.turns forest.above

  -- More nodes behind.

  are_append : (P : List PackChoice → PackNode → Type 0) (taken more : List PackNode) (waiting : Branches) → NodesAre P taken waiting → NodesAre P more (waiting_for taken waiting) →
      NodesAre P (taken ++ more) waiting
  are_append P [] more waiting before after = after
  are_append P (x ∷ taken) more [] before after = before
  are_append P (x ∷ taken) more (b ∷ waiting) before after = (before.0, are_append P taken more (branches_below b x ++ waiting) before.1 after)

  are_behind : (P : List PackChoice → PackNode → Type 0) (taken more : List PackNode) (waiting : Branches) → NodesAre P (taken ++ more) waiting → NodesAre P more (waiting_for taken waiting)
  are_behind P [] more waiting are = are
  are_behind P (x ∷ taken) more [] are = absurd are
  are_behind P (x ∷ taken) more (b ∷ waiting) are = are_behind P taken more (branches_below b x ++ waiting) are.1

  waiting_append : (taken more : List PackNode) (waiting : Branches) → waiting_for (taken ++ more) waiting ≡ waiting_for more (waiting_for taken waiting)
  waiting_append [] more waiting = refl
  waiting_append (x ∷ taken) [] [] = refl
  waiting_append (x ∷ taken) (y ∷ more) [] = refl
  waiting_append (x ∷ taken) more (b ∷ waiting) = waiting_append taken more (branches_below b x ++ waiting)

  turns_append : (count : ℕ) (taken more : List PackNode) (waiting : Branches) →
      turns_along count (taken ++ more) waiting ≡ turns_along count taken waiting + turns_along count more (waiting_for taken waiting)
  turns_append count [] more waiting = omega arith
  turns_append count (x ∷ taken) [] [] = refl
  turns_append count (x ∷ taken) (y ∷ more) [] = refl
  turns_append count (x ∷ taken) more (b ∷ waiting) = omega (arith, turns_append count taken more (branches_below b x ++ waiting))

  one_turn : (count : ℕ) (branch : List PackChoice) (node : PackNode) → IsDone p count branch node → turn_of count branch node ≡ 1
  one_turn count branch (nodes.Pair a b) done = refl
  one_turn count branch (nodes.Share s) done = rw (le-leb count (share_value p branch s) done.1) refl
  one_turn count branch nodes.Apart done = rw (le-leb count (bundle_count p branch) done.1) refl

  done_turns : (count : ℕ) (taken : List PackNode) (waiting : Branches) → NodesAre (IsDone p count) taken waiting → turns_along count taken waiting ≡ length taken
  done_turns count [] waiting are = refl
  done_turns count (x ∷ taken) [] are = absurd are
  done_turns count (x ∷ taken) (b ∷ waiting) are = omega (arith, one_turn count b x are.0, done_turns count taken (branches_below b x ++ waiting) are.1)

  -- The leaves that are left.

  left_done : (bound : ℕ) (branches : Branches) (shares : List Share) → AreLeaves p branches shares → All (λ s. bound ≤ s.value) shares → NodesAre (IsDone p bound) (share_nodes shares) branches
  left_done bound [] [] leaves above = tt
  left_done bound (b ∷ branches) [] leaves above = absurd leaves
  left_done bound [] (s ∷ shares) leaves above = absurd leaves
  left_done bound (b ∷ branches) (s ∷ shares) leaves above =
      let here : bound ≤ s.value = All-head (λ (x : Share). bound ≤ x.value) s shares above in
      ((leaves.0.share.fits, omega (arith, here, leaves.0.share.value_is)), left_done bound branches shares leaves.1 (All-tail (λ (x : Share). bound ≤ x.value) s shares above))

  left_whole : (branches : Branches) (shares : List Share) → AreLeaves p branches shares → waiting_for (share_nodes shares) branches ≡ []
  left_whole [] [] leaves = refl
  left_whole (b ∷ branches) [] leaves = absurd leaves
  left_whole [] (s ∷ shares) leaves = absurd leaves
  left_whole (b ∷ branches) (s ∷ shares) leaves = left_whole branches shares leaves.1

  left_turns : (count : ℕ) (branches : Branches) (shares : List Share) → AreLeaves p branches shares → turns_along count (share_nodes shares) branches ≡ closed_count count shares
  left_turns count [] [] leaves = refl
  left_turns count (b ∷ branches) [] leaves = absurd leaves
  left_turns count [] (s ∷ shares) leaves = absurd leaves
  left_turns count (b ∷ branches) (s ∷ shares) leaves =
      let here : turn_of count b (nodes.Share s.s) ≡ (if nat_le count s.value then 1 else 0) = ap {B = ℕ} (λ v. if nat_le count v then 1 else 0) (sym leaves.0.share.value_is) in
      omega (arith, here, left_turns count branches shares leaves.1, sum_by-cons (λ (x : Share). if nat_le count x.value then 1 else 0) s shares)

  left_above : (x : ℕ) (branches : Branches) (shares : List Share) → AreLeaves p branches shares → NodesAre (IsAbove x) (share_nodes shares) branches → All (λ s. x ≤ s.value) shares
  left_above x [] [] leaves above = All-nil (λ (s : Share). x ≤ s.value)
  left_above x (b ∷ branches) [] leaves above = absurd leaves
  left_above x [] (s ∷ shares) leaves above = absurd leaves
  left_above x (b ∷ branches) (s ∷ shares) leaves above =
      All-cons (λ (s : Share). x ≤ s.value) s shares (omega (arith, above.0, leaves.0.share.value_is)) (left_above x branches shares leaves.1 above.1)

  -- a search ends with a tree
  pub record Ends (count bound turns : ℕ) (all : List PackNode) : Type 0 where
    pub tree : PackTree
    pub are : preorder tree ≡ all
    pub pairs : PairsIn p tree
    pub lean : IsLean p [] tree
    pub shows : Shows p [] bound tree
    pub greatest : (b : ℕ) → b ≤ count → Shows p [] b tree → b ≤ bound
    pub turns_are : turns ≡ turns_of p [] count tree

  pub ends : (count bound turns : ℕ) (taken : List PackNode) (path : List PackChoice) (shares : List Share) → IsState p count taken path shares → IsLeastValue count shares bound →
      turns ≡ length taken + closed_count count shares → Ends count bound turns (taken ++ share_nodes shares)
  ends count bound turns taken path shares state least are =
      let fine = are_append (IsDone p bound) taken (share_nodes shares) ([] ∷ []) (are_weaker (IsDone p count) (IsDone p bound) (done_fewer p count bound least.most) taken ([] ∷ []) state.done)
      (subst (NodesAre (IsDone p bound) (share_nodes shares)) (sym state.reads) (left_done bound (leaves_of path shares) shares state.leaves least.each)) in
      let none = waiting_append taken (share_nodes shares) ([] ∷ []) ∙ ap (waiting_for (share_nodes shares)) state.reads ∙ left_whole (leaves_of path shares) shares state.leaves in
      let one = tree_of bound count (taken ++ share_nodes shares) fine none in
      let behind : turns_along count (share_nodes shares) (waiting_for taken ([] ∷ [])) ≡ closed_count count shares =
      ap (turns_along count (share_nodes shares)) state.reads ∙ left_turns count (leaves_of path shares) shares state.leaves in record {
        tree = one.tree;
        are = one.are;
        pairs = one.stand.pairs;
        lean = one.stand.lean;
        shows = one.stand.shows;
        greatest = λ b le shown. least.greatest b le (left_above b (leaves_of path shares) shares state.leaves
            (subst (NodesAre (IsAbove b) (share_nodes shares)) state.reads (are_behind (IsAbove b) taken (share_nodes shares) ([] ∷ []) (one.above b shown))));
        turns_are = omega (arith, are, one.turns, turns_append count taken (share_nodes shares) ([] ∷ []), done_turns count taken ([] ∷ []) state.done, behind);
      }
