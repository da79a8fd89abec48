-- Trees of sound nodes: each node is sound where it stands, and what the tree is.
use Rattle.std.proofs.Common.{◌≡◌, ℕ, zero, suc, ◌+◌, ◌≤◌, ◌<◌, ◌^◌, ◌↔◌, true, false, cond, nat_le, List, [], ◌∷◌, ◌++◌, length, map, take, drop, get_or, refl, sym, ap, ◌∙◌, subst, arith, inl, inr}
use Rattle.std.specs.List.{All, AllByRecursion}
use Rattle.std.proofs.lemmas.Bool.{cases_lt}
use Rattle.std.proofs.lemmas.List.Elements.{All-from_recursion, recursion_from_All, All-map, All-same}
use Rattle.std.proofs.lemmas.List.Sums.{sum_by-cons}
use Rattle.decision_chains.specs.declared.decision.Decision.{Decision}
use Rattle.branch_rules.specs.Limits.{IsNodeIn}
use Rattle.branch_rules.specs.declared.node.Node.{Node}
use Rattle.branch_rules.specs.declared.node.Node.TheVariants as nodes
use Rattle.branch_rules.specs.Trees.{Tree, preorder, node_at, Support, IsTest}
use Rattle.grown_trees.specs.Growth.{Fraction, IsSpelledNode, IsSoundNode, AreSound, ShowsUpTo, turns_in}
use Rattle.grown_trees.specs.Laws.{IsSoundTree}
use Rattle.grown_trees.specs.Places.{size_of, IsFineNode, IsLeaf, IsLeafAt, branch_to, grown}
use Rattle.grown_trees.specs.Stands.{Stand, stands, IsFitStand, IsLeanStand, IsShownStand, NodeShows}
use Rattle.grown_trees.specs.declared.growing.GrowingNode.{GrowingNode}
use Rattle.grown_trees.proofs.Eaches.{NodeTurns, TurnsAdd, lean_from, pairs_from, shows_from, shows_to, turns_from}
use Rattle.grown_trees.proofs.Standing.{stands_at, stands_grown, stands_long, stands_nodes}

abbrev node_of : GrowingNode → Node
node_of entry = entry.node

module _ (c : Support) (base : Fraction) where
  sound_append : (ss ts : List Stand) (es fs : List GrowingNode) → AreSound c base ss es → AreSound c base ts fs → AreSound c base (ss ++ ts) (es ++ fs)
  sound_append [] ts [] fs first second = second
  sound_append [] ts (e ∷ es) fs first second = absurd first
  sound_append (s ∷ ss) ts [] fs first second = absurd first
  sound_append (s ∷ ss) ts (e ∷ es) fs first second = (first.0, sound_append ss ts es fs first.1 second)

  sound_take : (n : ℕ) (ss : List Stand) (es : List GrowingNode) → AreSound c base ss es → AreSound c base (take n ss) (take n es)
  sound_take zero ss es sound = tt
  sound_take (suc n) [] [] sound = tt
  sound_take (suc n) [] (e ∷ es) sound = absurd sound
  sound_take (suc n) (s ∷ ss) [] sound = absurd sound
  sound_take (suc n) (s ∷ ss) (e ∷ es) sound = (sound.0, sound_take n ss es sound.1)

  sound_drop : (n : ℕ) (ss : List Stand) (es : List GrowingNode) → AreSound c base ss es → AreSound c base (drop n ss) (drop n es)
  sound_drop zero ss es sound = sound
  sound_drop (suc n) [] [] sound = tt
  sound_drop (suc n) [] (e ∷ es) sound = absurd sound
  sound_drop (suc n) (s ∷ ss) [] sound = absurd sound
  sound_drop (suc n) (s ∷ ss) (e ∷ es) sound = sound_drop n ss es sound.1

  sound_long : (ss : List Stand) (es : List GrowingNode) → AreSound c base ss es → length ss ≡ length es
  sound_long [] [] sound = refl
  sound_long [] (e ∷ es) sound = absurd sound
  sound_long (s ∷ ss) [] sound = absurd sound
  sound_long (s ∷ ss) (e ∷ es) sound = ap suc (sound_long ss es sound.1)

  sound_get : (ss : List Stand) (es : List GrowingNode) (i : ℕ) (s : Stand) (e : GrowingNode) → AreSound c base ss es → i < length es → IsSoundNode c base (get_or ss i s) (get_or es i e)
  sound_get [] [] i s e sound less = absurd (omega (arith, less))
  sound_get [] (f ∷ es) i s e sound less = absurd sound
  sound_get (r ∷ ss) [] i s e sound less = absurd sound
  sound_get (r ∷ ss) (f ∷ es) zero s e sound less = sound.0
  sound_get (r ∷ ss) (f ∷ es) (suc i) s e sound less = sound_get ss es i s e sound.1 (omega (arith, less))

  sound_nodes : (ss : List Stand) (es : List GrowingNode) → AreSound c base ss es → map (λ (s : Stand). s.node) ss ≡ map node_of es
  sound_nodes [] [] sound = refl
  sound_nodes [] (e ∷ es) sound = absurd sound
  sound_nodes (s ∷ ss) [] sound = absurd sound
  sound_nodes (s ∷ ss) (e ∷ es) sound = ap (λ (n : Node). n ∷ map (λ (r : Stand). r.node) ss) (sym sound.0.same) ∙ ap (λ (ns : List Node). node_of e ∷ ns) (sound_nodes ss es sound.1)

  -- what each sound node is, all of them are
  sound_each : (P : Stand → Type 0) → ((s : Stand) (e : GrowingNode) → IsSoundNode c base s e → P s) → (ss : List Stand) (es : List GrowingNode) → AreSound c base ss es → AllByRecursion P ss
  sound_each P is [] es sound = tt
  sound_each P is (s ∷ ss) [] sound = absurd sound
  sound_each P is (s ∷ ss) (e ∷ es) sound = (is s e sound.0, sound_each P is ss es sound.1)

  pub sound_grown : (tree sub : Tree) (i : ℕ) (entries news : List GrowingNode) → IsLeafAt tree i →
      AreSound c base (stands [] tree) entries → AreSound c base (stands (branch_to [] tree i) sub) news →
      AreSound c base (stands [] (grown tree i sub)) (take i entries ++ (news ++ drop (i + 1) entries))
  sound_grown tree sub i entries news at sound more =
      let all = stands [] tree in
      let new = stands (branch_to [] tree i) sub in
      subst (λ (ss : List Stand). AreSound c base ss (take i entries ++ (news ++ drop (i + 1) entries))) (sym (stands_grown [] tree sub i at))
      (sound_append (take i all) (new ++ drop (i + 1) all) (take i entries) (news ++ drop (i + 1) entries) (sound_take i all entries sound)
      (sound_append new (drop (i + 1) all) news (drop (i + 1) entries) more (sound_drop (i + 1) all entries sound)))

  -- the turns of a node
  one_test : (P : Type 0) (cost shows : ℕ) → P ↔ (cost ≤ shows) → IsTest P (cond (nat_le cost shows) 1 0)
  one_test P cost shows is = elim (cases_lt shows cost) [
    | inl less ↦ let no : nat_le cost shows ≡ false = grind (arith, less) in rw no (inr ((λ holds. absurd (omega (arith, is.0 holds, less))), refl))
    | inr more ↦ let yes : nat_le cost shows ≡ true = grind (arith, more) in rw yes (inl (is.1 more, refl))
  ]

  inner_turn : (cost shows : ℕ) → Unit {0} ↔ (cost ≤ shows) → ◌≡◌ {A = ℕ} (cond (nat_le cost shows) 1 0) 1
  inner_turn cost shows is = let yes : nat_le cost shows ≡ true = grind (arith, is.0 tt) in rw yes refl

  node_turns : (cost : ℕ) (branch : List Decision) (node : Node) (shows : ℕ) → NodeShows c cost branch node ↔ (cost ≤ shows) → NodeTurns c cost branch node (cond (nat_le cost shows) 1 0)
  node_turns cost branch (nodes.Pair a b) shows is = inner_turn cost shows is
  node_turns cost branch (nodes.Cut shore k) shows is = inner_turn cost shows is
  node_turns cost branch (nodes.Price set) shows is = one_test _ cost shows is
  node_turns cost branch nodes.Void shows is = one_test _ cost shows is
  node_turns cost branch nodes.Fixed shows is = one_test _ cost shows is

  sound_turns : (cost : ℕ) → cost < 10 ^ 18 → (ss : List Stand) (es : List GrowingNode) → AreSound c base ss es → TurnsAdd c cost ss (turns_in cost es)
  sound_turns cost few [] [] sound = refl
  sound_turns cost few [] (e ∷ es) sound = absurd sound
  sound_turns cost few (s ∷ ss) [] sound = absurd sound
  sound_turns cost few (s ∷ ss) (e ∷ es) sound = (
    cond (nat_le cost e.shows) 1 0,
    turns_in cost es,
    node_turns cost s.branch s.node e.shows (sound.0.shows cost few),
    sound_turns cost few ss es sound.1,
    sum_by-cons (λ (x : GrowingNode). cond (nat_le cost x.shows) 1 0) e es,
  )

  shown_to : (bound : ℕ) → bound < 10 ^ 18 → (ss : List Stand) (es : List GrowingNode) → AreSound c base ss es →
      AllByRecursion (IsShownStand c bound) ss → AllByRecursion (λ (e : GrowingNode). bound ≤ e.shows) es
  shown_to bound few [] [] sound all = tt
  shown_to bound few [] (e ∷ es) sound all = absurd sound
  shown_to bound few (s ∷ ss) [] sound all = tt
  shown_to bound few (s ∷ ss) (e ∷ es) sound all = ((sound.0.shows bound few).0 all.0, shown_to bound few ss es sound.1 all.1)

  shown_from : (bound : ℕ) → bound < 10 ^ 18 → (ss : List Stand) (es : List GrowingNode) → AreSound c base ss es →
      AllByRecursion (λ (e : GrowingNode). bound ≤ e.shows) es → AllByRecursion (IsShownStand c bound) ss
  shown_from bound few [] es sound all = tt
  shown_from bound few (s ∷ ss) [] sound all = absurd sound
  shown_from bound few (s ∷ ss) (e ∷ es) sound all = ((sound.0.shows bound few).1 all.0, shown_from bound few ss es sound.1 all.1)

  -- what is true of the node of each sound node is true of the nodes of the tree
  each_node : (P : Node → Type 0) → ((s : Stand) (e : GrowingNode) → IsSoundNode c base s e → P s.node) → (tree : Tree) (es : List GrowingNode) → AreSound c base (stands [] tree) es → All P (preorder tree)
  each_node P is tree es sound =
      All-same P (preorder tree) (map (λ (s : Stand). s.node) (stands [] tree)) (sym (stands_nodes [] tree))
      (All-map P (λ (s : Stand). s.node) (stands [] tree) (All-from_recursion (λ (s : Stand). P s.node) (stands [] tree) (sound_each (λ (s : Stand). P s.node) is (stands [] tree) es sound)))

  pub sound_tree : (tree : Tree) (entries : List GrowingNode) → AreSound c base (stands [] tree) entries → IsSoundTree c tree entries
  sound_tree tree entries sound =
      let all = stands [] tree in
      let inside = each_node (IsNodeIn c.problem c.pool) (λ s e is. is.inside) tree entries sound in
      record {
        nodes = sym (stands_nodes [] tree) ∙ sound_nodes all entries sound;
        inside = inside;
        fine = each_node IsFineNode (λ s e is. is.fine) tree entries sound;
        spelled = each_node (IsSpelledNode (length c.sets)) (λ s e is. is.spelled) tree entries sound;
        pairs = pairs_from c.problem c.pool tree (recursion_from_All (IsNodeIn c.problem c.pool) (preorder tree) inside);
        lean = lean_from c 4 [] 4 tree (omega arith) (sound_each (IsLeanStand c 4) (λ s e is. is.lean) all entries sound);
        fits = All-from_recursion (IsFitStand c) all (sound_each (IsFitStand c) (λ s e is. is.fits) all entries sound);
        turns = λ cost few. turns_from c cost [] tree (turns_in cost entries) (sound_turns cost few all entries sound);
        shows = λ bound few. (
          (λ shown. All-from_recursion (λ (e : GrowingNode). bound ≤ e.shows) entries
              (shown_to bound few all entries sound (shows_to c bound [] tree shown))),
          (λ each. shows_from c bound [] tree (shown_from bound few all entries sound (recursion_from_All (λ (e : GrowingNode). bound ≤ e.shows) entries each))),
        );
      }

  -- a node at a place
  module _ (tree : Tree) (entries : List GrowingNode) (i : ℕ) (other : GrowingNode) (sound : AreSound c base (stands [] tree) entries) (less : i < length entries) where
    abbrev none : Stand
    none = record { branch = []; node = nodes.Void }

    inside_tree : i < size_of tree
    inside_tree = omega (arith, less, sound_long (stands [] tree) entries sound, stands_long [] tree)

    sound_place : IsSoundNode c base (record { branch = branch_to [] tree i; node = node_at (preorder tree) i }) (get_or entries i other)
    sound_place =
        subst (λ (s : Stand). IsSoundNode c base s (get_or entries i other)) (stands_at [] tree i none inside_tree)
        (sound_get (stands [] tree) entries i none other sound less)

    pub sound_at : IsSoundNode c base (record { branch = branch_to [] tree i; node = (get_or entries i other).node }) (get_or entries i other)
    sound_at =
        subst (λ (n : Node). IsSoundNode c base (record { branch = branch_to [] tree i; node = n }) (get_or entries i other)) (sym sound_place.same) sound_place

    inner_shows : (branch : List Decision) (node : Node) (shows : ℕ) → ShowsUpTo c (record { branch = branch; node = node }) shows → shows + 1 < 10 ^ 18 → IsLeaf node
    inner_shows branch (nodes.Pair a b) shows is few = absurd (omega (arith, (is (shows + 1) few).0 tt))
    inner_shows branch (nodes.Cut shore k) shows is few = absurd (omega (arith, (is (shows + 1) few).0 tt))
    inner_shows branch (nodes.Price set) shows is few = tt
    inner_shows branch nodes.Void shows is few = tt
    inner_shows branch nodes.Fixed shows is few = tt

    pub leaf_at : (get_or entries i other).shows + 1 < 10 ^ 18 → IsLeafAt tree i
    leaf_at few = record {
      inside = inside_tree;
      leaf = inner_shows (branch_to [] tree i) (node_at (preorder tree) i) (get_or entries i other).shows sound_place.shows few;
    }

-- where each sound node is sound with another support, so are all of them
pub all_sound : (c d : Support) (base : Fraction) → ((s : Stand) (e : GrowingNode) → IsSoundNode c base s e → IsSoundNode d base s e) → (ss : List Stand) (es : List GrowingNode) →
    AreSound c base ss es → AreSound d base ss es
all_sound c d base to [] [] sound = tt
all_sound c d base to [] (e ∷ es) sound = absurd sound
all_sound c d base to (s ∷ ss) [] sound = absurd sound
all_sound c d base to (s ∷ ss) (e ∷ es) sound = (to s e sound.0, all_sound c d base to ss es sound.1)
