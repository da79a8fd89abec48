-- What is true of a tree where something is true of each of its nodes.
use Rattle.std.proofs.Common.{◌≡◌, ℕ, ◌+◌, ◌-◌, List, [], ◌∷◌, ◌++◌, refl, sym, subst, arith, cond}
use Rattle.std.specs.List.{AllByRecursion}
use Rattle.std.proofs.lemmas.List.Sums.{sum_by-append}
use Rattle.carp_base.specs.Problem.{Problem, IsRequired}
use Rattle.decision_chains.specs.declared.decision.Decision.{Decision}
use Rattle.decision_chains.specs.declared.decision.Decision.TheVariants.{Yes, No, Low, High}
use Rattle.decision_chains.specs.Pairs.{IsPairWithin}
use Rattle.branch_rules.specs.Limits.{IsNodeIn}
use Rattle.branch_rules.specs.declared.node.Node.{Node}
use Rattle.branch_rules.specs.declared.node.Node.TheVariants as nodes
use Rattle.branch_rules.specs.Decisions.{is_cut, cuts_of, IsVoid}
use Rattle.branch_rules.specs.Trees.{Tree, pair, cut, price, void, fixed, preorder, Support, PriceShows, FixedShows, Shows, IsLean, IsLeanNode, HasTurns, IsTest, PairsIn}
use Rattle.grown_trees.specs.Stands.{Stand, stands, IsLeanStand, IsShownStand}

-- All of two lists.

join_all : {X : Type 0} (P : X → Type 0) (xs ys : List X) → AllByRecursion P xs → AllByRecursion P ys → AllByRecursion P (xs ++ ys)
join_all P [] ys first second = second
join_all P (x ∷ xs) ys first second = (first.0, join_all P xs ys first.1 second)

pub part_all : {X : Type 0} (P : X → Type 0) (xs ys : List X) → AllByRecursion P (xs ++ ys) → AllByRecursion P xs × AllByRecursion P ys
part_all P [] ys all = (tt, all)
part_all P (x ∷ xs) ys all = let parts = part_all P xs ys all.1 in ((all.0, parts.0), parts.1)

-- Leanness.

cuts_more : (branch : List Decision) (d : Decision) → cuts_of (branch ++ d ∷ []) ≡ cuts_of branch + cond (is_cut d) 1 0
cuts_more branch d = omega (arith, sum_by-append (λ e. cond (is_cut e) 1 0) branch (d ∷ []))

module _ (c : Support) (cuts : ℕ) where
  pub lean_from : (branch : List Decision) (left : ℕ) (tree : Tree) → left ≡ cuts - cuts_of branch → AllByRecursion (IsLeanStand c cuts) (stands branch tree) → IsLean c branch left tree
  lean_from branch left (pair a b t u) is all =
      let parts = part_all (IsLeanStand c cuts) (stands (branch ++ Yes a b ∷ []) t) (stands (branch ++ No a b ∷ []) u) all.1 in (
        subst (λ n. IsLeanNode c.problem c.pool branch n (nodes.Pair a b)) (sym is) all.0,
        lean_from (branch ++ Yes a b ∷ []) left t (omega (arith, is, cuts_more branch (Yes a b))) parts.0,
        lean_from (branch ++ No a b ∷ []) left u (omega (arith, is, cuts_more branch (No a b))) parts.1,
      )
  lean_from branch left (cut shore k t u) is all =
      let parts = part_all (IsLeanStand c cuts) (stands (branch ++ Low shore k ∷ []) t) (stands (branch ++ High shore k ∷ []) u) all.1 in (
        subst (λ n. IsLeanNode c.problem c.pool branch n (nodes.Cut shore k)) (sym is) all.0,
        lean_from (branch ++ Low shore k ∷ []) (left - 1) t (omega (arith, is, cuts_more branch (Low shore k))) parts.0,
        lean_from (branch ++ High shore k ∷ []) (left - 1) u (omega (arith, is, cuts_more branch (High shore k))) parts.1,
      )
  lean_from branch left (price set) is all = tt
  lean_from branch left void is all = tt
  lean_from branch left fixed is all = tt

-- Pairs.

module _ (p : Problem) (pool : List (List ℕ)) where
  required_both : (a b : ℕ) → IsPairWithin p.required a b → IsRequired p a × IsRequired p b
  required_both a b is = (record { from_one = is.a_from_one; in_range = is.a_in_range }, record { from_one = is.b_from_one; in_range = is.b_in_range })

  pub pairs_from : (tree : Tree) → AllByRecursion (IsNodeIn p pool) (preorder tree) → PairsIn p tree
  pairs_from (pair a b t u) all =
      let parts = part_all (IsNodeIn p pool) (preorder t) (preorder u) all.1 in
      let both = required_both a b all.0 in
      (both.0, both.1, pairs_from t parts.0, pairs_from u parts.1)
  pairs_from (cut shore k t u) all = let parts = part_all (IsNodeIn p pool) (preorder t) (preorder u) all.1 in (pairs_from t parts.0, pairs_from u parts.1)
  pairs_from (price set) all = tt
  pairs_from void all = tt
  pairs_from fixed all = tt

-- What the leaves show.

module _ (c : Support) (bound : ℕ) where
  pub shows_to : (branch : List Decision) (tree : Tree) → Shows c branch bound tree → AllByRecursion (IsShownStand c bound) (stands branch tree)
  shows_to branch (pair a b t u) shown =
      (tt, join_all (IsShownStand c bound) (stands (branch ++ Yes a b ∷ []) t) (stands (branch ++ No a b ∷ []) u) (shows_to (branch ++ Yes a b ∷ []) t shown.0) (shows_to (branch ++ No a b ∷ []) u shown.1))
  shows_to branch (cut shore k t u) shown = (
    tt,
    join_all (IsShownStand c bound) (stands (branch ++ Low shore k ∷ []) t) (stands (branch ++ High shore k ∷ []) u)
        (shows_to (branch ++ Low shore k ∷ []) t shown.0) (shows_to (branch ++ High shore k ∷ []) u shown.1),
  )
  shows_to branch (price set) shown = (shown, tt)
  shows_to branch void shown = (shown, tt)
  shows_to branch fixed shown = (shown, tt)

  pub shows_from : (branch : List Decision) (tree : Tree) → AllByRecursion (IsShownStand c bound) (stands branch tree) → Shows c branch bound tree
  shows_from branch (pair a b t u) all =
      let parts = part_all (IsShownStand c bound) (stands (branch ++ Yes a b ∷ []) t) (stands (branch ++ No a b ∷ []) u) all.1 in
      (shows_from (branch ++ Yes a b ∷ []) t parts.0, shows_from (branch ++ No a b ∷ []) u parts.1)
  shows_from branch (cut shore k t u) all =
      let parts = part_all (IsShownStand c bound) (stands (branch ++ Low shore k ∷ []) t) (stands (branch ++ High shore k ∷ []) u) all.1 in
      (shows_from (branch ++ Low shore k ∷ []) t parts.0, shows_from (branch ++ High shore k ∷ []) u parts.1)
  shows_from branch (price set) all = all.0
  shows_from branch void all = all.0
  shows_from branch fixed all = all.0

-- Turns.

-- a node alone makes so many turns for a cost: an inner node 1, a leaf 1 where it shows the cost by itself, and 0 otherwise
abbrev pub NodeTurns : Support → (cost : ℕ) → List Decision → Node → ℕ → Type 0
NodeTurns c cost branch (nodes.Pair a b) n = n ≡ 1
NodeTurns c cost branch (nodes.Cut shore k) n = n ≡ 1
NodeTurns c cost branch (nodes.Price set) n = IsTest (PriceShows c branch cost set) n
NodeTurns c cost branch nodes.Void n = IsTest (IsVoid c.problem c.pool branch) n
NodeTurns c cost branch nodes.Fixed n = IsTest (FixedShows c branch cost) n

-- the turns of nodes add up to n
abbrev pub TurnsAdd : Support → (cost : ℕ) → List Stand → ℕ → Type 0
TurnsAdd c cost [] n = n ≡ 0
TurnsAdd c cost (s ∷ rest) n = (i j : ℕ) × NodeTurns c cost s.branch s.node i × TurnsAdd c cost rest j × (n ≡ i + j)

module _ (c : Support) (cost : ℕ) where
  part_turns : (xs ys : List Stand) (n : ℕ) → TurnsAdd c cost (xs ++ ys) n → (i j : ℕ) × TurnsAdd c cost xs i × TurnsAdd c cost ys j × (n ≡ i + j)
  part_turns [] ys n turns = (0, n, refl, turns, omega arith)
  part_turns (x ∷ xs) ys n turns =
      let parts = part_turns xs ys turns.1 turns.3 in
      (turns.0 + parts.0, parts.1, (turns.0, parts.0, turns.2, parts.2, refl), parts.3, omega (arith, turns.4, parts.4))

  alone : (s : Stand) (n : ℕ) → TurnsAdd c cost (s ∷ []) n → NodeTurns c cost s.branch s.node n
  alone s n turns = let same : turns.0 ≡ n = omega (arith, turns.3, turns.4) in subst (NodeTurns c cost s.branch s.node) same turns.2

  pub turns_from : (branch : List Decision) (tree : Tree) (n : ℕ) → TurnsAdd c cost (stands branch tree) n → HasTurns c branch cost tree n
  turns_from branch (pair a b t u) n turns =
      let parts = part_turns (stands (branch ++ Yes a b ∷ []) t) (stands (branch ++ No a b ∷ []) u) turns.1 turns.3 in
      (parts.0, parts.1, turns_from (branch ++ Yes a b ∷ []) t parts.0 parts.2, turns_from (branch ++ No a b ∷ []) u parts.1 parts.3, omega (arith, turns.2, turns.4, parts.4))
  turns_from branch (cut shore k t u) n turns =
      let parts = part_turns (stands (branch ++ Low shore k ∷ []) t) (stands (branch ++ High shore k ∷ []) u) turns.1 turns.3 in
      (parts.0, parts.1, turns_from (branch ++ Low shore k ∷ []) t parts.0 parts.2, turns_from (branch ++ High shore k ∷ []) u parts.1 parts.3, omega (arith, turns.2, turns.4, parts.4))
  turns_from branch (price set) n turns = alone (record { branch = branch; node = nodes.Price set }) n turns
  turns_from branch void n turns = alone (record { branch = branch; node = nodes.Void }) n turns
  turns_from branch fixed n turns = alone (record { branch = branch; node = nodes.Fixed }) n turns
