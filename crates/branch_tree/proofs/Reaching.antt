-- Price leaves of a search whose base reaches the floors.
use Rattle.std.proofs.Common.{◌≡◌, ℕ, ◌+◌, ◌*◌, ◌≤◌, List, [], ◌∷◌, sym, subst, ◌∙◌, arith, ℤ, pos, ◌*ℤ◌, ◌≤ℤ◌}
use Rattle.std.specs.List.{AllByRecursion}
use Rattle.std.proofs.lemmas.Int.{ints}
use Rattle.std.proofs.lemmas.List.Elements.{All-from_recursion}
use Rattle.carp_base.specs.Problem.{Problem, required_cost, total_demand}
use Rattle.capacity_cuts.specs.Levels.{needs_below}
use Rattle.decision_chains.specs.declared.decision.Decision.{Decision}
use Rattle.branch_rules.specs.Decisions.{rules_of}
use Rattle.branch_rules.specs.Prices.{value_of}
use Rattle.branch_rules.specs.Trees.{Support, set_at}
use Rattle.branch_rules.specs.declared.node.Node.{Node}
use Rattle.branch_rules.specs.declared.node.Node.TheVariants as nodes
use Rattle.grown_trees.specs.Growth.{AreSound, Fraction, NodeReaches}
use Rattle.grown_trees.specs.Laws.{SoundIsTree}
use Rattle.grown_trees.specs.Stands.{Stand, stands}
use Rattle.grown_trees.specs.declared.growing.GrowingNode.{GrowingNode}
use Rattle.branch_tree.specs.Reaching.{LeavesAreAtLeastFloors, NodeIsAtLeastFloors, SearchesReachFloors}
use Rattle.branch_tree.specs.Searches.{support_in}
use Rattle.branch_tree.specs.Values.{IsAtLeastFloors, ReachesFloors}
use Rattle.branch_tree.proofs.Numbers.{reaches_through, times_turned}
use Rattle.branch_tree.proofs.Preorders.{same_tree}

-- a value that is no less than a base, each divided by its denominator, is at least what the base is at least
module _ (base : Fraction) (some : 1 ≤ base.unit) (to : ℕ) (v : ℤ) (reaches : (pos to *ℤ base.value) ≤ℤ (pos base.unit *ℤ v)) where
  part_through : (x load : ℕ) → pos (base.unit * x) ≤ℤ (base.value *ℤ pos load) → pos (to * x) ≤ℤ (v *ℤ pos load)
  part_through x load at_least =
      let from : (pos base.unit *ℤ pos x) ≤ℤ (pos load *ℤ base.value) = omega (arith, ints, at_least, times_turned load base.value) in
      let through : (pos to *ℤ pos x) ≤ℤ (pos load *ℤ v) = reaches_through load base.unit to (pos x) base.value v some from reaches in
      omega (arith, ints, through, times_turned load v)

  whole_through : (x : ℕ) → pos (base.unit * x) ≤ℤ base.value → pos (to * x) ≤ℤ v
  whole_through x at_least =
      let through : pos (to * x) ≤ℤ (v *ℤ pos 1) = part_through x 1 (omega (arith, ints, at_least)) in
      omega (arith, ints, through)

  at_least_floors : (p : Problem) → IsAtLeastFloors p base → IsAtLeastFloors p (record { unit = to; value = v })
  at_least_floors p is = record {
    services = whole_through (required_cost p) is.services;
    shell = λ level k levels far. whole_through (required_cost p + needs_below p level k) (is.shell level k levels far);
    ratio = λ deadhead load least. part_through (required_cost p * load + total_demand p * deadhead) load (is.ratio deadhead load least);
    join = λ value least. whole_through (required_cost p + value) (is.join value least);
  }

module _ (c : Support) (base : Fraction) (floors : ReachesFloors c.problem base) where
  node_at_least : (branch : List Decision) (node : Node) → NodeReaches c base branch node → NodeIsAtLeastFloors c branch node
  node_at_least branch (nodes.Pair a b) reaches = tt
  node_at_least branch (nodes.Cut shore k) reaches = tt
  node_at_least branch (nodes.Price set) reaches =
      at_least_floors base floors.some_unit (set_at c set).unit (value_of (rules_of c.problem c.pool branch) (set_at c set)) reaches c.problem floors.floors
  node_at_least branch nodes.Void reaches = tt
  node_at_least branch nodes.Fixed reaches = tt

  each_at_least : (ss : List Stand) (es : List GrowingNode) → AreSound c base ss es → AllByRecursion (λ (s : Stand). NodeIsAtLeastFloors c s.branch s.node) ss
  each_at_least [] [] sound = tt
  each_at_least [] (e ∷ es) sound = absurd sound
  each_at_least (s ∷ ss) [] sound = absurd sound
  each_at_least (s ∷ ss) (e ∷ es) sound = (node_at_least s.branch s.node sound.0.reaches, each_at_least ss es sound.1)

pub leaves_reach_floors : SoundIsTree → SearchesReachFloors
leaves_reach_floors law p s held floors tree are =
    let c = support_in p s in
    let same : held.tree ≡ tree = same_tree held.tree tree ((law c s.base held.tree s.nodes held.sound).nodes ∙ sym are) in
    subst (LeavesAreAtLeastFloors c) same
    (All-from_recursion (λ (x : Stand). NodeIsAtLeastFloors c x.branch x.node) (stands [] held.tree) (each_at_least c s.base floors (stands [] held.tree) s.nodes held.sound))
