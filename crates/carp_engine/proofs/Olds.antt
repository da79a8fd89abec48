-- What is known of a good certificate that can be spelled: a search may go on from its tree.
use Rattle.std.proofs.Common.{ℕ, zero, suc, ◌+◌, List, [], ◌∷◌, ◌++◌, length, sym, ap, subst, arith, All, get_or}
use Rattle.std.specs.List.{AllByRecursion}
use Rattle.std.proofs.lemmas.List.Elements.{All-from_recursion, All-weaker, recursion_from_All}
use Rattle.carp_base.specs.Problem.{Problem}
use Rattle.plan_model.specs.Laws.{IsLowerBound}
use Rattle.cut_pool.specs.Pools.{IsShoreNumber}
use Rattle.decision_chains.specs.declared.decision.Decision.{Decision}
use Rattle.decision_chains.specs.declared.decision.Decision.TheVariants.{Yes, No, Low, High}
use Rattle.decision_chains.specs.PlanLaws.{FixedValueIsUnique}
use Rattle.branch_rules.specs.Limits.{IsNodeIn, IsPriceSet, IsShoreOf}
use Rattle.branch_rules.specs.Prices.{Prices}
use Rattle.branch_rules.specs.Trees.{Tree, pair, cut, price, void, fixed, preorder, PairsIn, Shows, Support}
use Rattle.branch_rules.specs.declared.node.Node.{Node}
use Rattle.branch_rules.specs.declared.node.Node.TheVariants as nodes
use Rattle.branch_rules.specs.declared.weight.Weight.{Weight}
use Rattle.grown_trees.specs.Growth.{IsSpelledNode, turns_in}
use Rattle.grown_trees.specs.Places as places
use Rattle.grown_trees.specs.declared.growing.GrowingNode.{GrowingNode}
use Rattle.branch_tree.specs.Resumes.{MayResume, ResumedTreesHaveTurns}
use Rattle.cert_lines.specs.Certificates.{Certificate}
use Rattle.cert_lines.specs.Laws.{SpellableIsFine}
use Rattle.cert_lines.specs.Spelling.{IsFine, IsFineNode, IsFineSet, IsSpellable}
use Rattle.cert_format.specs.Good.{IsGood, support_of}
use Rattle.tree_transfer.specs.Carried.{WouldShow}
use Rattle.carp_engine.specs.Improved.{HaveTurns}
use Rattle.carp_engine.proofs.Groups.{spelled_in_range}
use Rattle.tree_transfer.specs.Shown.{AreNotedNodes, AreTreeNodes, HasShores, WouldShowSome}

join_all : {X : Type 0} (P : X → Type 0) (xs ys : List X) → AllByRecursion P xs → AllByRecursion P ys → AllByRecursion P (xs ++ ys)
join_all P [] ys first second = second
join_all P (x ∷ xs) ys first second = (first.0, join_all P xs ys first.1 second)

part_all : {X : Type 0} (P : X → Type 0) (xs ys : List X) → AllByRecursion P (xs ++ ys) → AllByRecursion P xs × AllByRecursion P ys
part_all P [] ys all = (tt, all)
part_all P (x ∷ xs) ys all = let parts = part_all P xs ys all.1 in ((all.0, parts.0), parts.1)

-- what is shown would be shown
would : FixedValueIsUnique → (c : Support) (bound : ℕ) (branch : List Decision) (tree : Tree) → Shows c branch bound tree → WouldShow c branch bound tree
would once c bound branch (pair a b t u) shows = (would once c bound (branch ++ Yes a b ∷ []) t shows.0, would once c bound (branch ++ No a b ∷ []) u shows.1)
would once c bound branch (cut shore k t u) shows = (would once c bound (branch ++ Low shore k ∷ []) t shows.0, would once c bound (branch ++ High shore k ∷ []) u shows.1)
would once c bound branch (price set) shows = shows
would once c bound branch void shows = shows
would once c bound branch fixed shows = record {
  settled = shows.settled;
  enough = λ value has. omega (arith, shows.enough, once c.problem branch shows.value value shows.fixed has);
}

module _ (law : SpellableIsFine) (once : FixedValueIsUnique) (p : Problem) (c : Certificate) (spelled : IsSpellable c) (good : IsGood p c) where
  is_fine : IsFine c
  is_fine = law c spelled

  shore_of : (i : ℕ) → IsShoreNumber c.shores i → IsShoreOf p c.shores i
  shore_of zero number = absurd (omega (arith, number.from_one))
  shore_of (suc k) number = record { number = number; belongs = good.shores k [] (omega (arith, number.in_range)) }

  set_shores : (set : Prices) → IsFineSet c.shores set → All (λ (w : Weight). IsShoreOf p c.shores w.shore) set.weights
  set_shores set is = All-weaker (λ (w : Weight). IsShoreNumber c.shores w.shore) (λ (w : Weight). IsShoreOf p c.shores w.shore) (λ w number. shore_of w.shore number) set.weights is.shores

  pub shores : HasShores (support_of p c)
  shores = All-weaker (IsFineSet c.shores) (λ (set : Prices). All (λ (w : Weight). IsShoreOf p c.shores w.shore) set.weights) set_shores c.sets is_fine.sets_fine

  abbrev IsFineHere : Node → Type 0
  IsFineHere = IsFineNode (length c.shores) (length c.sets)

  inside_tree : (t : Tree) → PairsIn p t → AllByRecursion IsFineHere (preorder t) → AllByRecursion (IsNodeIn p c.shores) (preorder t)
  inside_tree (pair a b t u) pairs all =
      let parts = part_all IsFineHere (preorder t) (preorder u) all.1 in
      let first = pairs.0 in
      let second = pairs.1 in (
        record { a_from_one = first.from_one; a_in_range = first.in_range; b_from_one = second.from_one; b_in_range = second.in_range; different = λ same. omega (arith, same, all.0.1) },
        join_all (IsNodeIn p c.shores) (preorder t) (preorder u) (inside_tree t pairs.2 parts.0) (inside_tree u pairs.3 parts.1),
      )
  inside_tree (cut shore k t u) pairs all =
      let parts = part_all IsFineHere (preorder t) (preorder u) all.1 in (
        shore_of shore (record { from_one = all.0.0.from_first; in_range = all.0.0.to_last }),
        join_all (IsNodeIn p c.shores) (preorder t) (preorder u) (inside_tree t pairs.0 parts.0) (inside_tree u pairs.1 parts.1),
      )
  inside_tree (price set) pairs all = (tt, tt)
  inside_tree void pairs all = (tt, tt)
  inside_tree fixed pairs all = (tt, tt)

  fine_nodes : All IsFineHere (preorder good.tree)
  fine_nodes = subst (All IsFineHere) (sym good.nodes) is_fine.nodes_fine

  inside : All (IsNodeIn p c.shores) (preorder good.tree)
  inside = All-from_recursion (IsNodeIn p c.shores) (preorder good.tree) (inside_tree good.tree good.pairs (recursion_from_All IsFineHere (preorder good.tree) fine_nodes))

  spelled_node : (node : Node) → IsFineHere node → IsSpelledNode (length c.sets) node
  spelled_node (nodes.Pair a b) is = is.1
  spelled_node (nodes.Cut shore k) is = is.1
  spelled_node (nodes.Price set) is = (is.from_first, is.to_last)
  spelled_node nodes.Void is = tt
  spelled_node nodes.Fixed is = tt

  pub spelled_nodes : All (IsSpelledNode (length c.sets)) c.nodes
  spelled_nodes = All-weaker IsFineHere (IsSpelledNode (length c.sets)) spelled_node c.nodes is_fine.nodes_fine

  fine_node : (node : Node) → IsFineHere node → places.IsFineNode node
  fine_node (nodes.Pair a b) is = tt
  fine_node (nodes.Cut shore k) is = is.1
  fine_node (nodes.Price set) is = tt
  fine_node nodes.Void is = tt
  fine_node nodes.Fixed is = tt

  pub tree_nodes : AreTreeNodes p c.shores c.nodes
  tree_nodes = record {
    tree = good.tree;
    in_preorder = good.nodes;
    inside = subst (All (IsNodeIn p c.shores)) good.nodes inside;
    fine = All-weaker IsFineHere places.IsFineNode fine_node c.nodes is_fine.nodes_fine;
  }

  pub would_show : WouldShowSome (support_of p c) c.nodes
  would_show = record { tree = good.tree; in_preorder = good.nodes; bound = c.bound; shows = would once (support_of p c) c.bound [] good.tree good.shows }

  pub may_resume : IsLowerBound p c.bound → (entries : List GrowingNode) → AreNotedNodes (support_of p c) c.nodes entries → MayResume p c.shores c.sets c.bound entries
  may_resume bounds entries noted = record {
    tree = good.tree;
    noted = noted good.tree good.nodes;
    inside = inside;
    spelled = All-weaker IsFineHere (IsSpelledNode (length c.sets)) spelled_node (preorder good.tree) fine_nodes;
    lean = good.lean;
    shows = good.shows;
    below = bounds;
    fine = All-weaker (IsFineSet c.shores) IsPriceSet (λ set is. is.prices) c.sets is_fine.sets_fine;
    held = λ k d less.
        let fine_set = is_fine.sets_fine k d less in
        record { one_each = good.prices k d less; not_negative = good.deadheads k d less; shores = set_shores _ fine_set; groups = spelled_in_range (get_or c.sets k d) fine_set.group_edges };
    few_sets = is_fine.few_sets;
    belong = good.shores;
    few_nodes = omega (arith, ap length good.nodes, is_fine.few_nodes);
  }

  -- its nodes are those of its tree, whose turns for its cost are the nodes that show it
  pub had : ResumedTreesHaveTurns → IsLowerBound p c.bound → (entries : List GrowingNode) → AreNotedNodes (support_of p c) c.nodes entries → HaveTurns (support_of p c) c.nodes c.cost (turns_in c.cost entries)
  unfolding may_resume
  had law bounds entries noted = record {
    tree = good.tree;
    in_preorder = good.nodes;
    turns_are = law p c.shores c.sets c.bound entries (may_resume bounds entries noted) is_fine.bound_in c.cost is_fine.cost_in;
  }
