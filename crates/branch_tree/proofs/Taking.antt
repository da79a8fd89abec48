-- The leaf that a step takes, and the search after it gave way to other nodes.
use Rattle.std.proofs.Common.{◌≡◌, ℕ, ◌+◌, ◌<◌, ◌≤◌, List, [], ◌++◌, take, drop, length, map, get_or, refl, sym, subst, ap, ◌∙◌, arith}
use Rattle.std.specs.List.{All}
use Rattle.std.proofs.lemmas.List.{get_or-map, get_or_default, length-map}
use Rattle.std.proofs.lemmas.List.Elements.{All-append}
use Rattle.carp_base.specs.Problem.{Problem}
use Rattle.plan_model.specs.declared.step.Step.{Step}
use Rattle.plan_model.specs.Plans.{plan_cost}
use Rattle.decision_chains.specs.declared.decision.Decision.{Decision}
use Rattle.branch_rules.specs.Prices.{Prices}
use Rattle.branch_rules.specs.Trees.{Tree, node_at, preorder}
use Rattle.branch_rules.specs.declared.node.Node.{Node}
use Rattle.branch_rules.specs.declared.node.Node.TheVariants as nodes
use Rattle.grown_trees.specs.Growth.{AreSound, IsSoundNode, turns_in}
use Rattle.grown_trees.specs.Laws.{IsSoundTree}
use Rattle.grown_trees.specs.Places.{IsFineNode, IsLeaf, IsLeafAt, branch_to, grown}
use Rattle.grown_trees.specs.Stands.{stands, with_sets}
use Rattle.grown_trees.specs.declared.growing.GrowingNode.{GrowingNode}
use Rattle.branch_tree.specs.Known.{Known}
use Rattle.branch_tree.specs.Leaves.{IsAtLeaf}
use Rattle.task_tours.specs.Shorts.{IsAllowedPlan}
use Rattle.branch_tree.specs.Searches.{IsHeld, IsHeldSet, State, support_in}
use Rattle.branch_tree.specs.Steps.{IsTaken}
use Rattle.branch_tree.proofs.Counting.{nodes_then, turns_rise}

abbrev pub no_entry : GrowingNode
no_entry = record { node = nodes.Void; shows = 0 }

module _ (known : Known) (p : Problem) (s : State) (held : IsHeld p s) where
  pub small_cost : s.cost ≤ 2000000000000
  small_cost = omega (arith, held.cost_is, known.costs p s.plan held.valid held.allowed.lawful held.allowed.few_steps)

  is_tree : IsSoundTree (support_in p s) held.tree s.nodes
  is_tree = known.tree (support_in p s) s.base held.tree s.nodes held.sound

  pub all_fine : All (λ (entry : GrowingNode). IsFineNode entry.node) s.nodes
  all_fine = λ k d less.
      let long : k < length (map (λ (entry : GrowingNode). entry.node) s.nodes) = omega (arith, less, length-map s.nodes (λ (entry : GrowingNode). entry.node)) in
      subst IsFineNode (get_or-map (λ (entry : GrowingNode). entry.node) s.nodes k d d.node less)
      (subst (λ (ns : List Node). All IsFineNode ns) is_tree.nodes is_tree.fine k d.node long)

  module _ (place : ℕ) (branch : List Decision) (at : IsAtLeaf s place branch) where
    abbrev pub old : GrowingNode
    old = get_or s.nodes place no_entry

    pub old_is : (other : GrowingNode) → get_or s.nodes place other ≡ old
    old_is other = get_or_default s.nodes place other no_entry at.least.inside

    way : branch ≡ branch_to [] held.tree place
    way = at.way held.tree is_tree.nodes

    -- the leaf is sound
    pub sound : IsSoundNode (support_in p s) s.base (record { branch = branch; node = old.node }) old
    sound =
        subst (λ (b : List Decision). IsSoundNode (support_in p s) s.base (record { branch = b; node = (get_or s.nodes place no_entry).node }) (get_or s.nodes place no_entry)) (sym way)
        (known.place (support_in p s) s.base held.tree s.nodes place no_entry held.sound at.least.inside)

    pub below : old.shows < s.cost
    below = at.least.not_shown no_entry

    leaf_at : IsLeafAt held.tree place
    leaf_at = known.leaf (support_in p s) s.base held.tree s.nodes place no_entry held.sound at.least.inside (omega (arith, at.least.not_shown no_entry, small_cost))

    node_is : node_at (preorder held.tree) place ≡ old.node
    node_is = ap (λ (ns : List Node). node_at ns place) is_tree.nodes ∙ get_or-map (λ (entry : GrowingNode). entry.node) s.nodes place no_entry nodes.Void at.least.inside

    pub is_leaf : IsLeaf old.node
    is_leaf = subst IsLeaf node_is leaf_at.leaf

    pub taken : (after : State) (news : List GrowingNode) → after.nodes ≡ take place s.nodes ++ (news ++ drop (place + 1) s.nodes) → IsTaken s after branch old news
    taken after news nodes_are = record {
      place = place;
      least = at.least;
      was = sym (old_is old);
      leaf = is_leaf;
      tree = held.tree;
      of_nodes = is_tree.nodes;
      way = way;
      nodes = nodes_are;
    }

    module _ (sub : Tree) (news : List GrowingNode) (more : List Prices) (plan : List (List Step)) (cost : ℕ) where
      abbrev pub then_nodes : List GrowingNode
      then_nodes = take place s.nodes ++ (news ++ drop (place + 1) s.nodes)

      abbrev pub then_is : State
      then_is = record { pool = s.pool; sets = s.sets ++ more; nodes = then_nodes; plan = plan; cost = cost; done = turns_in cost then_nodes; least = s.least; base = s.base }

      -- other nodes may stand in place of the leaf, with more price sets, and with a plan that is no dearer
      pub record MayFollow : Type 0 where
        pub no_dearer : cost ≤ s.cost
        pub allowed : IsAllowedPlan p plan
        pub cost_is : cost ≡ plan_cost p plan
        pub sets : All (IsHeldSet p s.pool) more
        pub one_set : length more ≤ 1
        pub few_sets : length (s.sets ++ more) ≤ 256
        pub few_news : length news ≤ 3
        pub turn : 1 ≤ turns_in cost news
        pub sound : AreSound (with_sets (support_in p s) more) s.base (stands branch sub) news

      rises : MayFollow → s.done + 1 ≤ turns_in cost then_nodes
      rises m = omega (arith, turns_rise s.cost s.nodes place no_entry at.least.inside cost news m.no_dearer below, held.done_is, m.turn)

      -- so the search goes on
      pub follows : MayFollow → IsHeld p then_is
      follows m =
          let support = support_in p s in
          let rise = turns_rise s.cost s.nodes place no_entry at.least.inside cost news m.no_dearer below in
          record {
            valid = held.valid;
            below = held.below;
            some_unit = held.some_unit;
            shown = held.shown;
            beneath = held.beneath;
            tree = grown held.tree place sub;
            sound =
                known.grown (with_sets support more) s.base held.tree sub place s.nodes news leaf_at (known.more_sets support s.base more [] held.tree s.nodes held.sound)
                (subst (λ (b : List Decision). AreSound (with_sets support more) s.base (stands b sub) news) way m.sound);
            sets = All-append (IsHeldSet p s.pool) s.sets more held.sets m.sets;
            few_sets = m.few_sets;
            belong = held.belong;
            allowed = m.allowed;
            cost_is = m.cost_is;
            done_is = refl;
            few_nodes = omega (arith, nodes_then s.cost s.nodes place no_entry at.least.inside news, m.few_news, m.turn, rise, held.done_is, held.few_nodes);
          }

      pub more_done : MayFollow → s.done < turns_in cost then_nodes
      more_done m = omega (arith, rises m)
