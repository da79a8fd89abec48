-- What a search holds when it ends.
use Rattle.std.proofs.Common.{◌≡◌, ℕ, suc, ◌+◌, ◌*◌, ◌^◌, ◌≤◌, ◌<◌, zero, List, [], ◌∷◌, length, map, get_or, sym, subst, ap, ◌∙◌, arith, pos, ◌≤ℤ◌}
use Rattle.std.specs.List.{All}
use Rattle.std.proofs.lemmas.List.{length-map}
use Rattle.std.proofs.lemmas.List.Elements.{All-same}
use Rattle.carp_base.specs.Problem.{Problem}
use Rattle.plan_model.specs.Plans.{plan_cost}
use Rattle.branch_rules.specs.Limits.{IsNodeIn}
use Rattle.branch_rules.specs.Trees.{HasTurns, Support, preorder}
use Rattle.branch_rules.specs.declared.node.Node.{Node}
use Rattle.grown_trees.specs.Growth.{AreSound, Fraction, IsSpelledNode, turns_in}
use Rattle.grown_trees.specs.Laws.{IsSoundTree, SoundIsTree}
use Rattle.grown_trees.specs.Stands.{Stand, stands}
use Rattle.grown_trees.specs.declared.growing.GrowingNode.{GrowingNode}
use Rattle.task_tours.specs.ShortLaws.{ShortPlansCostLittle}
use Rattle.branch_tree.specs.Founds.{IsFound}
use Rattle.branch_tree.specs.Searches.{IsHeld, State, support_in}
use Rattle.branch_tree.proofs.Numbers.{shown_within}

-- Each node shows no less than the base.

each_enough : (c : Support) (base : Fraction) (ss : List Stand) (es : List GrowingNode) → AreSound c base ss es → (k : ℕ) (d : GrowingNode) → k < length es → base.value ≤ℤ pos (base.unit * (get_or es k d).shows)
each_enough c base [] [] sound k d less = absurd (omega (arith, less))
each_enough c base [] (e ∷ es) sound k d less = absurd sound
each_enough c base (s ∷ ss) [] sound k d less = absurd sound
each_enough c base (s ∷ ss) (e ∷ es) sound zero d less = sound.0.enough
each_enough c base (s ∷ ss) (e ∷ es) sound (suc k) d less = each_enough c base ss es sound.1 k d (omega (arith, less))

-- There are no more nodes than there is room for.

pub node_count : (entries : List GrowingNode) (found : List Node) → found ≡ map (λ (entry : GrowingNode). entry.node) entries → (room turns : ℕ) → length entries ≤ room → room ≡ 2 * turns + 1 → turns ≤ 1048576 →
    length found ≤ 2097153
node_count entries found are room turns few is within =
    let long : length found ≡ length entries = ap (λ (ns : List Node). length ns) are ∙ length-map entries (λ (entry : GrowingNode). entry.node) in
    omega (arith, long, few, is, within)

-- What was found.

module _ (law : SoundIsTree) (costs : ShortPlansCostLittle) (p : Problem) (s : State) (held : IsHeld p s) (found : List Node) (are : found ≡ map (λ (entry : GrowingNode). entry.node) s.nodes) (few : length found ≤ 2097153) (bound : ℕ)
    (at_most : bound ≤ s.cost) (each : All (λ (entry : GrowingNode). bound ≤ entry.shows) s.nodes)
    (greatest : (other : ℕ) → other ≤ s.cost → All (λ (entry : GrowingNode). other ≤ entry.shows) s.nodes → other ≤ bound) where
  small : s.cost < 10 ^ 18
  small = omega (arith, held.cost_is, costs p s.plan held.valid held.allowed.lawful held.allowed.few_steps)

  is_tree : IsSoundTree (support_in p s) held.tree s.nodes
  is_tree = law (support_in p s) s.base held.tree s.nodes held.sound

  same : found ≡ preorder held.tree
  same = are ∙ sym is_tree.nodes

  pub is_found : IsFound p (record { plan = s.plan; pool = s.pool; sets = s.sets; nodes = found; bound = bound }) s.done
  is_found = record {
    valid = held.valid;
    allowed = held.allowed;
    belong = held.belong;
    sets = held.sets;
    few_sets = held.few_sets;
    few_nodes = few;
    inside = All-same (IsNodeIn p s.pool) found (preorder held.tree) same is_tree.inside;
    spelled = All-same (IsSpelledNode (length s.sets)) found (preorder held.tree) same is_tree.spelled;
    tree = held.tree;
    in_preorder = sym same;
    pairs = is_tree.pairs;
    lean = is_tree.lean;
    fits = is_tree.fits;
    turns_are = subst (λ (n : ℕ). HasTurns (support_in p s) [] (plan_cost p s.plan) held.tree n) (sym held.done_is)
        (subst (λ (n : ℕ). HasTurns (support_in p s) [] n held.tree (turns_in s.cost s.nodes)) held.cost_is (is_tree.turns s.cost small));
    at_most = omega (arith, at_most, held.cost_is);
    shows = (is_tree.shows bound (omega (arith, at_most, small))).1 each;
    greatest = λ other most shows. greatest other (omega (arith, most, held.cost_is)) ((is_tree.shows other (omega (arith, most, held.cost_is, small))).0 shows);
  }

  -- it is no less than the bound of the beginning
  pub no_less : s.least ≤ bound
  no_less =
      greatest s.least (omega (arith, held.cost_is, held.below s.plan held.allowed.lawful))
      (λ k d less. shown_within s.base.unit s.least (get_or s.nodes k d).shows s.base.value held.shown (each_enough (support_in p s) s.base (stands [] held.tree) s.nodes held.sound k d less))
