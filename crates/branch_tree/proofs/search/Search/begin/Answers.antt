use Rattle.std.proofs.Common.{◌≡◌, ◌∙◌, ℕ, ◌*◌, pos, ◌≤ℤ◌, ap, arith, refl, sym, subst, length, map, get_or}
use Rattle.dual_master.specs.Floors.{plain_value}
use Rattle.grown_trees.specs.Growth.{Growth, turns_in}
use Rattle.grown_trees.specs.declared.growing.GrowingNode.{GrowingNode}
use Rattle.branch_tree.specs.Beginnings.{IsRoot}
use Rattle.branch_tree.specs.Values.{ReachesFloors}
use Rattle.branch_tree.proofs.Root.{base_is, begun_floored, begun_held}
use Rattle.branch_tree.proofs.search.Search.begin.Goals as goal

pub returns-clause-search : goal.returns-clause-search
returns-clause-search c =
    let p = c.args.inst.now in
    let floor = c.in_ok-floor.floor in
    let tree = c.turns-done.new.self in
    let same : tree ≡ c.in_ok-tree.tree = c.turns-done.ensures.same in
    let root : IsRoot p c.args.turns floor tree = subst (λ (t : Growth). IsRoot p c.args.turns floor t) (sym same) c.in_ok-tree.ensures in
    let leaf = c.node-least.ensures ∙ ap (λ (t : Growth). get_or t.nodes 0 c.node-least.result) (sym same ∙ root.leaf) in
    let turns = c.turns-done.ensures.turns ∙ ap (λ (t : Growth). turns_in c.in_ok-cost.cost t.nodes) (sym same) in
    record {
      net = c.floor_of.ensures.tools.net;
      problem = c.floor_of.ensures.tools.problem;
      costs = c.floor_of.ensures.tools.costs;
      table = c.floor_of.ensures.tools.table;
      some_turns = c.requires.some_turns;
      turns_in_range = c.requires.turns_in_range;
      room = ap (λ (t : Growth). t.room) root.leaf;
      few = omega (arith, ap (λ (t : Growth). length t.nodes) root.leaf, ap (λ (t : Growth). t.room) root.leaf);
      held = begun_held c.short_plans_cost_little.ensures p floor c.in_ok-floor.ensures.floor c.args.best c.requires.allowed c.args.turns tree root c.in_ok-sets.sets.items c.in_ok-sets.ensures c.in_ok-cost.cost c.in_ok-cost.ensures c.turns-done.result turns
          c.node-least.result.shows (ap (λ (x : GrowingNode). x.shows) leaf) (record { unit = c.base_of-base.result.unit; value = c.base_of-base.result.value }) (base_is p floor c.base_of-base.result c.base_of-base.ensures.unit c.base_of-base.ensures.value);
    }

pub returns-clause-begun : goal.returns-clause-begun
returns-clause-begun c =
    let p = c.args.inst.now in
    let floor = c.in_ok-floor.floor in
    let tree = c.turns-done.new.self in
    let same : tree ≡ c.in_ok-tree.tree = c.turns-done.ensures.same in
    let root : IsRoot p c.args.turns floor tree = subst (λ (t : Growth). IsRoot p c.args.turns floor t) (sym same) c.in_ok-tree.ensures in
    let leaf = c.node-least.ensures ∙ ap (λ (t : Growth). get_or t.nodes 0 c.node-least.result) (sym same ∙ root.leaf) in
    record {
      best = refl;
      set = floor.set;
      one_set = c.in_ok-sets.ensures;
      no_groups = c.in_ok-floor.ensures.floor.no_groups;
      pool = c.in_ok-floor.ensures.floor.held;
      leaf = ap (λ (t : Growth). map (λ (entry : GrowingNode). entry.node) t.nodes) root.leaf;
      base_is = base_is p floor c.base_of-base.result c.base_of-base.ensures.unit c.base_of-base.ensures.value;
      reached = subst (ReachesFloors p) (sym (base_is p floor c.base_of-base.result c.base_of-base.ensures.unit c.base_of-base.ensures.value)) c.in_ok-floor.ensures.floor.floors;
      floored = begun_floored c.short_plans_cost_little.ensures p floor c.in_ok-floor.ensures.floor c.args.best c.requires.allowed c.args.turns tree root c.node-least.result.shows (ap (λ (x : GrowingNode). x.shows) leaf);
    }

pub base_of-base-requires-clause-covered : goal.base_of-base-requires-clause-covered
base_of-base-requires-clause-covered c =
    let floor = c.in_ok-floor.floor in
    subst (λ (n : ℕ). plain_value c.args.inst.now floor.pool floor.set ≤ℤ pos (floor.set.unit * n)) (sym c.in_ok-cost.ensures) (c.in_ok-floor.ensures.floor.floors.below c.args.best c.requires.allowed.lawful)

pub base_of-base-requires-clause-little : goal.base_of-base-requires-clause-little
base_of-base-requires-clause-little c =
    let allowed = c.requires.allowed in
    let little = c.short_plans_cost_little.ensures c.args.inst.now c.args.best c.in_ok-floor.ensures.floor.valid allowed.lawful allowed.few_steps in
    omega (arith, little, c.in_ok-cost.ensures)
