use Rattle.std.proofs.Common.{◌≡◌, ℕ, List, ◌∙◌, length, ap, refl, subst, sym, arith}
use Rattle.grown_trees.specs.Growth.{Fraction, Growth, turns_in}
use Rattle.grown_trees.specs.declared.growing.GrowingNode.{GrowingNode}
use Rattle.branch_tree.specs.Searches.{IsHeld}
use Rattle.branch_tree.specs.Values.{just_above}
use Rattle.branch_tree.proofs.Regrown.{base_is, few_nodes, in_range, resumed_held}
use Rattle.branch_tree.proofs.search.Search.resume.Goals as goal

pub returns-clause-search : goal.returns-clause-search
returns-clause-search c =
    let p = c.args.inst.now in
    let tree = c.in_ok-tree.ensures in
    let entries : c.in_ok-tree.tree.nodes ≡ c.args.nodes.now = ap (λ (t : Growth). t.nodes) tree in
    let room = ap (λ (t : Growth). t.room) tree in
    let few = few_nodes c.short_plans_cost_little.ensures p c.validity.ensures c.args.best c.requires.allowed c.args.pool c.args.sets.items c.args.least c.args.nodes.now c.requires.may
    c.in_ok-cost.cost c.in_ok-cost.ensures in
    let most = in_range c.short_plans_cost_little.ensures p c.validity.ensures c.args.best c.requires.allowed c.args.pool c.args.sets.items c.args.least c.args.nodes.now c.requires.may in
    record {
      net = c.in_ok-tools.ensures.net;
      problem = c.in_ok-tools.ensures.problem;
      costs = c.in_ok-tools.ensures.costs;
      table = c.in_ok-tools.ensures.table;
      some_turns = omega (arith, c.budget_from-budget.ensures, c.requires.some_turns);
      turns_in_range = omega (arith, c.budget_from-budget.ensures);
      room = room;
      few = omega (arith, few, most, room, ap (λ (es : List GrowingNode). length es) entries, c.turns_for-done.ensures, c.budget_from-budget.ensures);
      held =
          subst (λ (b : Fraction). IsHeld p (record { pool = c.args.pool; sets = c.args.sets.items; nodes = c.in_ok-tree.tree.nodes; plan = c.args.best; cost = c.in_ok-cost.cost; done = c.turns_for-done.result; least = c.args.least; base = b }))
          (sym (base_is c.args.least c.base_above-base.result c.base_above-base.ensures.unit c.base_above-base.ensures.value))
          (subst (λ (ns : List GrowingNode). IsHeld p (record { pool = c.args.pool; sets = c.args.sets.items; nodes = ns; plan = c.args.best; cost = c.in_ok-cost.cost; done = c.turns_for-done.result; least = c.args.least; base = just_above c.args.least }))
          (sym entries)
          (resumed_held c.short_plans_cost_little.ensures p c.validity.ensures c.args.best c.requires.allowed c.args.pool c.args.sets.items c.args.least c.args.nodes.now c.requires.may
          c.in_ok-cost.cost c.turns_for-done.result c.in_ok-cost.ensures c.turns_for-done.ensures));
    }

pub returns-clause-resumed : goal.returns-clause-resumed
returns-clause-resumed c = record {
  best = refl;
  pool_is = refl;
  sets_are = refl;
  nodes_are = ap (λ (t : Growth). t.nodes) c.in_ok-tree.ensures;
  least_is = refl;
  base_is = base_is c.args.least c.base_above-base.result c.base_above-base.ensures.unit c.base_above-base.ensures.value;
  done_is = c.turns_for-done.ensures ∙ ap (λ (n : ℕ). turns_in n c.args.nodes.now) c.in_ok-cost.ensures;
}
