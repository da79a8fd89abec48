use Rattle.std.proofs.Common.{arith}
use Rattle.branch_tree.specs.Searches.{state_of}
use Rattle.branch_tree.proofs.Finding.{is_found, no_less, node_count}
use Rattle.branch_tree.proofs.search.Search.finish.Goals as goal

pub returns-clause-found : goal.returns-clause-found
returns-clause-found c =
    let s = c.args.self in
    is_found c.sound_trees_are_lean.ensures.tree c.short_plans_cost_little.ensures c.args.inst.now (state_of s) c.requires.held c.in_ok-tree.tree.nodes c.in_ok-tree.ensures
    (node_count s.tree.nodes c.in_ok-tree.tree.nodes c.in_ok-tree.ensures s.tree.room s.turns c.requires.few c.requires.room c.requires.turns_in_range)
    c.shown-bound.result c.shown-bound.ensures.at_most c.shown-bound.ensures.each c.shown-bound.ensures.greatest

pub returns-clause-closed : goal.returns-clause-closed
returns-clause-closed c closed =
    let most = c.shown-bound.ensures.greatest c.args.self.cost (omega arith) closed in
    omega (arith, most, c.shown-bound.ensures.at_most)

pub returns-clause-least : goal.returns-clause-least
returns-clause-least c =
    let s = c.args.self in
    no_less c.sound_trees_are_lean.ensures.tree c.short_plans_cost_little.ensures c.args.inst.now (state_of s) c.requires.held c.in_ok-tree.tree.nodes c.in_ok-tree.ensures
    (node_count s.tree.nodes c.in_ok-tree.tree.nodes c.in_ok-tree.ensures s.tree.room s.turns c.requires.few c.requires.room c.requires.turns_in_range)
    c.shown-bound.result c.shown-bound.ensures.at_most c.shown-bound.ensures.each c.shown-bound.ensures.greatest
