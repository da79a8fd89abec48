use Rattle.std.proofs.Common.{◌∙◌, ap, arith, List, length, position}
use Rattle.grown_trees.specs.Blocks.{IsLeast, joined}
use Rattle.grown_trees.specs.Growth.{Growth, shows_just}
use Rattle.grown_trees.specs.declared.growing.GrowingNode.{GrowingNode}
use Rattle.grown_trees.proofs.Leasts.{open_none, open_some}
use Rattle.grown_trees.proofs.growing.GrowingTree.open_leaf.Goals as goal

pub first_that_shows-requires : goal.first_that_shows-requires
first_that_shows-requires c = omega (arith, ap (λ (bs : List (List GrowingNode)). length (joined bs)) c.deref.ensures.value, c.self.invariant.0, c.self.invariant.1)

pub returns-clause-some : goal.returns-clause-some
returns-clause-some c =
    let least = c.shown-least.result in
    let is : IsLeast c.args.cost c.args.self.now.nodes least = record { at_most = c.shown-least.ensures.at_most; each = c.shown-least.ensures.each; greatest = c.shown-least.ensures.greatest } in
    open_some c.args.cost least c.args.self.now.nodes is c.first_that_shows.result
    (c.first_that_shows.ensures ∙ ap (λ (bs : List (List GrowingNode)). position (shows_just least) (joined bs)) c.deref.ensures.value ∙ ap (λ (g : Growth). position (shows_just least) g.nodes) c.self.view_is)
    c.if-least-cost.false

pub returns-clause-none : goal.returns-clause-none
returns-clause-none c =
    let least = c.shown-least.result in
    let is : IsLeast c.args.cost c.args.self.now.nodes least = record { at_most = c.shown-least.ensures.at_most; each = c.shown-least.ensures.each; greatest = c.shown-least.ensures.greatest } in
    open_none c.args.cost least c.args.self.now.nodes is c.first_that_shows.result
    (c.first_that_shows.ensures ∙ ap (λ (bs : List (List GrowingNode)). position (shows_just least) (joined bs)) c.deref.ensures.value ∙ ap (λ (g : Growth). position (shows_just least) g.nodes) c.self.view_is)
