use Rattle.std.proofs.Common.{◌≡◌, ◌∙◌, ◌∷◌, ◌+◌, ◌*◌, List, [], ap, sym, subst, arith, ◌≤◌}
use Rattle.std.proofs.lemmas.Result.{IfOk-weaker}
use Rattle.std.proofs.lemmas.Int.{ints}
use Rattle.decision_chains.specs.declared.decision.Decision.{Decision}
use Rattle.branch_rules.specs.Decisions.{rules_of}
use Rattle.branch_rules.specs.Laws.{FitsBranch}
use Rattle.branch_rules.specs.Prices.{value_of}
use Rattle.dual_master.specs.Floors.{plain_value}
use Rattle.grown_trees.specs.Growth.{Growth}
use Rattle.grown_trees.specs.Values.{IsMostShown, IsShown}
use Rattle.grown_trees.specs.declared.growing.GrowingNode.{GrowingNode}
use Rattle.branch_tree.specs.Beginnings.{IsRoot}
use Rattle.branch_tree.proofs.Numbers.{shown_0}
use Rattle.branch_tree.proofs.beginning.plant.Goals as goal

pub shown_under-shows-requires-clause-fits : goal.shown_under-shows-requires-clause-fits
shown_under-shows-requires-clause-fits c =
    subst (λ (b : List Decision). FitsBranch c.args.inst.now c.args.floor.now.pool b c.args.floor.now.set) (sym c.new.ensures) (c.requires.floor.fits [])

pub shown_under-shows-requires-clause-some : goal.shown_under-shows-requires-clause-some
shown_under-shows-requires-clause-some c =
    subst (λ (b : List Decision). 1 ≤ c.args.floor.now.set.unit → IsShown c.args.floor.now.set.unit (value_of (rules_of c.args.inst.now c.args.floor.now.pool b) c.args.floor.now.set) 0) (sym c.new.ensures)
    (λ some. shown_0 c.args.floor.now.set.unit (plain_value c.args.inst.now c.args.floor.now.pool c.args.floor.now.set) some (omega (arith, ints, c.requires.floor.floors.floors.services)))

pub returns : goal.returns
returns c =
    let p = c.args.inst.now in
    let floor = c.args.floor.now in
    let root : GrowingNode → Growth = λ (x : GrowingNode). record { nodes = x ∷ []; room = 2 * c.args.turns + 1 } in
    let shown =
    subst (λ (branch : List Decision). IsMostShown floor.set.unit (value_of (rules_of p floor.pool branch) floor.set) c.shown_under-shows.result) c.new.ensures c.shown_under-shows.ensures.shown in
    IfOk-weaker c.new-2.result (λ (tree : Growth). tree ≡ root c.price_leaf.result) (IsRoot p c.args.turns floor)
    (λ tree is. record { shows = c.shown_under-shows.result; leaf = is ∙ ap root c.price_leaf.ensures; shown = shown }) c.new-2.ensures
