use Rattle.std.proofs.Common.{List, ◌++◌, ◌∷◌, [], subst, sym}
use Rattle.decision_chains.specs.declared.decision.Decision.{Decision}
use Rattle.branch_rules.specs.Decisions.{rules_of}
use Rattle.branch_rules.specs.Prices.{value_of}
use Rattle.grown_trees.specs.Values.{IsMostShown, IsShown}
use Rattle.branch_tree.proofs.Numbers.{still_shown}
use Rattle.branch_rules.specs.Laws.{FitsBranch}
use Rattle.branch_tree.proofs.children.shown_after.Goals as goal

pub shown_under-shown-requires-clause-fits : goal.shown_under-shown-requires-clause-fits
shown_under-shown-requires-clause-fits c =
    subst (λ branch. FitsBranch c.args.inst.now c.args.pool.now branch c.args.set.now) (sym c.in_ok-push.ensures.ok)
    (c.known_laws.ensures.kept c.args.inst.now c.args.pool.now c.args.branch.now c.args.decision c.args.set.now c.requires.undecided c.requires.fits).fits

pub shown_under-shown-requires-clause-some : goal.shown_under-shown-requires-clause-some
shown_under-shown-requires-clause-some c = λ some.
    let p = c.args.inst.now in
    let pool = c.args.pool.now in
    let set = c.args.set.now in
    let after = c.args.branch.now ++ c.args.decision ∷ [] in
    subst (λ (branch : List Decision). IsShown set.unit (value_of (rules_of p pool branch) set) 0) (sym c.in_ok-push.ensures.ok)
    (still_shown set.unit (value_of (rules_of p pool c.args.branch.now) set) (value_of (rules_of p pool after) set)
    (c.known_laws.ensures.kept p pool c.args.branch.now c.args.decision set c.requires.undecided c.requires.fits).no_lower (c.requires.some some))

pub returns-clause-shown : goal.returns-clause-shown
returns-clause-shown c =
    let set = c.args.set.now in
    subst (λ (branch : List Decision). IsMostShown set.unit (value_of (rules_of c.args.inst.now c.args.pool.now branch) set) c.shown_under-shown.result) c.in_ok-push.ensures.ok c.shown_under-shown.ensures.shown
