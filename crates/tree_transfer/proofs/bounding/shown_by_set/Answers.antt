use Rattle.std.proofs.Common.{subst, sym}
use Rattle.decision_chains.specs.Exclusions.{Excluded}
use Rattle.branch_rules.specs.Decisions.{rules_of}
use Rattle.branch_rules.specs.Prices.{Prices, Fits, value_of}
use Rattle.grown_trees.specs.Values.{IsMostShown, IsShown}
use Rattle.tree_transfer.specs.Bounding.{support_in}
use Rattle.tree_transfer.proofs.Values.{price_up_to, shows_none}
use Rattle.tree_transfer.proofs.bounding.shown_by_set.Goals as goal

pub shown_under-requires-clause-fits : goal.shown_under-requires-clause-fits
shown_under-requires-clause-fits c =
    let p = c.args.given.now.inst.now in
    let pool = c.args.given.now.pool.now in
    subst (λ (set : Prices). Fits p pool (rules_of p pool c.args.branch.now) (λ a b. ¬ (Excluded p c.args.branch.now a b)) set) (sym c.set.ensures) c.requires.some.1.2.fits

pub shown_under-requires-clause-some : goal.shown_under-requires-clause-some
shown_under-requires-clause-some c =
    let rules = rules_of c.args.given.now.inst.now c.args.given.now.pool.now c.args.branch.now in
    subst (λ (set : Prices). IsShown set.unit (value_of rules set) 0) (sym c.set.ensures) (shows_none _ c.requires.some.0 _ c.requires.some.1.2.above)

pub returns : goal.returns
returns c =
    let rules = rules_of c.args.given.now.inst.now c.args.given.now.pool.now c.args.branch.now in
    price_up_to (support_in c.args.given.now) c.args.branch.now c.args.set c.shown_under.result c.requires.some
    (subst (λ (set : Prices). IsMostShown set.unit (value_of rules set) c.shown_under.result) c.set.ensures c.shown_under.ensures.shown)
