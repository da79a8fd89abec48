use Rattle.std.proofs.Common.{Option, IfSome, subst}
use Rattle.branch_rules.specs.Prices.{Prices}
use Rattle.leaf_adviser.specs.Offers.{IsOffer}
use Rattle.dual_master.proofs.Raised.{raised_since, still_fits, still_there}
use Rattle.dual_master.proofs.raising.ask.Goals as goal

pub if_better-requires-clause-shores : goal.if_better-requires-clause-shores
if_better-requires-clause-shores g c =
    still_there c.growth_keeps_sets.ensures c.args.leaf.now.inst.now c.args.leaf.now.branch.now c.args.pool.now c.prices.new.pool c.prices.ensures.grown c.args.best.now c.requires.best.shores

pub if_better-requires-clause-fits : goal.if_better-requires-clause-fits
if_better-requires-clause-fits g c =
    still_fits c.growth_keeps_sets.ensures c.args.leaf.now.inst.now c.args.leaf.now.branch.now c.args.pool.now c.prices.new.pool c.prices.ensures.grown c.args.best.now c.requires.best.shores c.requires.best.fits

pub returns-in-Some-clause-raised : goal.returns-in-Some-clause-raised
returns-in-Some-clause-raised g c =
    let offer = subst (λ (found : Option Prices). IfSome found (IsOffer c.args.leaf.now.inst.now c.prices.new.pool)) c.in-Some.is c.in_ok-offered.ensures.offer in
    raised_since c.growth_keeps_sets.ensures c.args.leaf.now.inst.now c.args.leaf.now.branch.now c.args.pool.now c.prices.new.pool c.prices.ensures.grown c.args.best.now c.requires.best.shores
    c.in-Some.offered offer.priced.shores offer.groups c.if_better.result c.if_better.ensures.accepted

pub prices-requires-clause-best : goal.prices-requires-clause-best
prices-requires-clause-best g c = record { one_each = c.requires.best.fits.one_each; shores = c.requires.best.shores }

pub if_better-requires-clause-offered_shores : goal.if_better-requires-clause-offered_shores
if_better-requires-clause-offered_shores g c =
    let offer = subst (λ (found : Option Prices). IfSome found (IsOffer c.args.leaf.now.inst.now c.prices.new.pool)) c.in-Some.is c.in_ok-offered.ensures.offer in offer.priced.shores

pub if_better-requires-clause-one_each : goal.if_better-requires-clause-one_each
if_better-requires-clause-one_each g c =
    let offer = subst (λ (found : Option Prices). IfSome found (IsOffer c.args.leaf.now.inst.now c.prices.new.pool)) c.in-Some.is c.in_ok-offered.ensures.offer in offer.priced.one_each
