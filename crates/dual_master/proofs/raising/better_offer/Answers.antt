use Rattle.std.proofs.Common.{Option, IfSome, subst, sym}
use Rattle.branch_rules.specs.Limits.{IsPriceSet}
use Rattle.branch_rules.specs.Prices.{Prices}
use Rattle.dual_master.specs.Raising.{IsBetter}
use Rattle.dual_master.proofs.Offered.{first_offer, held_on, later_is_better}
use Rattle.dual_master.proofs.raising.better_offer.Goals as goal

pub returns-in_ok-better-in-Some-clause-standing : goal.returns-in_ok-better-in-Some-clause-standing
returns-in_ok-better-in-Some-clause-standing g c =
    let p = c.args.leaf.now.inst.now in
    let branch = c.args.leaf.now.branch.now in
    let pool = c.args.pool.now in
    let after = c.ask.new.pool in
    let start = c.args.start.now in
    let better = subst (λ (found : Option Prices). IfSome found (IsBetter p branch pool start)) c.in-Some.is c.requires.standing.better in
    let fine = subst IsPriceSet c.set.view_is c.set.invariant in record {
      held = held_on c.growth_keeps_sets.ensures p branch pool after c.ask.ensures.grown start c.requires.standing.held;
      better = subst (IsBetter p branch after start) (sym c.later.ensures)
          (later_is_better c.growth_keeps_sets.ensures p branch pool after c.ask.ensures.grown start c.in-Some.set fine.some_unit c.requires.standing.held better c.in_ok-better-in-Some.better c.in_ok-better-in-Some.ensures.raised);
    }

pub returns-in-None-clause-standing : goal.returns-in-None-clause-standing
returns-in-None-clause-standing g c =
    first_offer c.growth_keeps_sets.ensures c.args.leaf.now.inst.now c.args.leaf.now.branch.now c.args.pool.now c.ask-in-None.new.pool c.ask-in-None.ensures.grown c.args.start.now
    c.requires.standing.held c.ask-in-None.result c.ask-in-None.ensures.raised
