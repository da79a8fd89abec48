use Rattle.std.proofs.Common.{◌<◌, length, get_or, ap, arith, subst}
use Rattle.std.proofs.lemmas.List.{get_or_default}
use Rattle.branch_rules.specs.Crossings.{IsUncrossed}
use Rattle.branch_rules.proofs.Places.{one_more}
use Rattle.branch_rules.proofs.Voiding.{crossing_now}
use Rattle.branch_rules.proofs.branch.Branch.is_crossed.Goals as goal

pub returns-then-crosses-clause-yes : goal.returns-then-crosses-clause-yes
returns-then-crosses-clause-yes c = λ is.
    let items = c.decisions-decision-items.ensures in
    let crossing = rw items at (c.crosses.ensures.yes c.if-crosses.true) in
    crossing_now c.args.inst.now c.args.pool.now c.args.self.now c.loop-decision.decision-index _ (omega (arith, c.loop-decision-test.true, ap length items)) crossing

pub loop-decision-preserved : goal.loop-decision-preserved
loop-decision-preserved c = λ k d less.
    let items = c.decisions-decision-items.ensures in
    let i = c.loop-decision.decision-index in
    let within : i < length c.args.self.now = omega (arith, c.loop-decision-test.true, ap length items) in
    let uncrossed = rw items at (c.crosses.ensures.no c.if-crosses.false) in
    let P = IsUncrossed c.args.inst.now c.args.pool.now c.args.self.now in
    one_more (λ e. P (get_or c.args.self.now e d)) i (λ e before. c.loop-decision.invariant e d before) (subst P (get_or_default c.args.self.now i _ d within) uncrossed) k less
