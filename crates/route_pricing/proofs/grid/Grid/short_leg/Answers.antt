use Rattle.std.proofs.Common.{arith, sym, ◌∙◌}
use Rattle.route_pricing.proofs.PartialTours.{least_small, not_both}
use Rattle.route_pricing.proofs.Succeeding.{may_back}
use Rattle.route_pricing.proofs.grid.Grid.short_leg.Goals as goal

pub returns-then-not-may_precede : goal.returns-then-not-may_precede
returns-then-not-may_precede c =
    let r = c.requires in
    let excluded = sym (may_back c.args.self.now r.grid c.args.next.now r.next c.args.before r.before c.may_precede.result c.may_precede.ensures) ∙ c.if-not-may_precede.true in
    record {
      small = omega arith;
      allowed = λ less. absurd (omega (arith, less));
      exact = λ less. absurd (omega (arith, less));
      least = λ allowed. absurd (not_both _ allowed excluded);
    }

pub overflow_add-leg_above : goal.overflow_add-leg_above
overflow_add-leg_above c = omega (arith, c.leg_above.ensures.small, c.least_raised.ensures, least_small c.args.next.now.charge)

pub returns : goal.returns
returns c =
    let r = c.requires in
    let allowed = sym (may_back c.args.self.now r.grid c.args.next.now r.next c.args.before r.before c.may_precede.result c.may_precede.ensures) ∙ c.if-not-may_precede.false in
    record {
      small = c.capped.ensures.small;
      allowed = λ _. allowed;
      exact = λ less. omega (arith, c.capped.ensures.exact less, c.leg_above.ensures.value, c.least_raised.ensures);
      least = λ _. omega (arith, c.capped.ensures.least, c.leg_above.ensures.value, c.least_raised.ensures);
    }
