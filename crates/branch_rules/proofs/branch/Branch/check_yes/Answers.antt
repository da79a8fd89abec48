use Rattle.std.proofs.Common.{ap, sym, arith, ◌∙◌, length, subst}
use Rattle.branch_rules.specs.Bonds.{GroupWeight}
use Rattle.branch_rules.specs.Prices.{group_at, no_group}
use Rattle.branch_rules.specs.Refusals.{HasYes}
use Rattle.branch_rules.proofs.Places.{item_at, one_more}
use Rattle.branch_rules.proofs.branch.Branch.check_yes.Goals as goal

pub loop-group-preserved : goal.loop-group-preserved
loop-group-preserved c =
    let here = item_at c.groups-group-items.result.now c.args.set.now.groups c.loop-group.group-index c.group-item.result no_group c.groups-group-items.ensures.value c.loop-group-test.true c.group-item.is in
    one_more (λ k. HasYes c.args.self.now (group_at c.args.set.now k)) c.loop-group.group-index c.loop-group.invariant (subst (HasYes c.args.self.now) here c.in-Ok.ensures.accepted)

pub returns-in-Err-clause-refused : goal.returns-in-Err-clause-refused
returns-in-Err-clause-refused c =
    let same = c.groups-group-items.ensures.value in
    let here = item_at c.groups-group-items.result.now c.args.set.now.groups c.loop-group.group-index c.group-item.result no_group same c.loop-group-test.true c.group-item.is in
    record {
      place = c.loop-group.group-index;
      in_range = omega (arith, c.loop-group-test.true, ap length same);
      edges = ap (λ (w : GroupWeight). w.edges) (sym here) ∙ c.in-Err.ensures.refused.edges;
      lacks = subst (λ (w : GroupWeight). ¬ (HasYes c.args.self.now w)) here c.in-Err.ensures.refused.lacks;
      before = c.loop-group.invariant;
    }
