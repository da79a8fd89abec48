use Rattle.std.proofs.Common.{◌≡◌, ◌+◌, ◌-◌, subst, arith}
use Rattle.decision_chains.specs.Choosing.{IsFilled}
use Rattle.decision_chains.proofs.Choices.{filled_more}
use Rattle.decision_chains.proofs.directing.fill.Goals as goal

pub loop-i-init : goal.loop-i-init
loop-i-init c = record {
  long = c.requires.long;
  each = λ j low within. absurd (omega (arith, low, within));
  small = λ j low within. absurd (omega (arith, low, within));
}

pub left_after-requires-clause-filled : goal.left_after-requires-clause-filled
left_after-requires-clause-filled c =
    let place : c.loop-i.i ≡ c.loop-i.i - 1 + 1 = omega (arith, c.loop-i-test.true) in
    subst (IsFilled c.args.inst.now c.args.edges.now c.loop-i.lefts) place c.loop-i.invariant

pub loop-i-preserved : goal.loop-i-preserved
loop-i-preserved c =
    let place : c.loop-i.i ≡ c.loop-i.i - 1 + 1 = omega (arith, c.loop-i-test.true) in
    let before = subst (IsFilled c.args.inst.now c.args.edges.now c.loop-i.lefts) place c.loop-i.invariant in
    filled_more c.args.inst.now c.args.edges.now c.loop-i.lefts (c.loop-i.i - 1) c.left_after.result before (omega (arith, c.loop-i-test.true, c.loop-i.auto.i)) c.left_after.ensures.least c.left_after.ensures.small

pub returns : goal.returns
returns c =
    let place : c.loop-i.i ≡ 0 = omega (arith, c.loop-i-test.false) in
    subst (IsFilled c.args.inst.now c.args.edges.now c.loop-i.lefts) place c.loop-i.invariant
