use Rattle.std.proofs.Common.{ℕ, ◌≤◌, ◌<◌, refl, arith}
use Rattle.decision_chains.specs.Exclusions.{IsDetermined}
use Rattle.decision_chains.proofs.Settling.{one_more, all_from_below}
use Rattle.decision_chains.proofs.chains.Chains.determines_all.Goals as goal

pub loop-a-preserved : goal.loop-a-preserved
loop-a-preserved c = λ a b less from_one below.
    one_more (λ e. (f : ℕ) → 1 ≤ f → f < e → IsDetermined c.args.self.now.inst.now c.args.self.now.decisions.now e f) c.loop-a.a (λ e before f from in_it. c.loop-a.invariant e f before from in_it)
    (c.if-not-determines_row.ensures.yes refl) a less b from_one below

pub returns-clause-yes : goal.returns-clause-yes
returns-clause-yes c = λ is.
    all_from_below c.args.self.now.inst.now c.args.self.now.decisions.now (λ a b in_range from_one below. c.loop-a.invariant a b (omega (arith, in_range, c.loop-a-test.false, c.required-a-end.ensures.value)) from_one below)
