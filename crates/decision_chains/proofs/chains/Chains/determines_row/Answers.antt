use Rattle.std.proofs.Common.{◌≤◌}
use Rattle.decision_chains.specs.Exclusions.{IsDetermined}
use Rattle.decision_chains.proofs.Settling.{one_more}
use Rattle.decision_chains.proofs.chains.Chains.determines_row.Goals as goal

pub loop-b-preserved : goal.loop-b-preserved
loop-b-preserved c = λ b from_one less.
    one_more (λ e. 1 ≤ e → IsDetermined c.args.self.now.inst.now c.args.self.now.decisions.now c.args.a e) c.loop-b.b (λ e before from. c.loop-b.invariant e from before) (λ from. c.if-leaves_open.ensures) b less from_one
