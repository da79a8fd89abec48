use Rattle.std.proofs.Common.{arith}
use Rattle.decision_chains.proofs.Barring.{overloaded_heavy, heavy_overloaded}
use Rattle.decision_chains.proofs.chains.Chains.is_overloaded.Goals as goal

pub returns-then-load-capacity-clause-yes : goal.returns-then-load-capacity-clause-yes
returns-then-load-capacity-clause-yes c = λ is.
    let e = c.loop-edge.edge in (
      e,
      overloaded_heavy c.args.self.now c.requires e (record {
        required = record { from_one = omega arith; in_range = omega (arith, c.loop-edge-test.true, c.required-edge-end.ensures.value) };
        over = omega (arith, c.if-load-capacity.true, c.load.ensures.value, c.capacity.ensures.value);
      }),
    )

pub returns-clause-no : goal.returns-clause-no
returns-clause-no c = λ is a heavy.
    let found = heavy_overloaded c.args.self.now c.requires a heavy in
    c.loop-edge.invariant found.0 (omega (arith, found.1.required.in_range, c.loop-edge-test.false, c.required-edge-end.ensures.value)) found.1
