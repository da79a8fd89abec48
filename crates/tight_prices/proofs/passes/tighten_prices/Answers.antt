use Rattle.std.proofs.Common.{◌∙◌, arith}
use Rattle.tight_prices.specs.Probes.{ground_of}
use Rattle.tight_prices.proofs.Passing.{next_prices}
use Rattle.tight_prices.proofs.Rising.{rises_on}
use Rattle.tight_prices.proofs.passes.tighten_prices.Goals as goal

pub loop-e-preserved : goal.loop-e-preserved
loop-e-preserved c =
    let is = c.loop-e.invariant in
    let next = c.in_ok-higher.ensures in
    record {
      room = c.raise_price.ensures.room;
      fitting = next.fitting;
      rises = rises_on is.rises next.rises;
      weights = λ shore. next.weights shore ∙ is.weights shore;
      filled = next.filled;
      tight =
          next_prices c.least_prices_are_there.ensures.tasks (ground_of c.args.setting.now) c.requires.setting.valid c.loop-e.higher c.in_ok-higher.higher is.fitting next.rises next.fitting.fine c.loop-e.e
          next.tight is.tight;
    }

pub returns-clause-tight : goal.returns-clause-tight
returns-clause-tight c e required =
    c.loop-e.invariant.tight e required (omega (arith, required.in_range, c.required-e-end.ensures.value, c.loop-e-test.false))
