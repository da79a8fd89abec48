use Rattle.std.proofs.Common.{arith}
use Rattle.tight_prices.specs.Probes.{ground_of}
use Rattle.tight_prices.specs.Searches.{IsKnownSingle, IsThisSingle}
use Rattle.tight_prices.proofs.Keeping.{kept_on, kept_wider}
use Rattle.tight_prices.proofs.Passing.{next_shores}
use Rattle.tight_prices.proofs.Rising.{rises_on}
use Rattle.tight_prices.proofs.passes.tighten_weights.Goals as goal

pub loop-shore-preserved : goal.loop-shore-preserved
loop-shore-preserved c =
    let is = c.loop-shore.invariant in
    let next = c.in_ok-priced-2.ensures in
    record {
      room = c.tighten_shore.ensures.room;
      priced = next.priced;
      rises = rises_on is.rises next.rises;
      kept =
          kept_on (IsKnownSingle (ground_of c.args.setting.now) c.args.known) c.args.set c.loop-shore.priced.set c.in_ok-priced-2.priced.set is.kept
          (kept_wider (IsThisSingle (ground_of c.args.setting.now) c.loop-shore.shore) (IsKnownSingle (ground_of c.args.setting.now) c.args.known) c.loop-shore.priced.set c.in_ok-priced-2.priced.set
          (λ s this. (omega (arith, this.0, c.loop-shore-test.true), this.1)) next.kept);
      tight =
          next_shores c.least_prices_are_there.ensures.tasks (ground_of c.args.setting.now) c.requires.setting.valid c.loop-shore.priced.set c.in_ok-priced-2.priced.set is.priced.fitting next.rises
          next.priced.fitting.fine c.loop-shore.shore next.tight is.tight;
    }

pub returns-clause-tight : goal.returns-clause-tight
returns-clause-tight c = λ shore known needed. c.loop-shore.invariant.tight shore (omega (arith, known, c.loop-shore-test.false)) needed
