use Rattle.tight_prices.proofs.Passing.{step_over}
use Rattle.std.proofs.Common.{arith}
use Rattle.carp_base.specs.Problem.{no_edge}
use Rattle.tight_prices.proofs.across.least_across.Goals as goal

pub loop-i-preserved : goal.loop-i-preserved
loop-i-preserved c =
    let is = c.loop-i.invariant in
    record {
      low = omega (arith, is.low, c.lesser_over-least.ensures.low);
      either =
          step_over c.args.inst.now c.args.shore.now c.args.prices.now c.edges-edges.result.now c.loop-i.i c.args.most c.loop-i.least c.lesser_over-least.result no_edge 0 c.edges-edges.ensures.value
          c.loop-i-test.true is.either c.lesser_over-least.ensures.low c.lesser_over-least.ensures.either c.requires;
    }
