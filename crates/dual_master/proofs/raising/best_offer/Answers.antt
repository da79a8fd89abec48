use Rattle.dual_master.proofs.Raised.{grows_more}
use Rattle.dual_master.proofs.raising.best_offer.Goals as goal

pub loop-adviser-preserved : goal.loop-adviser-preserved
loop-adviser-preserved g c = record {
  standing = c.in_ok-next.ensures.standing;
  grown = grows_more c.args.pool.now c.loop-adviser.pool c.better_offer.new.pool c.loop-adviser.invariant.grown c.better_offer.ensures.grown;
  tools = c.better_offer.ensures.tools;
}

pub returns-in_err-next-clause-grown : goal.returns-in_err-next-clause-grown
returns-in_err-next-clause-grown g c = grows_more c.args.pool.now c.loop-adviser.pool c.better_offer.new.pool c.loop-adviser.invariant.grown c.better_offer.ensures.grown
