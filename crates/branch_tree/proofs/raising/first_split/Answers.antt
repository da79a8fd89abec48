use Rattle.branch_tree.proofs.Grown.{grows_more, still_in}
use Rattle.branch_tree.proofs.raising.first_split.Goals as goal

pub loop-adviser-preserved : goal.loop-adviser-preserved
loop-adviser-preserved g c = record {
  grown = grows_more c.args.pool.now c.loop-adviser.pool c.split.new.pool c.loop-adviser.invariant.grown c.split.ensures.grown;
  tools = c.split.ensures.tools;
  shores = still_in c.args.leaf.now.inst.now c.loop-adviser.pool c.split.new.pool c.args.leaf.now.branch.now c.split.ensures.grown c.loop-adviser.invariant.shores;
}

pub returns-in_err-offered-clause-grown : goal.returns-in_err-offered-clause-grown
returns-in_err-offered-clause-grown g c = grows_more c.args.pool.now c.loop-adviser.pool c.split.new.pool c.loop-adviser.invariant.grown c.split.ensures.grown
