use Rattle.giant_split.proofs.Ending.{best_ends}
use Rattle.giant_split.proofs.cutting.best_last.Goals as goal

pub returns-then-legs-last : goal.returns-then-legs-last
returns-then-legs-last c =
    best_ends c.args.capacity c.args.legs.now c.requires.fine c.args.costs.now c.args.from c.loop-last.last c.loop-last.best c.loop-last.invariant.best c.loop-last-test.true c.if-legs-last.true
