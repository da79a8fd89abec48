use Rattle.shore_program.proofs.Shrinking.{none_went}
use Rattle.shore_program.proofs.trimming.let_worst_go.Goals as goal

pub returns-else-idle-lt-LITTLE_LOSS-clause-shrinks : goal.returns-else-idle-lt-LITTLE_LOSS-clause-shrinks
returns-else-idle-lt-LITTLE_LOSS-clause-shrinks c = none_went 1 c.args.cuts.now.items

pub returns-clause-shrinks : goal.returns-clause-shrinks
returns-clause-shrinks c = none_went 1 c.args.cuts.now.items
