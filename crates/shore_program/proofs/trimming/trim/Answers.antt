use Rattle.shore_program.proofs.Shrinking.{trimmed_none}
use Rattle.shore_program.proofs.trimming.trim.Goals as goal

pub returns-else-idle-gt-MOST_IDLE-clause-trimmed : goal.returns-else-idle-gt-MOST_IDLE-clause-trimmed
returns-else-idle-gt-MOST_IDLE-clause-trimmed c = trimmed_none c.args.cuts.now.items
