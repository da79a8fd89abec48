use Rattle.std.proofs.Common.{sym}
use Rattle.grown_trees.proofs.Leasts.{none_below}
use Rattle.grown_trees.proofs.blocks.first_in.Goals as goal

pub returns-then-shows-least : goal.returns-then-shows-least
returns-then-shows-least c = sym (none_below c.args.shows 18446744073709551615 c.least.result c.args.block.now c.least.ensures c.if-shows-least.true)
