use Rattle.std.proofs.Common.{length}
use Rattle.command_line.proofs.table.+row_of.Given as goal

abbrev pub decreases-row_of : goal.decreases-row_of
decreases-row_of l = length l.forms.now
