use Rattle.std.proofs.Common.{length}
use Rattle.command_line.proofs.grammar.+with_verbs.Given as goal

abbrev pub decreases-with_verbs : goal.decreases-with_verbs
decreases-with_verbs l = length l.forms.now
