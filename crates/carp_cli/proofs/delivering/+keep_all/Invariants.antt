use Rattle.std.proofs.Common.{length}
use Rattle.carp_cli.proofs.delivering.+keep_all.Given as goal

abbrev pub decreases-keep_all : goal.decreases-keep_all
decreases-keep_all g l = length l.kept.now
