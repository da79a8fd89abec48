use Rattle.std.proofs.Common.{take, drop}
use Rattle.deadhead_paths.proofs.Joining.{Joining}
use Rattle.deadhead_paths.proofs.tidying.join.Given as goal

abbrev pub invariant-loop-i : goal.invariant-loop-i
invariant-loop-i l = Joining l.inst (take l.i l.walk) (drop l.i l.walk) l.joined l.at
