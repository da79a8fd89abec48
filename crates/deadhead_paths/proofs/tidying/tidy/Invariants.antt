use Rattle.std.proofs.Common.{◌≤◌, length, take}
use Rattle.std.specs.List.{filter, AllZip}
use Rattle.deadhead_paths.specs.Tidy.{serves_some}
use Rattle.deadhead_paths.specs.Join.{IsJoined}
use Rattle.deadhead_paths.proofs.tidying.tidy.Given as goal

abbrev pub invariant-loop-i : goal.invariant-loop-i
invariant-loop-i l = record {
  short : length l.tidied ≤ l.i;
  joined : AllZip (IsJoined l.inst) (filter serves_some (take l.i l.plan)) l.tidied;
}
