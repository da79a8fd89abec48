use Rattle.std.proofs.Common.{◌≡◌, false, take}
use Rattle.deadhead_paths.specs.Tidy.{serves_some}
use Rattle.deadhead_paths.proofs.tidying.has_service.Given as goal

abbrev pub invariant-loop-i : goal.invariant-loop-i
invariant-loop-i l = serves_some (take l.i l.walk) ≡ false
