use Rattle.std.proofs.Common.{take}
use Rattle.std.specs.List.{All}
use Rattle.carp_base.specs.Packings.{IsGroup}
use Rattle.fleet_pack.proofs.judging.all_within.Given as goal

abbrev pub invariant-loop-group : goal.invariant-loop-group
invariant-loop-group l = All (IsGroup l.count) (take l.group-index l.groups)
