use Rattle.std.proofs.Common.{◌+◌, ◌<◌}
use Rattle.std.specs.List.{All}
use Rattle.shore_search.proofs.streets.add_halves.Given as goal

abbrev pub invariant-loop-i : goal.invariant-loop-i
invariant-loop-i l = All (λ h. h.to < l.inst.vertices + 1) l.halves.items
