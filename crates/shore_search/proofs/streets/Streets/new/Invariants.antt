use Rattle.std.proofs.Common.{◌≡◌, ◌+◌, ◌<◌, length}
use Rattle.std.specs.List.{All}
use Rattle.shore_search.proofs.streets.Streets.new.Given as goal

abbrev pub invariant-loop-v : goal.invariant-loop-v
invariant-loop-v l = record { starts : length l.starts.items ≡ l.v; halves : All (λ h. h.to < l.inst.vertices + 1) l.halves.items }
