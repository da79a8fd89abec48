use Rattle.std.proofs.Common.{◌≡◌, ◌≤◌, length}
use Rattle.std.specs.List.{All}
use Rattle.shore_search.proofs.separating.halved.Given as goal

abbrev pub invariant-loop-i : goal.invariant-loop-i
invariant-loop-i l = record { long : length l.halves.items ≡ l.i; small : All (λ n. n ≤ 1000000000000) l.halves.items }
