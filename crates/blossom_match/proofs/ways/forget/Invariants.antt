use Rattle.std.proofs.Common.{◌≡◌, ℕ, ◌<◌, None}
use Rattle.blossom_match.specs.Ways.{way_at}
use Rattle.blossom_match.proofs.ways.forget.Given as goal

abbrev pub invariant-loop-s : goal.invariant-loop-s
invariant-loop-s l = (k : ℕ) → k < l.s → way_at l.way k ≡ None
