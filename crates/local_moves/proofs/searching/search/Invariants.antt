use Rattle.std.proofs.Common.{◌≤◌, ◌<◌, ℕ}
use Rattle.local_moves.specs.Sequences.{IsQuiet}
use Rattle.local_moves.proofs.searching.search.Given as goal

abbrev pub invariant-loop-place : goal.invariant-loop-place
invariant-loop-place l = (k : ℕ) → l.from ≤ k → k < l.place → IsQuiet l.board l.sequence k
