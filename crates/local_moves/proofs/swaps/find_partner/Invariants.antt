use Rattle.std.proofs.Common.{◌<◌, ℕ}
use Rattle.std.specs.Prelude.{IsTrue}
use Rattle.local_moves.specs.Loads.{AreApart}
use Rattle.local_moves.specs.Sequences.{NoSwap}
use Rattle.local_moves.proofs.swaps.find_partner.Given as goal

abbrev pub invariant-loop-second : goal.invariant-loop-second
invariant-loop-second l = record {
  none : (k : ℕ) → l.first < k → k < l.second → NoSwap l.board l.sequence l.first k;
  apart : IsTrue l.apart → AreApart l.sequence l.first l.second;
}
