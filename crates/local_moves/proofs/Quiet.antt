-- From what was found out about each place to what is said of the sequence.
use Rattle.std.proofs.Common.{◌≡◌, ℕ, ◌+◌, ◌<◌, ◌≤◌, min, List, length, arith, inl, inr, subst}
use Rattle.std.proofs.lemmas.Bool.{cases_lt}
use Rattle.ruin_recreate.specs.declared.board.Board.{Board}
use Rattle.local_moves.specs.Sequences.{IsBetter, IsQuiet, IsSettledSequence, moves, opens, swaps}

settled_places : (b : Board) (xs : List ℕ) → ((k : ℕ) → 1 ≤ k → k + 1 < length xs → IsQuiet b xs k) → IsSettledSequence b xs
settled_places b xs quiet after change better = elim change [
  | moves f ↦ (quiet f.from f.service.after_first f.service.before_last).move f.service f.x f.same f.to f.after_first f.before_last (subst (λ ys. IsBetter b xs ys) f.is better)
  | opens f ↦ (quiet f.from f.service.after_first f.service.before_last).open_tour f.service f.x f.same (subst (λ ys. IsBetter b xs ys) f.is better)
  | swaps f ↦ (quiet f.first f.first_in.after_first f.first_in.before_last).swap f.second f.order f.second_in.before_last f.first_in f.second_in (subst (λ ys. IsBetter b xs ys) f.is better)
]

pub settled_halves : (b : Board) (xs : List ℕ) (start end first : ℕ) → end + 1 ≡ length xs → first ≡ min start end →
    ((k : ℕ) → start ≤ k → k < end → IsQuiet b xs k) → ((k : ℕ) → 1 ≤ k → k < first → IsQuiet b xs k) → IsSettledSequence b xs
settled_halves b xs start end first long is later earlier = settled_places b xs place
  where
    place : (k : ℕ) → 1 ≤ k → k + 1 < length xs → IsQuiet b xs k
    place k one short = elim (cases_lt k start) [
      | inl before ↦ earlier k one (omega (arith, before, is, short, long))
      | inr behind ↦ later k behind (omega (arith, short, long))
    ]
