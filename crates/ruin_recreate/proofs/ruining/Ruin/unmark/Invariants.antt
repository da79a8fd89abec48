use Rattle.std.proofs.Common.{◌≡◌, length}
use Rattle.ruin_recreate.specs.Annealing.{IsRuinOn}
use Rattle.ruin_recreate.proofs.ruining.Ruin.unmark.Given as goal

abbrev pub invariant-loop-i : goal.invariant-loop-i
invariant-loop-i l = record { ruin : IsRuinOn l.board.width l.self; all : length l.self.removed.items ≡ l.i-end }
