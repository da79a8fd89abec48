use Rattle.std.proofs.Common.{◌≡◌, length}
use Rattle.ruin_recreate.specs.Annealing.{IsAnnealingOn}
use Rattle.ruin_recreate.proofs.annealing.Annealing.put_in_order.Given as goal

abbrev pub invariant-loop-i : goal.invariant-loop-i
invariant-loop-i l = record { annealing : IsAnnealingOn l.board.width l.self; all : length l.self.ruin.removed.items ≡ l.i-end }
