use Rattle.ruin_recreate.specs.Annealing.{AreOut}
use Rattle.ruin_recreate.proofs.regretting.Regret.add.Given as goal

abbrev pub invariant-loop-tour : goal.invariant-loop-tour
invariant-loop-tour l = AreOut l.board.width l.self.out.items
