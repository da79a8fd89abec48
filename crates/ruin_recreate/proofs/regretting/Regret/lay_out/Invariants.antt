use Rattle.ruin_recreate.specs.Annealing.{AreOut}
use Rattle.ruin_recreate.proofs.regretting.Regret.lay_out.Given as goal

abbrev pub invariant-loop-service : goal.invariant-loop-service
invariant-loop-service l = AreOut l.board.width l.self.out.items
