use Rattle.ruin_recreate.specs.Annealing.{AreOut, IsSequenceOn}
use Rattle.ruin_recreate.proofs.regretting.Regret.put_back.Given as goal

abbrev pub invariant-loop : goal.invariant-loop
invariant-loop l = record { sequence : IsSequenceOn l.board.width l.sequence; out : AreOut l.board.width l.self.out.items }
