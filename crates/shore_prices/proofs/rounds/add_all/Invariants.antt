use Rattle.std.proofs.Common.{◌≡◌}
use Rattle.shore_prices.proofs.rounds.add_all.Given as goal

abbrev pub invariant-loop-shore : goal.invariant-loop-shore
invariant-loop-shore l = l.program.problem ≡ l.inst
