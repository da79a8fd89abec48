use Rattle.std.proofs.Common.{◌≡◌}
use Rattle.shore_prices.proofs.rounds.improve.Given as goal

abbrev pub invariant-loop : goal.invariant-loop
invariant-loop l = l.program.problem ≡ l.inst
