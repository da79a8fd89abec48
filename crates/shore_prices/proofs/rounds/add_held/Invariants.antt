use Rattle.std.proofs.Common.{◌≡◌}
use Rattle.shore_prices.proofs.rounds.add_held.Given as goal

abbrev pub invariant-loop-number : goal.invariant-loop-number
invariant-loop-number l = l.program.problem ≡ l.inst
