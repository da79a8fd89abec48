use Rattle.std.proofs.Common.{◌≡◌}
use Rattle.shore_prices.proofs.rounds.add_levels.Given as goal

abbrev pub invariant-loop-shell : goal.invariant-loop-shell
invariant-loop-shell l = l.program.problem ≡ l.inst
