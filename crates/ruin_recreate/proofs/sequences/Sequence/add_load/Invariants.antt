use Rattle.std.proofs.Common.{◌≡◌}
use Rattle.ruin_recreate.proofs.sequences.Sequence.add_load.Given as goal

abbrev pub invariant-loop-later : goal.invariant-loop-later
invariant-loop-later l = record { connections : l.self.connections ≡ l.fn.self.connections; last : l.self.last ≡ l.fn.self.last }
