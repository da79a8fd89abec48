use Rattle.std.proofs.Common.{◌<◌}
use Rattle.std.specs.List.{All}
use Rattle.ruin_recreate.proofs.sequences.Sequence.write.Given as goal

abbrev pub invariant-loop-connection : goal.invariant-loop-connection
invariant-loop-connection l = All (λ x. x < l.board.width) l.stops.items
