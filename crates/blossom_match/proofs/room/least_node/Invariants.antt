use Rattle.std.proofs.Common.{ℕ, ◌<◌, IfSome}
use Rattle.blossom_match.specs.Rooms.{IsNodeTurn, KeepsNode}
use Rattle.blossom_match.proofs.room.least_node.Given as goal

abbrev pub invariant-loop-s : goal.invariant-loop-s
invariant-loop-s l = record {
  keeps : (s : ℕ) → s < l.s → KeepsNode l.state l.least s;
  node : IfSome l.least (IsNodeTurn l.state);
}
