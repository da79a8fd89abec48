use Rattle.std.proofs.Common.{ℕ, ◌<◌, IfSome}
use Rattle.blossom_match.specs.Rooms.{AreRooms, KeepsPair}
use Rattle.blossom_match.specs.Turns.{Happens}
use Rattle.blossom_match.proofs.rooms.least_pair.Given as goal

abbrev pub invariant-loop-v : goal.invariant-loop-v
invariant-loop-v l = record {
  keeps : (u w : ℕ) → u < l.state.size → w < l.v → KeepsPair l.costs l.state l.found u w;
  happens : IfSome l.found (λ t. Happens l.costs l.state t.amount t.event);
  rooms : AreRooms l.costs l.state l.known l.least;
}
