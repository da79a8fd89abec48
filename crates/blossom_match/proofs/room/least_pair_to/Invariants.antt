use Rattle.std.proofs.Common.{ℕ, ◌<◌, IfSome}
use Rattle.blossom_match.specs.Rooms.{KeepsPair}
use Rattle.blossom_match.specs.Turns.{Happens}
use Rattle.blossom_match.proofs.room.least_pair_to.Given as goal

abbrev pub invariant-loop-u : goal.invariant-loop-u
invariant-loop-u l = record {
  keeps : (w : ℕ) → w < l.u → KeepsPair l.costs l.state l.least w l.v;
  happens : IfSome l.least (λ t. Happens l.costs l.state t.amount t.event);
}
