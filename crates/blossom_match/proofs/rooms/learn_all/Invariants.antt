use Rattle.std.proofs.Common.{◌≡◌, ℕ, ◌<◌, slice_index_or, true, false}
use Rattle.blossom_match.specs.declared.state.Label.TheVariants.{Outer}
use Rattle.blossom_match.specs.Turns.{top_of, label_of}
use Rattle.blossom_match.specs.Rooms.{AreRooms}
use Rattle.blossom_match.proofs.rooms.learn_all.Given as goal

abbrev pub invariant-loop-u : goal.invariant-loop-u
invariant-loop-u l = record {
  rooms : AreRooms l.costs l.state l.known l.least;
  all : (k : ℕ) → k < l.u → label_of l.state (top_of l.state k) ≡ Outer → slice_index_or l.known k false ≡ true;
}
