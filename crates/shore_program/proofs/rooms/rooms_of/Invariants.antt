use Rattle.std.proofs.Common.{◌≡◌, ℕ, ◌*◌, ◌<◌, ◌≤◌, length, get_or}
use Rattle.carp_base.specs.declared.edge.Edge.{Edge}
use Rattle.shore_program.proofs.rooms.rooms_of.Given as goal

abbrev pub invariant-loop-place : goal.invariant-loop-place
invariant-loop-place l = record {
  long : length l.rooms.items ≡ l.place;
  small : (e : ℕ) (d : Edge) → e < l.place → get_or l.rooms.items e 0 ≤ 1000000 * (get_or l.edges e d).cost;
}
