-- Room for filling a table.
use Rattle.std.specs.Prelude.{◌≡◌, ◌+◌, ◌*◌, length}
use Rattle.carp_base.specs.Problem.{Problem}
use Rattle.route_pricing.specs.declared.rooms.Rooms.{Rooms}

-- the room is for the instance
pub record AreRooms (p : Problem) (rooms : Rooms) : Type 0 where
  pub layer_long : length rooms.layer.items ≡ p.vertices + 1
  pub marks_long : length rooms.marks.items ≡ p.vertices + 1
  pub legs_long : length rooms.legs.items ≡ (2 * p.required) * (2 * p.required)
  pub row_long : length rooms.row.items ≡ 2 * p.required
