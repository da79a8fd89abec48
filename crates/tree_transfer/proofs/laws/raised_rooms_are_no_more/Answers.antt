use Rattle.tree_transfer.proofs.Rooms.{room_weights_fall, rooms_fall}
use Rattle.tree_transfer.proofs.laws.raised_rooms_are_no_more.Goals as goal

pub returns-clause-rooms : goal.returns-clause-rooms
returns-clause-rooms c = rooms_fall

pub returns-clause-weights : goal.returns-clause-weights
returns-clause-weights c = room_weights_fall
