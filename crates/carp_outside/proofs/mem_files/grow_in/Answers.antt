use Rattle.std.proofs.Common.{rules}
use Rattle.carp_outside.proofs.Updates.{same_by_growth, same_rooms_on_err, ready_on_ok}
use Rattle.carp_outside.proofs.mem_files.grow_in.Goals as goal

pub returns-in-Some-clause-room : goal.returns-in-Some-clause-room
returns-in-Some-clause-room c =
    ready_on_ok _ c.args.name.now c.args.room c.args.files.now (c.get_mut.follows.lender c.grow.new.self) c.in-Some.file.now c.grow.new.self
    ((c.get_mut.follows.holds c.grow.new.self).3 (search rules)) (search rules) c.grow.ensures.room

pub returns-in-Some-clause-same_rooms : goal.returns-in-Some-clause-same_rooms
returns-in-Some-clause-same_rooms c =
    same_rooms_on_err _ c.args.name.now c.args.files.now (c.get_mut.follows.lender c.grow.new.self) c.in-Some.file.now c.grow.new.self
    ((c.get_mut.follows.holds c.grow.new.self).3 (search rules)) (search rules) c.grow.ensures.same_room

pub returns-in-Some-clause-same : goal.returns-in-Some-clause-same
returns-in-Some-clause-same c =
    same_by_growth c.args.name.now c.args.files.now (c.get_mut.follows.lender c.grow.new.self) c.in-Some.file.now c.grow.new.self
    ((c.get_mut.follows.holds c.grow.new.self).3 (search rules)) (search rules) c.grow.ensures.held c.grow.ensures.bytes
