use Rattle.std.proofs.Common.{rules}
use Rattle.carp_outside.proofs.Updates.{kept_by_change, same_by_change, same_rooms}
use Rattle.carp_outside.proofs.mem_files.keep_in.Goals as goal

pub returns-in-Some-clause-kept : goal.returns-in-Some-clause-kept
returns-in-Some-clause-kept c =
    kept_by_change _ c.args.name.now c.args.bytes.now c.args.files.now (c.get_mut.follows.lender c.put.new.self) c.put.new.self
    ((c.get_mut.follows.holds c.put.new.self).3 (search rules)) c.put.ensures.held c.put.ensures.bytes

pub returns-in-Some-clause-same : goal.returns-in-Some-clause-same
returns-in-Some-clause-same c =
    same_by_change _ c.args.name.now c.args.files.now (c.get_mut.follows.lender c.put.new.self) c.in-Some.file.now c.put.new.self
    ((c.get_mut.follows.holds c.put.new.self).3 (search rules)) (search rules) c.put.ensures.same

pub returns-in-Some-clause-rooms : goal.returns-in-Some-clause-rooms
returns-in-Some-clause-rooms c =
    same_rooms c.args.name.now c.args.files.now (c.get_mut.follows.lender c.put.new.self) c.in-Some.file.now c.put.new.self
    ((c.get_mut.follows.holds c.put.new.self).3 (search rules)) (search rules) c.put.ensures.room
