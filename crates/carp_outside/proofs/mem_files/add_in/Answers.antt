use Rattle.std.proofs.Common.{◌≡◌, string_bytes}
use Rattle.carp_outside.proofs.Updates.{ready_by_adding, same_by_adding}
use Rattle.carp_outside.proofs.mem_files.add_in.Goals as goal

pub returns-clause-room : goal.returns-clause-room
returns-clause-room c =
    let named : string_bytes c.in_ok-key.key ≡ c.args.name.now = c.in_ok-key.ensures.ok in
    rw (← named) (ready_by_adding (string_bytes c.in_ok-key.key) c.args.room c.args.files.now c.insert.new.self _ c.in_ok-insert.ensures.updates (rw named c.requires) c.in_ok-file.ensures.room)

pub returns-clause-same : goal.returns-clause-same
returns-clause-same c =
    let named : string_bytes c.in_ok-key.key ≡ c.args.name.now = c.in_ok-key.ensures.ok in
    same_by_adding (string_bytes c.in_ok-key.key) c.args.files.now c.insert.new.self _ c.in_ok-insert.ensures.updates (rw named c.requires) c.in_ok-file.ensures.held
