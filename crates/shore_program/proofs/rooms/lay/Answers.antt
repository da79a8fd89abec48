use Rattle.std.proofs.Common.{◌≤◌, w64, arith}
use Rattle.std.proofs.lemmas.Int.{to_z_pos}
use Rattle.shore_program.proofs.Laying.{laid_not, laid_push}
use Rattle.shore_program.proofs.rooms.lay.Goals as goal

pub returns-in_ok-push : goal.returns-in_ok-push
returns-in_ok-push c =
    let small : c.take-weight.result ≤ 1000000000000 = omega arith in
    let natural = to_z_pos w64 c.take-weight.result (omega (arith, small)) in
    rw (c.in_ok-push.ensures.items, natural, c.in_ok-shore.ensures)
    (laid_push c.args.edges.now c.args.cut.now.shore c.take-weight.result c.args.rooms.now c.take-weight.new.rooms
    c.args.shores.now.items c.take-weight.ensures.takes (omega arith) small)

pub returns-else-weight-gt0 : goal.returns-else-weight-gt0
returns-else-weight-gt0 c =
    laid_not c.args.edges.now c.args.cut.now.shore c.take-weight.result c.args.rooms.now c.take-weight.new.rooms
    c.args.shores.now.items c.take-weight.ensures.takes (omega arith)
