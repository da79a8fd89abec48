use Rattle.std.proofs.Common.{◌∙◌, sym, arith}
use Rattle.std.proofs.lemmas.Bool.{false≢true}
use Rattle.local_moves.proofs.Rooms.{swap_fits_first, swap_fits_second}
use Rattle.local_moves.proofs.swaps.swap_fits.Goals as goal

pub returns-then-has_room : goal.returns-then-has_room
returns-then-has_room c = λ no one two better.
    let apart = c.requires.apart in
    false≢true
    (sym no
    ∙ c.has_room-then-has_room.ensures.1
    (swap_fits_second c.args.board.now c.args.sequence.now c.args.loads.now c.args.first c.args.second c.requires.loads (omega (arith, apart.after_first, apart.before_second)) (omega (arith, c.requires.before_last)) apart one.no_depot better.loads))

pub returns-else-has_room : goal.returns-else-has_room
returns-else-has_room c = λ no one two better.
    let apart = c.requires.apart in
    false≢true
    (sym no
    ∙ c.has_room.ensures.1
    (swap_fits_first c.args.board.now c.args.sequence.now c.args.loads.now c.args.first c.args.second c.requires.loads (omega (arith, apart.after_first, apart.before_second)) (omega (arith, c.requires.before_last)) apart two.no_depot better.loads))
