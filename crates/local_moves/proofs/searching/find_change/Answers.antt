use Rattle.std.proofs.Common.{◌-◌, length, arith}
use Rattle.local_moves.proofs.Later.{answered_ok, none_left}
use Rattle.local_moves.proofs.Quiet.{settled_halves}
use Rattle.local_moves.proofs.searching.find_change.Goals as goal

pub returns : goal.returns
returns c =
    answered_ok c.search-2.result c.search-2.ensures
    (λ earlier.
    settled_halves c.args.board.now c.args.sequence.now c.max-start.result (length c.args.sequence.now - 1) c.min.result (omega (arith, c.requires.sequence.some)) (omega (arith, c.min.ensures))
    (none_left _ c.in_ok-next.field-0 c.in_ok-next.ensures c.in_default.is) earlier)
    (λ x own. own)
