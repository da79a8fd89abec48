use Rattle.std.proofs.Common.{◌+◌, ◌*◌, ap}
use Rattle.ruin_recreate.proofs.Rows.{board_is}
use Rattle.ruin_recreate.proofs.tables.board_of.Goals as goal

pub returns-clause-of : goal.returns-clause-of
returns-clause-of c =
    board_is c.args.inst.now _ (ap (λ n. 2 * n + 2) c.required.ensures.value) c.capacity.ensures.value c.in_ok-links_of.ensures c.in_ok-demands_of.ensures c.in_ok-turns_of.ensures
