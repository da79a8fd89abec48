use Rattle.branch_tree.proofs.Settling.{is_fixed}
use Rattle.branch_tree.proofs.choosing.choose_split.Goals as goal

pub the_open_pair-requires-clause-some : goal.the_open_pair-requires-clause-some
the_open_pair-requires-clause-some c settled =
    c.requires.not_fixed
    (is_fixed c.yes_pairs_join.ensures c.excluded_is_symmetric.ensures c.args.inst.now c.args.pool.now c.args.branch.now settled c.requires.not_void)
