use Rattle.std.proofs.Common.{arith}
use Rattle.branch_tree.specs.Searches.{state_of}
use Rattle.branch_tree.proofs.Standing.{leaf_pairs, leaf_shores, may_some}
use Rattle.branch_tree.proofs.search.Search.split_with_new.Goals as goal

pub choose_halves-requires-clause-pairs : goal.choose_halves-requires-clause-pairs
choose_halves-requires-clause-pairs c =
    leaf_pairs c.known_laws.ensures c.args.inst.now (state_of c.args.self.now) c.requires.search.held c.args.place c.args.branch.now c.requires.names.at

pub choose_halves-requires-clause-shores : goal.choose_halves-requires-clause-shores
choose_halves-requires-clause-shores c =
    leaf_shores c.known_laws.ensures c.args.inst.now (state_of c.args.self.now) c.requires.search.held c.args.place c.args.branch.now c.requires.names.at

pub choose_halves-requires-clause-some : goal.choose_halves-requires-clause-some
choose_halves-requires-clause-some c =
    may_some c.known_laws.ensures c.args.inst.now (state_of c.args.self.now) c.requires.search.held c.args.place c.args.branch.now c.requires.names.at c.args.number c.requires.names c.args.set
    c.requires.may

pub put_split_with-requires-clause-room : goal.put_split_with-requires-clause-room
put_split_with-requires-clause-room c = omega (arith, c.requires.search.held.few_nodes, c.requires.search.room, c.requires.left)
