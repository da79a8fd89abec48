use Rattle.branch_tree.specs.Searches.{state_of}
use Rattle.branch_tree.proofs.Turns.{is_price_leaf, names_set}
use Rattle.branch_tree.proofs.search.Search.named_set.Goals as goal

pub unreachable-requires : goal.unreachable-requires
unreachable-requires c =
    is_price_leaf c.known_laws.ensures c.args.inst.now (state_of c.args.self.now) c.requires.search.held c.args.place c.args.branch.now c.requires.at c.requires.not_void c.requires.not_fixed c.node-entry.result c.node-entry.ensures c.in_default.not-Price

pub returns : goal.returns
returns c =
    names_set c.known_laws.ensures c.args.inst.now (state_of c.args.self.now) c.requires.search.held c.args.place c.args.branch.now c.requires.at c.requires.not_void c.requires.not_fixed c.node-entry.result c.node-entry.ensures c.in-Price.set c.in-Price.is
