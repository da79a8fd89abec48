use Rattle.branch_tree.specs.Searches.{state_of}
use Rattle.branch_tree.proofs.Taking.{all_fine}
use Rattle.branch_tree.proofs.search.Search.take_leaf.Goals as goal

pub branch_to-requires-clause-fine : goal.branch_to-requires-clause-fine
branch_to-requires-clause-fine g c = all_fine c.known_laws.ensures c.args.inst.now (state_of c.args.self.now) c.requires.search.held
