use Rattle.branch_tree.specs.Searches.{state_of}
use Rattle.branch_tree.specs.declared.search.Turn.TheVariants.{Closed}
use Rattle.branch_tree.proofs.Turning.{closes_void}
use Rattle.branch_tree.proofs.Turns.{turn_framed}
use Rattle.branch_tree.proofs.search.Search.close_void.Goals as goal

pub returns : goal.returns
returns c =
    turn_framed c.args.inst.now c.args.self.now c.put_leaf.new.self Closed _ c.requires.search c.put_leaf.ensures.framed c.put_leaf.ensures.state
    (closes_void c.known_laws.ensures c.args.inst.now (state_of c.args.self.now) c.requires.search.held c.args.place c.args.branch.now c.requires.at c.requires.void)
