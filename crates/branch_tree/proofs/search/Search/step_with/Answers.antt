use Rattle.branch_tree.proofs.Shortness.{turn_keeps}
use Rattle.branch_tree.proofs.search.Search.step_with.Goals as goal

pub returns-in-Some-clause-short : goal.returns-in-Some-clause-short
returns-in-Some-clause-short g c short = turn_keeps c.args.inst.now c.args.self.now c.take_leaf.new.self c.take_leaf.result c.take_leaf.ensures short
