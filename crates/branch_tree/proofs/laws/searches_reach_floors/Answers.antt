use Rattle.branch_tree.proofs.Reaching.{leaves_reach_floors}
use Rattle.branch_tree.proofs.laws.searches_reach_floors.Goals as goal

pub returns : goal.returns
returns c = leaves_reach_floors c.sound_trees_are_lean.ensures.tree
