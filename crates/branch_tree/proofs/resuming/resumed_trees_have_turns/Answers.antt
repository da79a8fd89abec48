use Rattle.branch_tree.proofs.Regrown.{resumed_turns}
use Rattle.branch_tree.proofs.resuming.resumed_trees_have_turns.Goals as goal

pub returns : goal.returns
returns c p pool sets least nodes may small = resumed_turns p pool sets least nodes may small c.sound_trees_are_lean.ensures.tree
