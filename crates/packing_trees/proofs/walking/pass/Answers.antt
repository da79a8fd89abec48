use Rattle.packing_trees.proofs.Passing.{if_ok_more}
use Rattle.packing_trees.proofs.walking.pass.Goals as goal

pub returns-in-Share-clause-choices : goal.returns-in-Share-clause-choices
returns-in-Share-clause-choices c = if_ok_more c.leave.result (λ goes keeps p fits. keeps p) c.leave.ensures.choices

pub returns-in-Apart-clause-choices : goal.returns-in-Apart-clause-choices
returns-in-Apart-clause-choices c = if_ok_more c.leave-in-Apart.result (λ goes keeps p fits. keeps p) c.leave-in-Apart.ensures.choices
