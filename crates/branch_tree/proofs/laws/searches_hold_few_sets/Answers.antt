use Rattle.branch_tree.proofs.Holding.{at_begin, at_offer, at_step, where_failed}
use Rattle.branch_tree.proofs.laws.searches_hold_few_sets.Goals as goal

pub returns : goal.returns
returns c = record { begun = at_begin; stepped = at_step; failed = where_failed; offered = at_offer }
