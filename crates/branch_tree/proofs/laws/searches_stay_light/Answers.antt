use Rattle.branch_tree.proofs.Lightness.{at_begin, at_offer, at_step, where_failed}
use Rattle.branch_tree.proofs.laws.searches_stay_light.Goals as goal

pub returns : goal.returns
returns c = record { begun = at_begin; stepped = at_step; failed = where_failed; offered = at_offer }
