use Rattle.branch_rules.proofs.TreeBound.{numbers_law}
use Rattle.branch_rules.proofs.laws.numbers_are_kept.Goals as goal

pub returns : goal.returns
returns c = numbers_law c.need_is_met.ensures.sets
