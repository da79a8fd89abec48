use Rattle.branch_rules.proofs.Voiding.{not_iff}
use Rattle.branch_rules.proofs.branch.Branch.lean.Goals as goal

pub returns-in_ok-settled-in-Pair : goal.returns-in_ok-settled-in-Pair
returns-in_ok-settled-in-Pair c = rw c.in-Pair.is (not_iff _ _ c.in_ok-settled-in-Pair.ensures)
