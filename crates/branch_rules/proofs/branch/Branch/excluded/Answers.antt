use Rattle.branch_rules.proofs.branch.Branch.excluded.Goals as goal

pub returns : goal.returns
returns c = rw (c.in_ok-chains.ensures.inst, c.in_ok-chains.ensures.decisions, c.decisions.ensures) at c.excludes.ensures
