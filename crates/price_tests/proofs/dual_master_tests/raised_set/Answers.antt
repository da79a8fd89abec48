use Rattle.std.proofs.Common.{List, subst, sym}
use Rattle.decision_chains.specs.declared.decision.Decision.{Decision}
use Rattle.branch_rules.specs.Laws.{FitsBranch}
use Rattle.price_tests.proofs.dual_master_tests.raised_set.Goals as goal

pub raise-requires-clause-pairs : goal.raise-requires-clause-pairs
raise-requires-clause-pairs c = c.no_decisions-root.ensures.pairs c.args.inst.now

pub raise-requires-clause-fits : goal.raise-requires-clause-fits
raise-requires-clause-fits c =
    subst (λ (branch : List Decision). FitsBranch c.args.inst.now c.args.pool.now branch c.args.start.now) (sym c.no_decisions-root.ensures.none) c.requires.fits
