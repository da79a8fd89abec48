use Rattle.std.proofs.Common.{rules, List, [], subst, sym}
use Rattle.decision_chains.specs.declared.decision.Decision.{Decision}
use Rattle.branch_rules.specs.Laws.{FitsBranch}
use Rattle.dual_master.proofs.candidate.with_value.Goals as goal

pub value_under-value-requires-clause-fits : goal.value_under-value-requires-clause-fits
value_under-value-requires-clause-fits c =
    subst (λ (branch : List Decision). FitsBranch c.args.inst.now c.args.pool branch c.args.set) (sym c.new.ensures) (c.requires.fits [])

pub returns-clause-candidate : goal.returns-clause-candidate
returns-clause-candidate c = record {
  floor = c.requires;
  fine = search rules;
  value = search rules;
  within = search rules;
}
