use Rattle.std.proofs.Common.{refl, arith}
use Rattle.decision_chains.specs.declared.decision.Decision.TheVariants.{Yes, No, Low}
use Rattle.branch_rules.proofs.examples.premises_of_a_branch.Goals as goal

pub returns-clause-one_edge : goal.returns-clause-one_edge
returns-clause-one_edge c = λ pairs. (pairs 0 (No 1 1) (omega arith)).different refl

pub returns-clause-not_required : goal.returns-clause-not_required
returns-clause-not_required c = λ pairs. omega (arith, (pairs 0 (Yes 1 3) (omega arith)).b_in_range)

pub returns-clause-no_shore : goal.returns-clause-no_shore
returns-clause-no_shore c = λ shores. omega (arith, (shores 0 (Low 2 0) (omega arith)).number.in_range)
