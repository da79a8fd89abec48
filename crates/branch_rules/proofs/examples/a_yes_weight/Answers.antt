use Rattle.std.proofs.Common.{◌∷◌, [], refl}
use Rattle.decision_chains.specs.declared.decision.Decision.TheVariants.{Yes}
use Rattle.branch_rules.proofs.SmallPairs.{pair_fits}
use Rattle.branch_rules.proofs.examples.a_yes_weight.Goals as goal

pub returns-clause-fits : goal.returns-clause-fits
returns-clause-fits c = pair_fits (Yes 1 2 ∷ []) refl
