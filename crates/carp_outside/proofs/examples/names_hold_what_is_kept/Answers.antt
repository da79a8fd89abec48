use Rattle.std.proofs.Common.{[], ◌∷◌}
use Rattle.carp_outside.proofs.Nowhere.{some_is_not_none, other_name}
use Rattle.carp_outside.proofs.examples.names_hold_what_is_kept.Goals as goal

pub returns-clause-other_names : goal.returns-clause-other_names
returns-clause-other_names c = λ holds. some_is_not_none _ (holds.others (1 ∷ []) other_name)

pub returns-clause-changed : goal.returns-clause-changed
returns-clause-changed c = λ same. some_is_not_none _ (same [])
