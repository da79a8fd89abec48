use Rattle.std.proofs.Common.{◌∙◌}
use Rattle.cert_transfer.proofs.copies.copies_of.Goals as goal

pub returns-clause-sets : goal.returns-clause-sets
returns-clause-sets c = c.in_ok-sets.ensures ∙ c.deref.ensures.value
