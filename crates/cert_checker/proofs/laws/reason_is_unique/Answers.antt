use Rattle.cert_checker.proofs.ReasonOrder.{unique_law}
use Rattle.cert_checker.proofs.laws.reason_is_unique.Goals as goal

pub returns : goal.returns
returns c = unique_law (record { unique = c.verdicts_are_exact.ensures.unique; complete = c.verdicts_are_exact.ensures.complete; fixed_once = c.fixed_values_compare.ensures.unique })
