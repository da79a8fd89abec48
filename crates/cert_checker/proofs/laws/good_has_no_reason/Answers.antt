use Rattle.cert_checker.proofs.ReasonOrder.{none_law}
use Rattle.cert_checker.proofs.laws.good_has_no_reason.Goals as goal

pub returns : goal.returns
returns c = none_law (record { unique = c.verdicts_are_exact.ensures.unique; complete = c.verdicts_are_exact.ensures.complete; fixed_once = c.fixed_values_compare.ensures.unique })
