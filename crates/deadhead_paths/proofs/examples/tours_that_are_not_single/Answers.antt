use Rattle.std.proofs.Common.{◌∷◌, arith, ap, length, length-append}
use Rattle.deadhead_paths.specs.Singles.{service_of}
use Rattle.deadhead_paths.proofs.Small.{some_way}
use Rattle.deadhead_paths.proofs.examples.tours_that_are_not_single.Goals as goal

pub returns-clause-stays_out : goal.returns-clause-stays_out
returns-clause-stays_out c = λ tour.
    omega (arith, ap length tour.3, length-append tour.0 (service_of 1 ∷ tour.1), some_way tour.1 tour.4.deadheads.leads)
