use Rattle.std.proofs.Common.{refl, arith}
use Rattle.postman.specs.Examples.{out_and_back}
use Rattle.postman.proofs.Small.{back_is_round, goes_nowhere, trip_is_round}
use Rattle.postman.proofs.examples.least_rounds.Goals as goal

pub returns-clause-least : goal.returns-clause-least
returns-clause-least c = λ other round. omega arith

pub returns-clause-dear : goal.returns-clause-dear
returns-clause-dear c = λ least. absurd (omega (arith, least out_and_back back_is_round))

pub returns-clause-off : goal.returns-clause-off
returns-clause-off c = λ shown. absurd (omega (arith, shown.twice))

pub returns-clause-not_all : goal.returns-clause-not_all
returns-clause-not_all c = λ shown. absurd (omega (arith, shown.costs))

pub returns-clause-trip : goal.returns-clause-trip
returns-clause-trip c = trip_is_round

pub returns-clause-idle : goal.returns-clause-idle
returns-clause-idle c = λ shown. goes_nowhere (shown.idle refl)
