use Rattle.std.proofs.Common.{arith}
use Rattle.postman.proofs.Small.{back_idles_once, back_is_round, first_required, more_idles, more_is_round}
use Rattle.postman.proofs.examples.rounds_of_a_street.Goals as goal

pub returns-clause-back : goal.returns-clause-back
returns-clause-back c = back_is_round

pub returns-clause-more : goal.returns-clause-more
returns-clause-more c = more_is_round

pub returns-clause-idles_once : goal.returns-clause-idles_once
returns-clause-idles_once c = back_idles_once

pub returns-clause-idles_more : goal.returns-clause-idles_more
returns-clause-idles_more c = more_idles

pub returns-clause-twice : goal.returns-clause-twice
returns-clause-twice c = λ round. absurd (omega (arith, round.once 1 first_required))

pub returns-clause-away : goal.returns-clause-away
returns-clause-away c = λ round. absurd (omega (arith, round.leads.2))

pub returns-clause-none : goal.returns-clause-none
returns-clause-none c = λ round. absurd (omega (arith, round.once 1 first_required))
