use Rattle.std.proofs.Common.{refl, arith}
use Rattle.postman.proofs.Small.{back_idles_once, back_is_round, depot_in, end_spent, first_edge, goes_nowhere, street_starts}
use Rattle.postman.proofs.examples.crossings_left.Goals as goal

pub returns-clause-spent : goal.returns-clause-spent
returns-clause-spent c = end_spent

pub returns-clause-not_spent : goal.returns-clause-not_spent
returns-clause-not_spent c = λ spent. absurd (omega (arith, spent 1 first_edge refl))

pub returns-clause-start : goal.returns-clause-start
returns-clause-start c = street_starts

pub returns-clause-no_start : goal.returns-clause-no_start
returns-clause-no_start c = λ start. absurd (omega (arith, start.even 1 depot_in))

pub returns-clause-cheap : goal.returns-clause-cheap
returns-clause-cheap c = record { is_round = back_is_round; cheap = omega arith; few = omega arith; once_idle = back_idles_once; idle = λ none. absurd (omega (arith, none)) }

pub returns-clause-dear : goal.returns-clause-dear
returns-clause-dear c = λ cheap. absurd (omega (arith, cheap.cheap))

pub returns-clause-needless : goal.returns-clause-needless
returns-clause-needless c = λ cheap. goes_nowhere (cheap.idle refl)
