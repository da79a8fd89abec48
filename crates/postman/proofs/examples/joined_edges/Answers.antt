use Rattle.std.proofs.Common.{arith}
use Rattle.postman.proofs.Small.{apart, apart_required, first_apart, first_required, street_joined}
use Rattle.postman.proofs.examples.joined_edges.Goals as goal

pub returns-clause-joined : goal.returns-clause-joined
returns-clause-joined c = street_joined 1 first_required

pub returns-clause-all : goal.returns-clause-all
returns-clause-all c = street_joined

pub returns-clause-apart : goal.returns-clause-apart
returns-clause-apart c = apart

pub returns-clause-not_all : goal.returns-clause-not_all
returns-clause-not_all c = λ all. apart (all 1 apart_required)

pub returns-clause-first : goal.returns-clause-first
returns-clause-first c = first_apart

pub returns-clause-other : goal.returns-clause-other
returns-clause-other c = λ first. absurd (omega (arith, first.required.in_range))

pub returns-clause-none : goal.returns-clause-none
returns-clause-none c = λ first. first.apart (street_joined 1 first_required)

pub returns-clause-refused : goal.returns-clause-refused
returns-clause-refused c = first_apart

pub returns-clause-not_refused : goal.returns-clause-not_refused
returns-clause-not_refused c = λ first. first.apart (street_joined 1 first_required)
