use Rattle.std.proofs.Common.{arith}
use Rattle.std.proofs.lemmas.Result.{IfOk-weaker}
use Rattle.cert_format.specs.Certs.{certificate_in}
use Rattle.carp_engine.proofs.Better.{asked_or_closed}
use Rattle.carp_engine.proofs.improving.improve.Goals as goal

pub take_up-requires-clause-cheap : goal.take_up-requires-clause-cheap
take_up-requires-clause-cheap g c = omega (arith, c.in_ok-helped.ensures.no_dearer, c.requires.good.cost)

pub returns-clause-ended : goal.returns-clause-ended
returns-clause-ended g c =
    IfOk-weaker c.take_up.result _ _ (λ solved is. asked_or_closed c.args.inst.now (certificate_in c.args.cert) (certificate_in solved.cert) c.args.turns solved.turns c.requires.turns_in_range is)
    c.take_up.ensures.improved

pub returns-clause-rounds : goal.returns-clause-rounds
returns-clause-rounds g c =
    let rounds = c.in_ok-helped.ensures.rounds in
    IfOk-weaker c.take_up.result _ _
    (λ solved no_dearer. record { start = rounds.start; tidied = rounds.tidied; best = rounds.best; rounds = rounds.rounds; no_dearer = omega (arith, no_dearer, rounds.no_dearer) })
    c.take_up.ensures.no_dearer
