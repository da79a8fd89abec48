use Rattle.std.proofs.Common.{suc, arith}
use Rattle.std.proofs.lemmas.List.Elements.{All-from_get_or}
use Rattle.cut_pool.specs.Shores.{IsShore}
use Rattle.carp_engine.proofs.certifying.look_at_shores.Goals as goal

pub returns-clause-shores : goal.returns-clause-shores
returns-clause-shores c =
    All-from_get_or IsShore c.args.pool.now _
    (λ i less. c.loop-number.invariant (suc i) (omega arith) (omega (arith, less, c.loop-number-test.false, c.len-number-end.ensures.value)))
