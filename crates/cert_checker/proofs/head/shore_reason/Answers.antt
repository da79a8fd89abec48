use Rattle.std.proofs.Common.{sym, subst, arith, length}
use Rattle.cut_pool.specs.Pools.{shore_at}
use Rattle.cut_pool.specs.Shores.{Belongs}
use Rattle.cert_checker.proofs.Firsts.{all_shores, first_without}
use Rattle.cert_checker.proofs.head.shore_reason.Goals as goal

pub returns-then-not-belongs : goal.returns-then-not-belongs
returns-then-not-belongs c = λ nodes.
    let p = c.args.claim.now.inst.now in
    let pool = c.args.claim.now.shores.now in (
      c.requires nodes,
      first_without (Belongs p) (shore_at pool) (length pool) c.loop-number.number _ c.from.ensures (omega arith) (omega (arith, c.loop-number-test.true, c.len-number-end.ensures.value))
          (λ has. cc (c.belongs.ensures.1 (subst (Belongs p) (sym c.shore.ensures) has), c.if-not-belongs.true)) c.loop-number.invariant,
    )

pub returns : goal.returns
returns c = λ nodes.
    let p = c.args.claim.now.inst.now in
    let pool = c.args.claim.now.shores.now in
    record { plan = c.requires nodes; shores = all_shores (Belongs p) pool c.loop-number.number c.loop-number.invariant (omega (arith, c.loop-number-test.false, c.len-number-end.ensures.value)) }
