use Rattle.postman.proofs.Laid.{laid_from}
use Rattle.postman.proofs.circuit.close.Goals as goal

pub returns : goal.returns
returns c =
    laid_from c.args.inst.now c.args.left.now c.loop-hand.left c.loop-hand.next c.loop-hand.stack.items c.loop-hand.walk c.loop-hand.hand c.in_default.is c.requires.start.few
    c.loop-hand.invariant.stands c.loop-hand.invariant.spends
