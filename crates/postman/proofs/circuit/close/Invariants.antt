use Rattle.std.proofs.Common.{[]}
use Rattle.postman.specs.Trails.{Spends, Stands, work_left}
use Rattle.postman.proofs.circuit.close.Given as goal

abbrev pub invariant-loop-hand : goal.invariant-loop-hand
invariant-loop-hand l = record {
  stands : Stands l.inst l.left l.next l.stack.items l.walk l.hand;
  spends : Spends l.inst l.fn.left [] [] l.left l.stack.items l.walk;
}

abbrev pub decreases-loop-hand : goal.decreases-loop-hand
decreases-loop-hand l = work_left l.inst l.stack.items l.walk l.hand
