use Rattle.cert_transfer.specs.TourParts.{IsCarriedUpTo}
use Rattle.cert_transfer.proofs.carrying_tours.carry_plan.Given as goal

abbrev pub invariant-loop-place : goal.invariant-loop-place
invariant-loop-place l = IsCarriedUpTo l.inst l.plan l.place l.carried
