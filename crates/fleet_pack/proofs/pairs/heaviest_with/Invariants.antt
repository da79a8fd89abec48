use Rattle.fleet_pack.specs.States.{FindsBefore}
use Rattle.fleet_pack.proofs.pairs.heaviest_with.Given as goal

abbrev pub invariant-loop-b : goal.invariant-loop-b
invariant-loop-b l = FindsBefore l.inst l.branch l.a l.b l.found
