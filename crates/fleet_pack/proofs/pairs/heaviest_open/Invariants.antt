use Rattle.std.proofs.Common.{◌+◌}
use Rattle.fleet_pack.specs.States.{FindsBefore}
use Rattle.fleet_pack.proofs.pairs.heaviest_open.Given as goal

abbrev pub invariant-loop-a : goal.invariant-loop-a
invariant-loop-a l = FindsBefore l.inst l.branch l.a (l.a + 1) l.found
