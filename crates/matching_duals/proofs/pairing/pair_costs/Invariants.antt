use Rattle.matching_duals.specs.Sets.{HasRows}
use Rattle.matching_duals.proofs.pairing.pair_costs.Given as goal

abbrev pub invariant-loop-a : goal.invariant-loop-a
invariant-loop-a l = HasRows l.inst l.ground.odd.items l.ground.table.items l.a l.costs
