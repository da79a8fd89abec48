use Rattle.std.proofs.Common.{All}
use Rattle.route_pricing.specs.Pricing.{IsServicePrice}
use Rattle.column_generation.proofs.decision_rows.lift_all.Given as goal

abbrev pub invariant-loop-decision : goal.invariant-loop-decision
invariant-loop-decision l = All IsServicePrice l.weights
