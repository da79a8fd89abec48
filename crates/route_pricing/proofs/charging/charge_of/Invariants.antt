use Rattle.route_pricing.specs.Charging.{HoldsOfRow}
use Rattle.route_pricing.proofs.charging.charge_of.Given as goal

abbrev pub invariant-loop-column : goal.invariant-loop-column
invariant-loop-column l = HoldsOfRow l.surcharges l.required l.row l.column l.charge
