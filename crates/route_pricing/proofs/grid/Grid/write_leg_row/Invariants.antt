use Rattle.std.proofs.Common.{◌≡◌, ◌*◌, length}
use Rattle.route_pricing.specs.Partial.{width}
use Rattle.route_pricing.specs.Legs.{IsLegRow, KeepsRows}
use Rattle.route_pricing.proofs.grid.Grid.write_leg_row.Given as goal

abbrev pub invariant-loop-before : goal.invariant-loop-before
invariant-loop-before l = record {
  long : length l.legs ≡ width l.self * width l.self;
  row : IsLegRow l.self l.column l.before l.legs;
  others : KeepsRows l.self l.column l.fn.legs l.legs;
}
