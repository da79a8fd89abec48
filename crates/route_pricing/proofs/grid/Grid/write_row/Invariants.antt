use Rattle.std.proofs.Common.{◌≡◌, length}
use Rattle.route_pricing.specs.Partial.{width}
use Rattle.route_pricing.specs.Legs.{IsShortRow}
use Rattle.route_pricing.proofs.grid.Grid.write_row.Given as goal

abbrev pub invariant-loop-column : goal.invariant-loop-column
invariant-loop-column l = record {
  long : length l.row ≡ width l.self;
  row : IsShortRow l.self l.load l.least l.column l.row;
}
