use Rattle.std.proofs.Common.{◌≡◌, ℕ, ◌*◌, ◌<◌, length}
use Rattle.route_pricing.specs.Partial.{width}
use Rattle.route_pricing.specs.Legs.{legs_written}
use Rattle.route_pricing.proofs.grid.Grid.write_legs.Given as goal

abbrev pub invariant-loop-column : goal.invariant-loop-column
invariant-loop-column l = record {
  long : length l.legs ≡ width l.self * width l.self;
  done : (c : ℕ) → c < l.column → legs_written l.self c l.legs;
}
