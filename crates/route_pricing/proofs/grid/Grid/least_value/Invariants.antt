use Rattle.std.proofs.Common.{ℕ, ◌<◌, ◌≤◌, slice_index}
use Rattle.route_pricing.specs.Partial.{cell_place}
use Rattle.route_pricing.proofs.grid.Grid.least_value.Given as goal

abbrev pub invariant-loop-column : goal.invariant-loop-column
invariant-loop-column l = (c : ℕ) → c < l.column → l.least ≤ slice_index l.cells (cell_place l.self l.load c)
