use Rattle.std.proofs.Common.{◌≡◌, ◌++◌}
use Rattle.std.specs.List.{flat_map}
use Rattle.town_maker.specs.Streets.{numbers_below, streets_along}
use Rattle.town_maker.proofs.grid.push_rows.Given as goal

-- the streets of the rows so far are there
abbrev pub invariant-loop-row : goal.invariant-loop-row
invariant-loop-row l = l.streets.items ≡ l.fn.streets.items ++ flat_map streets_along (numbers_below l.row)
