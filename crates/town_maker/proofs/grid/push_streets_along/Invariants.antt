use Rattle.std.proofs.Common.{◌≡◌, ◌++◌, map}
use Rattle.town_maker.specs.Streets.{numbers_below, street_along}
use Rattle.town_maker.proofs.grid.push_streets_along.Given as goal

-- the streets at the columns so far are there
abbrev pub invariant-loop-column : goal.invariant-loop-column
invariant-loop-column l = l.streets.items ≡ l.fn.streets.items ++ map (street_along l.row) (numbers_below l.column)
