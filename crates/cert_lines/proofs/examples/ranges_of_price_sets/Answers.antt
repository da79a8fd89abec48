use Rattle.std.proofs.Common.{arith, lit<, pos}
use Rattle.std.proofs.lemmas.Int.{ints}
use Rattle.cert_lines.specs.Examples.{on_shore}
use Rattle.cert_lines.proofs.examples.ranges_of_price_sets.Goals as goal

pub returns-clause-price_past : goal.returns-clause-price_past
returns-clause-price_past c inside = omega (arith, ints, (inside.2 0 (pos 0) (lit< tt)).high)

pub returns-clause-price_below : goal.returns-clause-price_below
returns-clause-price_below c inside = omega (arith, ints, (inside.2 0 (pos 0) (lit< tt)).low)

pub returns-clause-shore_zero : goal.returns-clause-shore_zero
returns-clause-shore_zero c inside = omega (arith, (inside.1 0 (on_shore 0 (pos 1)) (lit< tt)).shore.from_first)

pub returns-clause-shore_past : goal.returns-clause-shore_past
returns-clause-shore_past c inside = omega (arith, (inside.1 0 (on_shore 0 (pos 1)) (lit< tt)).shore.to_last)
