use Rattle.std.proofs.Common.{arith, lit<}
use Rattle.cert_lines.specs.Examples.{serves}
use Rattle.cert_lines.proofs.examples.ranges_of_tours.Goals as goal

pub returns-clause-edge_zero : goal.returns-clause-edge_zero
returns-clause-edge_zero c inside = omega (arith, (inside.1 0 (serves 0) (lit< tt)).from_first)

pub returns-clause-edge_past : goal.returns-clause-edge_past
returns-clause-edge_past c inside = omega (arith, (inside.1 0 (serves 0) (lit< tt)).to_last)
