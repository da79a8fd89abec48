use Rattle.std.proofs.Common.{lit<, arith}
use Rattle.branch_rules.specs.Prices.{no_group}
use Rattle.cert_lines.proofs.examples.ranges_of_groups.Goals as goal

pub returns-clause-one_edge : goal.returns-clause-one_edge
returns-clause-one_edge c inside = omega (arith, (inside.each 0 no_group (lit< tt)).size.from_first)

pub returns-clause-edge_zero : goal.returns-clause-edge_zero
returns-clause-edge_zero c inside = omega (arith, ((inside.each 0 no_group (lit< tt)).edges 0 0 (lit< tt)).from_first)

pub returns-clause-edge_past : goal.returns-clause-edge_past
returns-clause-edge_past c inside = omega (arith, ((inside.each 0 no_group (lit< tt)).edges 1 0 (lit< tt)).to_last)
