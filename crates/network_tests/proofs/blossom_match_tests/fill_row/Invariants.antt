use Rattle.std.proofs.Common.{◌≡◌}
use Rattle.blossom_match.specs.Table.{IsTable}
use Rattle.network_tests.proofs.blossom_match_tests.fill_row.Given as goal

abbrev pub invariant-loop-b : goal.invariant-loop-b
invariant-loop-b l = record {
  table : IsTable l.costs;
  size : l.costs.size ≡ l.fn.costs.size;
}
