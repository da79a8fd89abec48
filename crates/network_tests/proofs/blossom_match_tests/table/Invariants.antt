use Rattle.std.proofs.Common.{◌≡◌}
use Rattle.blossom_match.specs.Table.{IsTable}
use Rattle.network_tests.proofs.blossom_match_tests.table.Given as goal

abbrev pub invariant-loop-a : goal.invariant-loop-a
invariant-loop-a l = record {
  table : IsTable l.costs;
  size : l.costs.size ≡ l.size;
}
