use Rattle.group_search.specs.Tables.{IsListed}
use Rattle.group_search.proofs.judging.list_marked.Given as goal

abbrev pub invariant-loop-e : goal.invariant-loop-e
invariant-loop-e l = IsListed l.e l.edges.items
