use Rattle.std.proofs.Common.{◌≡◌, ◌≢◌, ℕ, ◌≤◌}
use Rattle.blossom_match.specs.Between.{after}
use Rattle.blossom_match.specs.Cycles.{IsReleased}
use Rattle.blossom_match.proofs.cycle.release_all.Given as goal

abbrev pub invariant-loop-count : goal.invariant-loop-count
invariant-loop-count l = record {
  at : l.part ≡ after l.next l.count l.first;
  goes : (j : ℕ) → 1 ≤ j → j ≤ l.count → after l.next j l.first ≢ l.first;
  released : IsReleased l.size l.held l.next l.count l.first l.fn.top l.top;
}
