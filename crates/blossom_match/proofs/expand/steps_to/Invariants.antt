use Rattle.std.proofs.Common.{◌≡◌, ◌≢◌, ℕ, ◌<◌}
use Rattle.blossom_match.specs.Between.{after}
use Rattle.blossom_match.proofs.expand.steps_to.Given as goal

abbrev pub invariant-loop-k : goal.invariant-loop-k
invariant-loop-k l = record {
  at : l.part ≡ after l.next l.k l.from;
  not_yet : (j : ℕ) → j < l.k → after l.next j l.from ≢ l.to;
}
