use Rattle.std.proofs.Common.{◌≡◌}
use Rattle.blossom_match.specs.Between.{after}
use Rattle.blossom_match.specs.Expanding.{AreEnteredOn}
use Rattle.blossom_match.proofs.expand.enter_on.Given as goal

abbrev pub invariant-loop-k : goal.invariant-loop-k
invariant-loop-k l = record {
  at : l.part ≡ after l.next l.k l.start;
  done : AreEnteredOn l.next l.link l.start l.k l.fn.entry l.entry;
}
