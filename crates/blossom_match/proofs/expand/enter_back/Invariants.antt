use Rattle.std.proofs.Common.{◌≡◌}
use Rattle.blossom_match.specs.Between.{after}
use Rattle.blossom_match.specs.Expanding.{AreEnteredBack}
use Rattle.blossom_match.proofs.expand.enter_back.Given as goal

abbrev pub invariant-loop-k : goal.invariant-loop-k
invariant-loop-k l = record {
  at : l.part ≡ after l.next l.k l.start;
  done : AreEnteredBack l.next l.link l.start l.k l.fn.entry l.entry;
}
