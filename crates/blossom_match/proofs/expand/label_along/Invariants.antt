use Rattle.std.proofs.Common.{◌≡◌}
use Rattle.blossom_match.specs.Between.{after}
use Rattle.blossom_match.specs.Expanding.{AreLabelled}
use Rattle.blossom_match.proofs.expand.label_along.Given as goal

abbrev pub invariant-loop-k : goal.invariant-loop-k
invariant-loop-k l = record {
  at : l.part ≡ after l.next l.k l.start;
  done : AreLabelled l.next l.start l.k l.fn.label l.label;
}
