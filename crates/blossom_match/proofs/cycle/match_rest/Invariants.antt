use Rattle.std.proofs.Common.{◌≡◌, ◌*◌}
use Rattle.blossom_match.specs.Between.{after}
use Rattle.blossom_match.specs.Cycles.{ArePaired}
use Rattle.blossom_match.proofs.cycle.match_rest.Given as goal

abbrev pub invariant-loop-i : goal.invariant-loop-i
invariant-loop-i l = record {
  at : l.part ≡ after l.next (2 * l.i) l.base;
  paired : ArePaired l.next l.link l.base l.i l.fn.mate l.mate;
}
