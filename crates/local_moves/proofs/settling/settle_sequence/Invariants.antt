use Rattle.local_moves.specs.Sequences.{IsNoDearer, NoneEmpty, links_of}
use Rattle.local_moves.proofs.settling.settle_sequence.Given as goal

abbrev pub invariant-loop-at : goal.invariant-loop-at
invariant-loop-at l = record {
  no_dearer : IsNoDearer l.board l.fn.sequence.items l.at.items;
  closed : NoneEmpty l.at.items;
}

abbrev pub decreases-loop-at : goal.decreases-loop-at
decreases-loop-at l = links_of l.board l.at.items
