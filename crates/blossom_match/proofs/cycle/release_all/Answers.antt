use Rattle.std.proofs.Common.{ap, arith, slice_index, ◌+◌}
use Rattle.blossom_match.proofs.RowsWalking.{released_more, goes_more, one_more}
use Rattle.blossom_match.proofs.cycle.release_all.Goals as goal

pub loop-count-preserved : goal.loop-count-preserved
loop-count-preserved c =
    let i = c.loop-count.invariant in
    record {
      at = one_more c.args.next.now c.args.first c.loop-count.count (c.loop-count.count + 1) c.loop-count.part i.at (omega arith);
      goes = goes_more c.args.next.now c.args.first c.loop-count.count (c.loop-count.count + 1) (slice_index c.args.next.now c.loop-count.part) i.goes (ap (λ x. slice_index c.args.next.now x) i.at) c.if-part-first.false (omega arith);
      released = released_more c.args.size c.args.held.now c.args.next.now c.args.first c.loop-count.count (c.loop-count.count + 1) c.loop-count.part c.args.top.now c.loop-count.top c.release.new.top c.requires.round
          i.goes i.at (omega arith) i.released c.release.ensures;
    }
