use Rattle.std.proofs.Common.{arith, length, ◌+◌, ◌*◌}
use Rattle.blossom_match.proofs.RowsWalking.{paired_more, one_further, next_in, second_in, second_apart, shorter_trip}
use Rattle.blossom_match.proofs.cycle.match_rest.Goals as goal

pub match_next-part-requires-clause-part_in : goal.match_next-part-requires-clause-part_in
match_next-part-requires-clause-part_in c = next_in c.args.next.now c.args.base c.loop-i.i c.args.pairs c.loop-i.part c.requires.trip c.loop-i.invariant.at c.loop-i-test.true

pub match_next-part-requires-clause-after_in : goal.match_next-part-requires-clause-after_in
match_next-part-requires-clause-after_in c = second_in c.args.next.now c.args.base c.loop-i.i c.args.pairs c.loop-i.part c.requires.trip c.loop-i.invariant.at c.loop-i-test.true

pub match_next-part-requires-clause-apart : goal.match_next-part-requires-clause-apart
match_next-part-requires-clause-apart c = second_apart c.args.next.now c.args.base c.loop-i.i c.args.pairs c.loop-i.part c.requires.trip c.loop-i.invariant.at c.loop-i-test.true

pub loop-i-preserved : goal.loop-i-preserved
loop-i-preserved c =
    let i = c.loop-i.invariant in
    record {
      at = one_further c.args.next.now c.args.base c.loop-i.i (c.loop-i.i + 1) c.loop-i.part c.match_next-part.result i.at c.match_next-part.ensures.result (omega arith);
      paired = paired_more c.args.next.now c.args.link.now c.args.base c.loop-i.i (c.loop-i.i + 1) c.loop-i.part c.args.mate.now c.loop-i.mate c.match_next-part.new.mate i.at (omega arith)
          (shorter_trip c.args.next.now (length c.args.next.now) (2 * c.args.pairs) (2 * (c.loop-i.i + 1)) c.args.base (omega (arith, c.loop-i-test.true)) c.requires.trip)
          i.paired c.match_next-part.ensures.here c.match_next-part.ensures.there c.match_next-part.ensures.off;
    }
