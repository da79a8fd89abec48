use Rattle.std.proofs.Common.{◌+◌, suc, refl, arith, slice_index, set}
use Rattle.std.proofs.lemmas.List.{get_or-set_same, get_or-set_other}
use Rattle.blossom_match.specs.Views.{link_at, no_pair, turned}
use Rattle.blossom_match.proofs.RowsWalking.{one_more}
use Rattle.blossom_match.proofs.RowsWays.{entered_more}
use Rattle.blossom_match.proofs.expand.enter_on.Goals as goal

pub bounds-entry-part : goal.bounds-entry-part
bounds-entry-part c =
    let at = one_more c.args.next.now c.args.start c.loop-k.k (suc c.loop-k.k) c.loop-k.part c.loop-k.invariant.at refl in
    omega (arith, at, c.requires.trip.in_slots (suc c.loop-k.k) (omega (arith, c.loop-k-test.true)), c.requires.entry_len, c.loop-k.auto.entry)

pub loop-k-preserved : goal.loop-k-preserved
loop-k-preserved c =
    let i = c.loop-k.invariant in
    record {
      at = one_more c.args.next.now c.args.start c.loop-k.k (c.loop-k.k + 1) c.loop-k.part i.at (omega arith);
      done = entered_more c.args.next.now c.args.link.now c.args.start c.loop-k.k (c.loop-k.k + 1) c.loop-k.part c.args.count c.args.entry.now c.loop-k.entry
          (set c.loop-k.entry (slice_index c.args.next.now c.loop-k.part) (turned (link_at c.args.link.now c.loop-k.part))) c.requires.trip c.loop-k-test.true (omega arith) i.at i.done
          (get_or-set_same c.loop-k.entry (slice_index c.args.next.now c.loop-k.part) (turned (link_at c.args.link.now c.loop-k.part)) no_pair (bounds-entry-part c))
          (λ t other. get_or-set_other c.loop-k.entry (slice_index c.args.next.now c.loop-k.part) t (turned (link_at c.args.link.now c.loop-k.part)) no_pair other);
    }

pub offset_bounds-entry-part : goal.offset_bounds-entry-part
offset_bounds-entry-part c =
    let at = one_more c.args.next.now c.args.start c.loop-k.k (suc c.loop-k.k) c.loop-k.part c.loop-k.invariant.at refl in
    omega (arith, at, c.requires.trip.in_slots (suc c.loop-k.k) (omega (arith, c.loop-k-test.true)), c.requires.few)
