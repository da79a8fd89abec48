use Rattle.std.proofs.Common.{refl, sym, arith, length, slice_index, set, Some, None}
use Rattle.std.proofs.lemmas.List.{get_or-set_same, get_or-set_other}
use Rattle.blossom_match.proofs.RowsWalking.{opened_now, base_trip}
use Rattle.blossom_match.proofs.cycle.open_cycle.Goals as goal

pub returns : goal.returns
returns c =
    let trip = base_trip c.args.size c.args.held.now c.args.next.now c.args.first c.release_all-len.result (length c.args.next.now) c.args.pair c.args.top.now c.release_all-len.new.top c.requires.round
    c.release_all-len.ensures.whole c.release_all-len.ensures.released c.requires.pair_in (sym c.requires.next_len) (c.requires.inside c.release_all-len.result c.release_all-len.ensures.whole) in
    opened_now c.args.size c.args.held.now c.args.next.now c.args.link.now c.args.first c.release_all-len.result (slice_index c.release_all-len.new.top c.args.pair.inside) c.args.pair c.args.top.now c.release_all-len.new.top
    c.args.mate.now (set c.args.mate.now (slice_index c.release_all-len.new.top c.args.pair.inside) (Some c.args.pair)) c.match_rest.new.mate refl c.release_all-len.ensures.whole c.release_all-len.ensures.released trip
    (get_or-set_same c.args.mate.now (slice_index c.release_all-len.new.top c.args.pair.inside) (Some c.args.pair) None (omega (arith, trip.in_slots 0 (omega arith), c.requires.next_len, c.requires.mate_len)))
    (λ t other. get_or-set_other c.args.mate.now (slice_index c.release_all-len.new.top c.args.pair.inside) t (Some c.args.pair) None other)
    c.match_rest.ensures
