use Rattle.std.proofs.Common.{◌<◌, ◌∙◌, sym, arith, length, None}
use Rattle.std.proofs.lemmas.List.{get_or_read}
use Rattle.blossom_match.proofs.Limits.{spent_mate}
use Rattle.blossom_match.proofs.search.mate_of_inner.Goals as goal

pub unreachable-requires : goal.unreachable-requires
unreachable-requires c =
    let s_in : c.args.s < length c.args.state.now.mate.items = omega (arith, c.requires.spent.in_slots, c.requires.searching.so_far.shape.mate_len) in
    spent_mate c.args.costs.now c.args.state.now c.args.s c.requires.searching c.requires.spent
    (sym (get_or_read c.args.state.now.mate.items c.args.s c.index.result.now s_in c.index.ensures None) ∙ c.in-None.is)
