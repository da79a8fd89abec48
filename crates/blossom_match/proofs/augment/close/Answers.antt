use Rattle.std.proofs.Common.{◌≡◌, ◌<◌, ◌∙◌, refl, arith, length, slice_index, set, Some}
use Rattle.std.proofs.Math.ListN.{length-set}
use Rattle.std.proofs.lemmas.List.{get_or_read}
use Rattle.blossom_match.proofs.Augmenting.{closed, pair}
use Rattle.blossom_match.proofs.augment.close.Goals as goal

pub returns-clause-between : goal.returns-clause-between
returns-clause-between c =
    let b = c.requires.branching in
    let u_in : c.args.u < length c.args.state.now.top.items = omega (arith, b.tight.inside_in, b.so_far.shape.top_len) in
    let v_in : c.args.v < length c.args.state.now.top.items = omega (arith, b.tight.outside_in, b.so_far.shape.top_len) in
    let outer : c.index-outer.result.now ≡ slice_index c.args.state.now.top.items c.args.u = get_or_read c.args.state.now.top.items c.args.u c.index-outer.result.now u_in c.index-outer.ensures 0 in
    let target : c.index-target.result.now ≡ slice_index c.args.state.now.top.items c.args.v = get_or_read c.args.state.now.top.items c.args.v c.index-target.result.now v_in c.index-target.ensures 0 in
    closed c.args.costs.now c.args.state.now _ c.args.u c.args.v c.requires.asked.table b c.requires.unmatched
    (record {
      size = refl;
      held = refl;
      halves = refl;
      top = refl;
      sums = refl;
      child = refl;
      next = refl;
      link = refl;
      entry = refl;
      one_way = refl;
      other_way = refl;
      base = refl;
      root = refl;
      label_len = refl;
      mate_len = length-set (set c.args.state.now.mate.items c.index-outer.result.now (Some (pair c.args.u c.args.v))) c.index-target.result.now (Some (pair c.args.v c.args.u))
          ∙ length-set c.args.state.now.mate.items c.index-outer.result.now (Some (pair c.args.u c.args.v));
    })
    (rw (outer, target) refl)
