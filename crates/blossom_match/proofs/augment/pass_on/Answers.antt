use Rattle.std.proofs.Common.{◌≡◌, ◌<◌, ◌*◌, ◌∙◌, refl, arith, length, slice_index, set, Some, None}
use Rattle.std.proofs.Math.ListN.{length-set}
use Rattle.std.proofs.lemmas.List.{get_or_read}
use Rattle.blossom_match.specs.declared.state.Label.TheVariants.{Free}
use Rattle.blossom_match.specs.Views.{link_at, no_pair}
use Rattle.blossom_match.proofs.Augmenting.{pair}
use Rattle.blossom_match.proofs.Passing.{passing, passed_mates, freed, passed_on, passed_fewer, passed_keeps, passed_target}
use Rattle.blossom_match.proofs.augment.pass_on.Goals as goal

pub returns-clause-branching : goal.returns-clause-branching
returns-clause-branching c =
    let b = c.requires.branching in
    let old = c.args.state.now in
    let x = passing c.args.costs.now c.args.state.now c.args.u c.args.v c.args.pair b c.requires.matched in
    let out_in : c.args.pair.outside < c.args.state.now.size = x.m.tight.outside_in in
    let u_in : c.args.u < length c.args.state.now.top.items = omega (arith, b.tight.inside_in, b.so_far.shape.top_len) in
    let v_in : c.args.v < length c.args.state.now.top.items = omega (arith, b.tight.outside_in, b.so_far.shape.top_len) in
    let p_in : c.args.pair.outside < length c.args.state.now.top.items = omega (arith, out_in, b.so_far.shape.top_len) in
    let outer : c.index-outer.result.now ≡ slice_index c.args.state.now.top.items c.args.u = get_or_read c.args.state.now.top.items c.args.u c.index-outer.result.now u_in c.index-outer.ensures 0 in
    let target : c.index-target.result.now ≡ slice_index c.args.state.now.top.items c.args.v = get_or_read c.args.state.now.top.items c.args.v c.index-target.result.now v_in c.index-target.ensures 0 in
    let inner : c.index-inner.result.now ≡ slice_index c.args.state.now.top.items c.args.pair.outside =
    get_or_read c.args.state.now.top.items c.args.pair.outside c.index-inner.result.now p_in c.index-inner.ensures 0 in
    let i_in : slice_index c.args.state.now.top.items c.args.pair.outside < 2 * c.args.state.now.size = b.so_far.tops.top_in c.args.pair.outside out_in in
    let mates = passed_mates c.args.state.now.mate.items (slice_index c.args.state.now.top.items c.args.u) (slice_index c.args.state.now.top.items c.args.v) (slice_index c.args.state.now.top.items c.args.pair.outside) c.args.u c.args.v
    (omega (arith, b.so_far.tops.top_in c.args.u b.tight.inside_in, b.so_far.shape.mate_len)) (omega (arith, b.so_far.tops.top_in c.args.v b.tight.outside_in, b.so_far.shape.mate_len))
    (omega (arith, i_in, b.so_far.shape.mate_len)) x.o_not_t x.o_not_i x.t_not_i in
    let labels = freed c.args.state.now.label.items (slice_index c.args.state.now.top.items c.args.pair.outside) (omega (arith, i_in, b.so_far.shape.label_len)) in
    let entry_in : slice_index c.args.state.now.top.items c.args.pair.outside < length c.args.state.now.entry.items = omega (arith, i_in, b.so_far.shape.entry_len) in
    let reached : c.index-entry.result.now ≡ link_at c.args.state.now.entry.items (slice_index c.args.state.now.top.items c.args.pair.outside) =
    get_or_read c.args.state.now.entry.items (slice_index c.args.state.now.top.items c.args.pair.outside) c.index-entry.result.now entry_in (rw inner at c.index-entry.ensures) no_pair in
    rw reached (passed_on c.args.costs.now c.args.state.now _ c.args.u c.args.v c.args.pair c.requires.asked.table b c.requires.matched
    (record {
      size = refl;
      held = refl;
      halves = refl;
      top = refl;
      sums = refl;
      child = refl;
      next = refl;
      link = refl;
      entry = refl;
      one_way = refl;
      other_way = refl;
      base = refl;
      root = refl;
      mate_len = length-set (set (set c.args.state.now.mate.items c.index-outer.result.now (Some (pair c.args.u c.args.v))) c.index-target.result.now (Some (pair c.args.v c.args.u))) c.index-inner.result.now None
          ∙ length-set (set c.args.state.now.mate.items c.index-outer.result.now (Some (pair c.args.u c.args.v))) c.index-target.result.now (Some (pair c.args.v c.args.u))
          ∙ length-set c.args.state.now.mate.items c.index-outer.result.now (Some (pair c.args.u c.args.v));
      label_len = length-set c.args.state.now.label.items c.index-inner.result.now Free;
    })
    (rw (outer, target, inner) mates) (rw inner labels))

pub returns-clause-fewer : goal.returns-clause-fewer
returns-clause-fewer c =
    let b = c.requires.branching in
    let old = c.args.state.now in
    let x = passing c.args.costs.now c.args.state.now c.args.u c.args.v c.args.pair b c.requires.matched in
    let out_in : c.args.pair.outside < c.args.state.now.size = x.m.tight.outside_in in
    let u_in : c.args.u < length c.args.state.now.top.items = omega (arith, b.tight.inside_in, b.so_far.shape.top_len) in
    let v_in : c.args.v < length c.args.state.now.top.items = omega (arith, b.tight.outside_in, b.so_far.shape.top_len) in
    let p_in : c.args.pair.outside < length c.args.state.now.top.items = omega (arith, out_in, b.so_far.shape.top_len) in
    let outer : c.index-outer.result.now ≡ slice_index c.args.state.now.top.items c.args.u = get_or_read c.args.state.now.top.items c.args.u c.index-outer.result.now u_in c.index-outer.ensures 0 in
    let target : c.index-target.result.now ≡ slice_index c.args.state.now.top.items c.args.v = get_or_read c.args.state.now.top.items c.args.v c.index-target.result.now v_in c.index-target.ensures 0 in
    let inner : c.index-inner.result.now ≡ slice_index c.args.state.now.top.items c.args.pair.outside =
    get_or_read c.args.state.now.top.items c.args.pair.outside c.index-inner.result.now p_in c.index-inner.ensures 0 in
    let i_in : slice_index c.args.state.now.top.items c.args.pair.outside < 2 * c.args.state.now.size = b.so_far.tops.top_in c.args.pair.outside out_in in
    let mates = passed_mates c.args.state.now.mate.items (slice_index c.args.state.now.top.items c.args.u) (slice_index c.args.state.now.top.items c.args.v) (slice_index c.args.state.now.top.items c.args.pair.outside) c.args.u c.args.v
    (omega (arith, b.so_far.tops.top_in c.args.u b.tight.inside_in, b.so_far.shape.mate_len)) (omega (arith, b.so_far.tops.top_in c.args.v b.tight.outside_in, b.so_far.shape.mate_len))
    (omega (arith, i_in, b.so_far.shape.mate_len)) x.o_not_t x.o_not_i x.t_not_i in
    let labels = freed c.args.state.now.label.items (slice_index c.args.state.now.top.items c.args.pair.outside) (omega (arith, i_in, b.so_far.shape.label_len)) in
    let entry_in : slice_index c.args.state.now.top.items c.args.pair.outside < length c.args.state.now.entry.items = omega (arith, i_in, b.so_far.shape.entry_len) in
    let reached : c.index-entry.result.now ≡ link_at c.args.state.now.entry.items (slice_index c.args.state.now.top.items c.args.pair.outside) =
    get_or_read c.args.state.now.entry.items (slice_index c.args.state.now.top.items c.args.pair.outside) c.index-entry.result.now entry_in (rw inner at c.index-entry.ensures) no_pair in
    passed_fewer c.args.costs.now c.args.state.now _ c.args.u c.args.v c.args.pair b c.requires.matched (rw inner labels)

pub returns-clause-keeps : goal.returns-clause-keeps
returns-clause-keeps c =
    let b = c.requires.branching in
    let old = c.args.state.now in
    let x = passing c.args.costs.now c.args.state.now c.args.u c.args.v c.args.pair b c.requires.matched in
    let out_in : c.args.pair.outside < c.args.state.now.size = x.m.tight.outside_in in
    let u_in : c.args.u < length c.args.state.now.top.items = omega (arith, b.tight.inside_in, b.so_far.shape.top_len) in
    let v_in : c.args.v < length c.args.state.now.top.items = omega (arith, b.tight.outside_in, b.so_far.shape.top_len) in
    let p_in : c.args.pair.outside < length c.args.state.now.top.items = omega (arith, out_in, b.so_far.shape.top_len) in
    let outer : c.index-outer.result.now ≡ slice_index c.args.state.now.top.items c.args.u = get_or_read c.args.state.now.top.items c.args.u c.index-outer.result.now u_in c.index-outer.ensures 0 in
    let target : c.index-target.result.now ≡ slice_index c.args.state.now.top.items c.args.v = get_or_read c.args.state.now.top.items c.args.v c.index-target.result.now v_in c.index-target.ensures 0 in
    let inner : c.index-inner.result.now ≡ slice_index c.args.state.now.top.items c.args.pair.outside =
    get_or_read c.args.state.now.top.items c.args.pair.outside c.index-inner.result.now p_in c.index-inner.ensures 0 in
    let i_in : slice_index c.args.state.now.top.items c.args.pair.outside < 2 * c.args.state.now.size = b.so_far.tops.top_in c.args.pair.outside out_in in
    let mates = passed_mates c.args.state.now.mate.items (slice_index c.args.state.now.top.items c.args.u) (slice_index c.args.state.now.top.items c.args.v) (slice_index c.args.state.now.top.items c.args.pair.outside) c.args.u c.args.v
    (omega (arith, b.so_far.tops.top_in c.args.u b.tight.inside_in, b.so_far.shape.mate_len)) (omega (arith, b.so_far.tops.top_in c.args.v b.tight.outside_in, b.so_far.shape.mate_len))
    (omega (arith, i_in, b.so_far.shape.mate_len)) x.o_not_t x.o_not_i x.t_not_i in
    let labels = freed c.args.state.now.label.items (slice_index c.args.state.now.top.items c.args.pair.outside) (omega (arith, i_in, b.so_far.shape.label_len)) in
    let entry_in : slice_index c.args.state.now.top.items c.args.pair.outside < length c.args.state.now.entry.items = omega (arith, i_in, b.so_far.shape.entry_len) in
    let reached : c.index-entry.result.now ≡ link_at c.args.state.now.entry.items (slice_index c.args.state.now.top.items c.args.pair.outside) =
    get_or_read c.args.state.now.entry.items (slice_index c.args.state.now.top.items c.args.pair.outside) c.index-entry.result.now entry_in (rw inner at c.index-entry.ensures) no_pair in
    rw reached (passed_keeps c.args.costs.now c.args.state.now _ c.args.u c.args.v c.args.pair b c.requires.matched
    (record {
      size = refl;
      held = refl;
      halves = refl;
      top = refl;
      sums = refl;
      child = refl;
      next = refl;
      link = refl;
      entry = refl;
      one_way = refl;
      other_way = refl;
      base = refl;
      root = refl;
      mate_len = length-set (set (set c.args.state.now.mate.items c.index-outer.result.now (Some (pair c.args.u c.args.v))) c.index-target.result.now (Some (pair c.args.v c.args.u))) c.index-inner.result.now None
          ∙ length-set (set c.args.state.now.mate.items c.index-outer.result.now (Some (pair c.args.u c.args.v))) c.index-target.result.now (Some (pair c.args.v c.args.u))
          ∙ length-set c.args.state.now.mate.items c.index-outer.result.now (Some (pair c.args.u c.args.v));
      label_len = length-set c.args.state.now.label.items c.index-inner.result.now Free;
    })
    (rw (outer, target, inner) mates))

pub returns-clause-matched : goal.returns-clause-matched
returns-clause-matched c =
    let b = c.requires.branching in
    let old = c.args.state.now in
    let x = passing c.args.costs.now c.args.state.now c.args.u c.args.v c.args.pair b c.requires.matched in
    let out_in : c.args.pair.outside < c.args.state.now.size = x.m.tight.outside_in in
    let u_in : c.args.u < length c.args.state.now.top.items = omega (arith, b.tight.inside_in, b.so_far.shape.top_len) in
    let v_in : c.args.v < length c.args.state.now.top.items = omega (arith, b.tight.outside_in, b.so_far.shape.top_len) in
    let p_in : c.args.pair.outside < length c.args.state.now.top.items = omega (arith, out_in, b.so_far.shape.top_len) in
    let outer : c.index-outer.result.now ≡ slice_index c.args.state.now.top.items c.args.u = get_or_read c.args.state.now.top.items c.args.u c.index-outer.result.now u_in c.index-outer.ensures 0 in
    let target : c.index-target.result.now ≡ slice_index c.args.state.now.top.items c.args.v = get_or_read c.args.state.now.top.items c.args.v c.index-target.result.now v_in c.index-target.ensures 0 in
    let inner : c.index-inner.result.now ≡ slice_index c.args.state.now.top.items c.args.pair.outside =
    get_or_read c.args.state.now.top.items c.args.pair.outside c.index-inner.result.now p_in c.index-inner.ensures 0 in
    let i_in : slice_index c.args.state.now.top.items c.args.pair.outside < 2 * c.args.state.now.size = b.so_far.tops.top_in c.args.pair.outside out_in in
    let mates = passed_mates c.args.state.now.mate.items (slice_index c.args.state.now.top.items c.args.u) (slice_index c.args.state.now.top.items c.args.v) (slice_index c.args.state.now.top.items c.args.pair.outside) c.args.u c.args.v
    (omega (arith, b.so_far.tops.top_in c.args.u b.tight.inside_in, b.so_far.shape.mate_len)) (omega (arith, b.so_far.tops.top_in c.args.v b.tight.outside_in, b.so_far.shape.mate_len))
    (omega (arith, i_in, b.so_far.shape.mate_len)) x.o_not_t x.o_not_i x.t_not_i in
    let labels = freed c.args.state.now.label.items (slice_index c.args.state.now.top.items c.args.pair.outside) (omega (arith, i_in, b.so_far.shape.label_len)) in
    let entry_in : slice_index c.args.state.now.top.items c.args.pair.outside < length c.args.state.now.entry.items = omega (arith, i_in, b.so_far.shape.entry_len) in
    let reached : c.index-entry.result.now ≡ link_at c.args.state.now.entry.items (slice_index c.args.state.now.top.items c.args.pair.outside) =
    get_or_read c.args.state.now.entry.items (slice_index c.args.state.now.top.items c.args.pair.outside) c.index-entry.result.now entry_in (rw inner at c.index-entry.ensures) no_pair in
    rw (outer, target, inner) (passed_target c.args.state.now.mate.items _ (slice_index c.args.state.now.top.items c.args.u) (slice_index c.args.state.now.top.items c.args.v) (slice_index c.args.state.now.top.items c.args.pair.outside) c.args.u c.args.v mates)

pub index-entry-requires : goal.index-entry-requires
index-entry-requires c =
    let b = c.requires.branching in
    let x = passing c.args.costs.now c.args.state.now c.args.u c.args.v c.args.pair b c.requires.matched in
    let p_in : c.args.pair.outside < length c.args.state.now.top.items = omega (arith, x.m.tight.outside_in, b.so_far.shape.top_len) in
    let inner : c.index-inner.result.now ≡ slice_index c.args.state.now.top.items c.args.pair.outside =
    get_or_read c.args.state.now.top.items c.args.pair.outside c.index-inner.result.now p_in c.index-inner.ensures 0 in
    omega (arith, inner, b.so_far.tops.top_in c.args.pair.outside x.m.tight.outside_in, b.so_far.shape.entry_len, c.args.state.now.entry.ok.0)

pub index_mut-requires-3 : goal.index_mut-requires-3
index_mut-requires-3 c =
    let b = c.requires.branching in
    let x = passing c.args.costs.now c.args.state.now c.args.u c.args.v c.args.pair b c.requires.matched in
    let p_in : c.args.pair.outside < length c.args.state.now.top.items = omega (arith, x.m.tight.outside_in, b.so_far.shape.top_len) in
    let inner : c.index-inner.result.now ≡ slice_index c.args.state.now.top.items c.args.pair.outside =
    get_or_read c.args.state.now.top.items c.args.pair.outside c.index-inner.result.now p_in c.index-inner.ensures 0 in
    omega (arith, inner, b.so_far.tops.top_in c.args.pair.outside x.m.tight.outside_in, b.so_far.shape.mate_len, c.args.state.now.mate.ok.0)

pub index_mut-requires-4 : goal.index_mut-requires-4
index_mut-requires-4 c =
    let b = c.requires.branching in
    let x = passing c.args.costs.now c.args.state.now c.args.u c.args.v c.args.pair b c.requires.matched in
    let p_in : c.args.pair.outside < length c.args.state.now.top.items = omega (arith, x.m.tight.outside_in, b.so_far.shape.top_len) in
    let inner : c.index-inner.result.now ≡ slice_index c.args.state.now.top.items c.args.pair.outside =
    get_or_read c.args.state.now.top.items c.args.pair.outside c.index-inner.result.now p_in c.index-inner.ensures 0 in
    omega (arith, inner, b.so_far.tops.top_in c.args.pair.outside x.m.tight.outside_in, b.so_far.shape.label_len, c.args.state.now.label.ok.0)
