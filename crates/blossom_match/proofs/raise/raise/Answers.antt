use Rattle.std.proofs.Common.{refl, ap, ◌∙◌, ◌≡◌, length, drop, arith}
use Rattle.std.proofs.lemmas.List.{take_at}
use Rattle.blossom_match.proofs.Moving.{searching_kept, to_do_kept, fits_halves, fits_sums}
use Rattle.blossom_match.proofs.raise.raise.Goals as goal

pub move_halves-requires-clause-fits : goal.move_halves-requires-clause-fits
move_halves-requires-clause-fits c =
    rw (c.deref.ensures.value, c.deref_mut.ensures.value) (fits_halves c.args.costs.now c.args.state.now c.args.amount c.requires.searching c.requires.lawful)

pub move_sums-requires-clause-fits : goal.move_sums-requires-clause-fits
move_sums-requires-clause-fits c =
    rw (c.deref-2.ensures.value, c.deref-3.ensures.value, c.deref_mut-2.ensures.value) (fits_sums c.args.costs.now c.args.state.now c.args.amount c.requires.searching c.requires.lawful)

pub returns-clause-moved : goal.returns-clause-moved
returns-clause-moved c =
    let old = c.args.state.now in
    let shape = c.requires.searching.so_far.shape in
    let halves_same : length c.move_halves.new.halves ≡ length c.args.state.now.halves.items = c.move_halves.auto.halves ∙ ap length c.deref_mut.ensures.value in
    let sums_same : length c.move_sums.new.sums ≡ length c.args.state.now.sums.items = c.move_sums.auto.sums ∙ ap length c.deref_mut-2.ensures.value in
    let halves_is : length c.move_halves.new.halves ≡ c.args.state.now.halves.len = omega (arith, halves_same, c.args.state.now.halves.ok.0) in
    let sums_is : length c.move_sums.new.sums ≡ c.args.state.now.sums.len = omega (arith, sums_same, c.args.state.now.sums.ok.0) in
    let halves_done = rw (c.deref.ensures.value, c.deref_mut.ensures.value) at c.move_halves.ensures in
    let sums_done = rw (c.deref-2.ensures.value, c.deref-3.ensures.value, c.deref_mut-2.ensures.value) at c.move_sums.ensures in
    record {
      size = refl;
      root = refl;
      held = refl;
      top = refl;
      child = refl;
      next = refl;
      link = refl;
      mate = refl;
      label = refl;
      entry = refl;
      one_way = refl;
      other_way = refl;
      base = refl;
      halves_len = rw (take_at c.move_halves.new.halves (drop (length c.move_halves.new.halves) c.args.state.now.halves.items) c.args.state.now.halves.len halves_is) halves_same;
      sums_len = rw (take_at c.move_sums.new.sums (drop (length c.move_sums.new.sums) c.args.state.now.sums.items) c.args.state.now.sums.len sums_is) sums_same;
      halves = λ s below. rw (take_at c.move_halves.new.halves (drop (length c.move_halves.new.halves) c.args.state.now.halves.items) c.args.state.now.halves.len halves_is) (halves_done s (omega (arith, below, shape.halves_len)));
      sums = λ v below. rw (take_at c.move_sums.new.sums (drop (length c.move_sums.new.sums) c.args.state.now.sums.items) c.args.state.now.sums.len sums_is) (sums_done v (omega (arith, below, shape.sums_len)));
    }

pub returns-clause-searching : goal.returns-clause-searching
returns-clause-searching c = searching_kept c.args.costs.now c.args.state.now _ c.args.amount c.requires.asked.table c.requires.searching c.requires.lawful (returns-clause-moved c)

pub returns-clause-same : goal.returns-clause-same
returns-clause-same c = to_do_kept c.args.state.now _ c.args.amount (returns-clause-moved c)
