-- Where tours end best, in numbers.
use Rattle.std.proofs.Common.{◌≡◌, ℕ, suc, ◌+◌, ◌-◌, ◌<◌, ◌≤◌, ◌⊎◌, inl, inr, List, length, sym, ap, subst, arith}
use Rattle.std.specs.Prelude.{slice_index, slice_set}
use Rattle.std.proofs.lemmas.Bool.{cases_lt}
use Rattle.std.proofs.lemmas.List.{get_or-set_same, get_or-set_other, length-set}
use Rattle.giant_split.specs.declared.legs.Leg.{Leg}
use Rattle.giant_split.specs.Legs.{AreFineLegs, leg_at}
use Rattle.giant_split.specs.Cuts.{AreCutFrom, LegsFit, IsBestLast, IsCutAt, IsSmallCost, onward}
use Rattle.giant_split.proofs.Rising.{rises}

module _ (capacity : ℕ) (legs : List Leg) (fine : AreFineLegs capacity legs) where
  loads_rise : (k e : ℕ) → k ≤ e → e < length legs → (leg_at legs k).after ≤ (leg_at legs e).after
  loads_rise = rises (λ k. (leg_at legs k).after) (length legs) (λ k below. (fine.each (suc k) below).load_rises)

  -- no later place fits where one does not
  pub best_ends : (costs : List ℕ) (from n last : ℕ) → IsBestLast capacity legs costs from n last → n < length legs → (leg_at legs from).before + capacity < (leg_at legs n).after →
      IsBestLast capacity legs costs from (length legs) last
  best_ends costs from n last best below full = record {
    later = best.later;
    within = omega (arith, best.within);
    fits = best.fits;
    best = λ k late within fits. one k late within fits (cases_lt k n);
  }
    where
      one : (k : ℕ) → from ≤ k → k < length legs → LegsFit capacity legs from k → (k < n) ⊎ (n ≤ k) → onward legs costs last ≤ onward legs costs k
      one k late within fits (inl before) = best.best k late before fits
      one k late within fits (inr past) = absurd (omega (arith, loads_rise n k past within, fits, full))

  pub way_within : (costs : List ℕ) (from last : ℕ) → from ≤ last → last < length legs → (leg_at legs from).way ≤ onward legs costs last
  way_within costs from last late within =
      omega (arith, rises (λ k. (leg_at legs k).way) (length legs) (λ k below. (fine.each (suc k) below).way_rises) from last late within)

  -- what stands after a place stays
  module _ (costs lasts after : List ℕ) (at : ℕ) (same : (k : ℕ) → at < k → slice_index after k ≡ slice_index costs k) where
    best_moved : (from n last : ℕ) → at ≤ from → IsBestLast capacity legs costs from n last → IsBestLast capacity legs after from n last
    best_moved from n last late best = record {
      later = best.later;
      within = best.within;
      fits = best.fits;
      best = λ k from_on within fits. omega (arith, best.best k from_on within fits, same (last + 1) (omega (arith, best.later)), same (k + 1) (omega arith));
    }

    pub cut_moved : (lasts_after : List ℕ) (k : ℕ) → at < k → slice_index lasts_after k ≡ slice_index lasts k → IsCutAt capacity legs costs lasts k → IsCutAt capacity legs after lasts_after k
    cut_moved lasts_after k late end cut = record {
      last = subst (IsBestLast capacity legs after k (length legs)) (sym end) (best_moved k (length legs) (slice_index lasts k) (omega arith) cut.last);
      cost = omega (arith, cut.cost, same k late, same (slice_index lasts k + 1) (omega (arith, cut.last.later)), ap (onward legs after) end);
      small = omega (arith, cut.small, same k late);
    }

  small_from : (costs lasts : List ℕ) (from k : ℕ) → AreCutFrom capacity legs costs lasts from → from ≤ k → k ≤ length legs → IsSmallCost legs costs k
  small_from costs lasts from k cut late within = one (cases_lt k (length legs))
    where
      one : (k < length legs) ⊎ (length legs ≤ k) → IsSmallCost legs costs k
      one (inl below) = (cut.each k late below).small
      one (inr past) = let end : k ≡ length legs = omega arith in omega (arith, ap (slice_index costs) end, cut.at_end)

  -- one place more, from the back
  pub cut_more : (costs lasts : List ℕ) (at from last cost : ℕ) → AreCutFrom capacity legs costs lasts from → from ≡ at + 1 → at < length legs → IsBestLast capacity legs costs at (length legs) last →
      cost ≡ (leg_at legs at).out + (onward legs costs last - (leg_at legs at).way) → AreCutFrom capacity legs (slice_set costs at cost) (slice_set lasts at last) at
  cut_more costs lasts at from last cost cut next below best is =
      let own : slice_index (slice_set costs at cost) at ≡ cost = get_or-set_same costs at cost 0 (omega (arith, cut.costs_long)) in
      let end : slice_index (slice_set lasts at last) at ≡ last = get_or-set_same lasts at last 0 (omega (arith, cut.lasts_long)) in
      let same : (k : ℕ) → at < k → slice_index (slice_set costs at cost) k ≡ slice_index costs k = λ k late. get_or-set_other costs at k cost 0 (omega arith) in
      let moved : IsBestLast capacity legs (slice_set costs at cost) at (length legs) last = best_moved costs lasts (slice_set costs at cost) at same at (length legs) last (omega arith) best in
      let one = fine.each at below in
      let least : onward legs costs last ≤ onward legs costs at = best.best at (omega arith) below one.carried in
      let rest : IsSmallCost legs costs (at + 1) = small_from costs lasts from (at + 1) cut (omega arith) (omega arith) in
      let there : IsCutAt capacity legs (slice_set costs at cost) (slice_set lasts at last) at = record {
        last = subst (IsBestLast capacity legs (slice_set costs at cost) at (length legs)) (sym end) moved;
        cost = omega (arith, is, own, same (last + 1) (omega (arith, best.later)), ap (onward legs (slice_set costs at cost)) end, way_within costs at last best.later best.within);
        small = omega (arith, own, is, least, rest, one.out_small, one.home_small);
      } in
      record {
        costs_long = omega (arith, length-set costs at cost, cut.costs_long);
        lasts_long = omega (arith, length-set lasts at last, cut.lasts_long);
        at_end = omega (arith, same (length legs) below, cut.at_end);
        each = λ k late within. each_one k late within there (λ past. cut_moved costs lasts (slice_set costs at cost) at same (slice_set lasts at last) k past (get_or-set_other lasts at k last 0 (omega arith)) (cut.each k (omega arith) within)) (cases_lt at k);
      }
    where
      each_one : (k : ℕ) → at ≤ k → k < length legs → IsCutAt capacity legs (slice_set costs at cost) (slice_set lasts at last) at → (at < k → IsCutAt capacity legs (slice_set costs at cost) (slice_set lasts at last) k) → (at < k) ⊎ (k ≤ at) →
          IsCutAt capacity legs (slice_set costs at cost) (slice_set lasts at last) k
      each_one k late within there onward (inl past) = onward past
      each_one k late within there onward (inr before) = let same : at ≡ k = omega arith in subst (IsCutAt capacity legs (slice_set costs at cost) (slice_set lasts at last)) same there
