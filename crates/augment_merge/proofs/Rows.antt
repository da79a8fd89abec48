-- The best joins of the tours after a join was made.
use Rattle.std.proofs.Common.{◌≡◌, ◌≢◌, ℕ, ◌+◌, ◌<◌, ◌≤◌, ◌⊎◌, inl, inr, refl, sym, subst, ◌∙◌, arith, List, length}
use Rattle.std.specs.Prelude.{Option, None, Some, slice_index_or}
use Rattle.std.proofs.lemmas.Bool.{cases_eq}
use Rattle.carp_base.specs.Problem.{Problem}
use Rattle.augment_merge.specs.declared.joins.Join.{Join}
use Rattle.augment_merge.specs.declared.outline.Outline.{Outline}
use Rattle.augment_merge.specs.Merging.{JoinNoLater}
use Rattle.augment_merge.specs.Outlines.{FindsBest, IsLinkSaving, IsFresh, IsOldJoin, IsOutlineJoin, IsPairJoin, IsRowJoin, StandsInRows, AreBestRows, nth_outline, oriented_outline}
use Rattle.augment_merge.proofs.Choosing.{finds_over, finds_same, found_some, no_later_over}

module _ (p : Problem) (outlines : List Outline) (made : Join) (order : made.first < made.second) (emptied : (nth_outline outlines made.second).load ≡ 0) where
  not_emptied : (j : Join) → IsOutlineJoin p outlines j → j.second ≢ made.second
  not_emptied j join is = absurd (let used : 1 ≤ (nth_outline outlines made.second).load = subst (λ k. 1 ≤ (nth_outline outlines k).load) is join.second_used in omega arith)

  -- the tours before the joined one have that as a partner too
  pub renewed_before : (first : ℕ) (row next found : Option Join) → FindsBest (IsOldJoin p outlines made first) row → FindsBest (IsPairJoin p outlines first made.first) next →
      FindsBest (λ j. (row ≡ Some j) ⊎ (next ≡ Some j)) found → made.first < length outlines → FindsBest (IsRowJoin p outlines first (length outlines)) found
  renewed_before first row next found old pair better in_range =
      finds_over (IsOldJoin p outlines made first) (IsPairJoin p outlines first made.first) (IsRowJoin p outlines first (length outlines)) row next found old pair better
      (λ j is. elim (cases_eq j.second made.first) [
        | inl at ↦ inr (record { join = is.join; first_is = is.first_is; second_is = at })
        | inr away ↦ inl (record { row = is; not_joined = away; not_emptied = not_emptied j is.join })
      ])
      (λ j is. is.row)
      (λ j is. record { join = is.join; first_is = is.first_is; second_in = let at = is.second_is in omega arith })

  -- the later ones have not
  pub renewed_after : (first : ℕ) (row : Option Join) → FindsBest (IsOldJoin p outlines made first) row → made.first < first → FindsBest (IsRowJoin p outlines first (length outlines)) row
  renewed_after first row old behind =
      finds_same (IsOldJoin p outlines made first) (IsRowJoin p outlines first (length outlines)) row (λ j is. is.row)
      (λ j is. record { row = is; not_joined = λ at. absurd (let order' = is.join.order in let first_is = is.first_is in omega arith); not_emptied = not_emptied j is.join }) old

-- joins of tours that have not changed are joins of the new ones
module _ (p : Problem) (before after : List Outline) (made : Join) (long : length after ≡ length before)
    (same : (k : ℕ) → k ≢ made.first → k ≢ made.second → nth_outline after k ≡ nth_outline before k) where
  kept : (xs ys : List Outline) (j : Join) → length ys ≡ length xs → nth_outline ys j.first ≡ nth_outline xs j.first → nth_outline ys j.second ≡ nth_outline xs j.second → IsOutlineJoin p xs j → IsOutlineJoin p ys j
  kept xs ys j as_long first_is second_is join = record {
    order = join.order;
    in_range = let in_range = join.in_range in omega arith;
    first_used = subst (λ o. 1 ≤ o.load) (sym first_is) join.first_used;
    second_used = subst (λ o. 1 ≤ o.load) (sym second_is) join.second_used;
    fits = subst (λ o. o.load + (nth_outline ys j.second).load ≤ p.capacity) (sym first_is) (subst (λ o. (nth_outline xs j.first).load + o.load ≤ p.capacity) (sym second_is) join.fits);
    saves = subst (λ o. IsLinkSaving p (oriented_outline j.turn_first o) (oriented_outline j.turn_second (nth_outline ys j.second)) j.saving) (sym first_is)
        (subst (λ o. IsLinkSaving p (oriented_outline j.turn_first (nth_outline xs j.first)) (oriented_outline j.turn_second o) j.saving) (sym second_is) join.saves);
    some = join.some;
  }

  pub row_kept : (k : ℕ) (row : Option Join) → FindsBest (IsRowJoin p before k (length before)) row → IsFresh made k row → FindsBest (IsOldJoin p after made k) row
  row_kept k row best fresh = one row refl best
    where
      there : (j : Join) → j.second ≢ made.first → j.second ≢ made.second → IsRowJoin p before k (length before) j → IsOldJoin p after made k j
      there j away away' is = record {
        row = record {
          join = kept before after j long (same j.first (λ at. fresh.not_joined (sym is.first_is ∙ at)) (λ at. fresh.not_emptied (sym is.first_is ∙ at))) (same j.second away away') is.join;
          first_is = is.first_is;
          second_in = let below = is.second_in in omega arith;
        };
        not_joined = away;
        not_emptied = away';
      }

      back : (j : Join) → IsOldJoin p after made k j → IsRowJoin p before k (length before) j
      back j is = record {
        join = kept after before j (sym long) (sym (same j.first (λ at. fresh.not_joined (sym is.row.first_is ∙ at)) (λ at. fresh.not_emptied (sym is.row.first_is ∙ at)))) (sym (same j.second is.not_joined is.not_emptied)) is.row.join;
        first_is = is.row.first_is;
        second_in = let below = is.row.second_in in omega arith;
      }

      one : (x : Option Join) → row ≡ x → FindsBest (IsRowJoin p before k (length before)) x → FindsBest (IsOldJoin p after made k) x
      one None is none = λ j old. none j (back j old)
      one (Some b) is found = let partner = fresh.partner b is in record { has = there b partner.0 partner.1 found.has; first = λ j old. found.first j (back j old) }

-- the first of the best joins of the tours is the best of all
module _ (p : Problem) (outlines : List Outline) (rows : List (Option Join)) (are : AreBestRows p outlines rows) where
  -- the row of a join has one that is no later
  in_row : (j : Join) → IsOutlineJoin p outlines j → (b : Join) × StandsInRows rows (length rows) b × JoinNoLater b j
  in_row j join =
      let in_range : j.first < length outlines = omega (arith, join.order, join.in_range) in
      let found = found_some (IsRowJoin p outlines j.first (length outlines)) (slice_index_or rows j.first None) j (are.each j.first in_range) row in
      (found.0, record { row = j.first; in_range = omega (arith, in_range, are.one_each); is = found.1 }, found.2.first j row)
    where
      row : IsRowJoin p outlines j.first (length outlines) j
      row = record { join = join; first_is = refl; second_in = join.in_range }

  pub best_of_all : (best : Option Join) → FindsBest (StandsInRows rows (length rows)) best → FindsBest (IsOutlineJoin p outlines) best
  best_of_all None none = λ j join. let r = in_row j join in none r.0 r.1
  best_of_all (Some b) found = record {
    has =
        let stands = found.has in
        let best : FindsBest (IsRowJoin p outlines stands.row (length outlines)) (Some b) =
        subst (FindsBest (IsRowJoin p outlines stands.row (length outlines))) stands.is (are.each stands.row (omega (arith, stands.in_range, are.one_each))) in
        best.has.join;
    first = λ j join. let r = in_row j join in no_later_over b r.0 j (found.first r.0 r.1) r.2;
  }
