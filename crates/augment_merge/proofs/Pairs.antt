-- Joins of two tours in outline: what they save, and the best of a pair and of a row.
use Rattle.std.proofs.Common.{◌≡◌, ◌≢◌, ℕ, ◌+◌, ◌<◌, ◌≤◌, ◌⊎◌, inl, inr, Bool, true, false, refl, sym, ap, subst, ◌∙◌, arith, List, length}
use Rattle.std.specs.Prelude.{Option, Some}
use Rattle.std.proofs.lemmas.Bool.{cases_lt}
use Rattle.carp_base.specs.Problem.{Problem}
use Rattle.deadhead_paths.specs.Laws.{LeastPriceIsSymmetric}
use Rattle.deadhead_paths.specs.Prices.{price_of, costs_of}
use Rattle.augment_merge.specs.declared.joins.Join.{Join}
use Rattle.augment_merge.specs.declared.outline.Outline.{Outline}
use Rattle.augment_merge.specs.Merging.{JoinNoLater}
use Rattle.augment_merge.specs.Outlines.{FindsBest, IsFirstOfJoins, IsLinkSaving, IsOutline, IsPairJoin, IsRowJoin, IsWayJoin, nth_outline, oriented_outline}
use Rattle.augment_merge.proofs.Choosing.{finds_over, no_later_itself}

pub oriented_is : LeastPriceIsSymmetric → (p : Problem) (turned : Bool) (o : Outline) → IsOutline p o → IsOutline p (oriented_outline turned o)
oriented_is symmetric p false o is = is
oriented_is symmetric p true o is = record {
  start_stands = is.end_stands;
  end_stands = is.start_stands;
  out_least = symmetric p (price_of (costs_of p)) o.end p.depot o.home is.home_least;
  home_least = symmetric p (price_of (costs_of p)) p.depot o.start o.out is.out_least;
  out_small = is.home_small;
  home_small = is.out_small;
  load_small = is.load_small;
}

link_once : (p : Problem) (a b : Outline) (m n : ℕ) → IsLinkSaving p a b m → IsLinkSaving p a b n → m ≡ n
link_once p a b m n first second =
    omega (
      arith,
      first.saved,
      second.saved,
      first.least.least second.link second.least.steps second.least.reached,
      second.least.least first.link first.least.steps first.least.reached,
    )

module _ (p : Problem) (outlines : List Outline) where
  module _ (first second : ℕ) (turn_first turn_second : Bool) where
    way_saving : (j : Join) → IsWayJoin p outlines first second turn_first turn_second j →
        IsLinkSaving p (oriented_outline turn_first (nth_outline outlines first)) (oriented_outline turn_second (nth_outline outlines second)) j.saving
    way_saving j way =
        subst (λ b. IsLinkSaving p (oriented_outline turn_first (nth_outline outlines first)) (oriented_outline b (nth_outline outlines second)) j.saving) way.turn_second_is
        (
        subst (λ b. IsLinkSaving p (oriented_outline b (nth_outline outlines first)) (oriented_outline j.turn_second (nth_outline outlines second)) j.saving) way.turn_first_is
        (
        subst (λ k. IsLinkSaving p (oriented_outline j.turn_first (nth_outline outlines first)) (oriented_outline j.turn_second (nth_outline outlines k)) j.saving) way.second_is
        (
        subst (λ k. IsLinkSaving p (oriented_outline j.turn_first (nth_outline outlines k)) (oriented_outline j.turn_second (nth_outline outlines j.second)) j.saving) way.first_is
        way.join.saves
        )
        )
        )

    module _ (a b : Outline) (a_is : a ≡ oriented_outline turn_first (nth_outline outlines first)) (b_is : b ≡ oriented_outline turn_second (nth_outline outlines second))
        (saving : ℕ) (saves : IsLinkSaving p a b saving) where
      here : IsLinkSaving p (oriented_outline turn_first (nth_outline outlines first)) (oriented_outline turn_second (nth_outline outlines second)) saving
      here = subst (λ x. IsLinkSaving p (oriented_outline turn_first (nth_outline outlines first)) x saving) b_is (subst (λ x. IsLinkSaving p x b saving) a_is saves)

      pub way_none : saving ≡ 0 → (j : Join) → IsWayJoin p outlines first second turn_first turn_second j → ⊥
      way_none nothing j way = let some = way.join.some in let same = link_once p _ _ saving j.saving here (way_saving j way) in omega arith

      join : Join
      join = record { first = first; second = second; turn_first = turn_first; turn_second = turn_second; saving = saving }

      same_join : (j : Join) → IsWayJoin p outlines first second turn_first turn_second j → join ≡ j
      unfolding join
      same_join j way =
          let same = link_once p _ _ saving j.saving here (way_saving j way) in
          let one : first ≡ j.first = sym way.first_is in
          let two : second ≡ j.second = sym way.second_is in
          let three : turn_first ≡ j.turn_first = sym way.turn_first_is in
          let four : turn_second ≡ j.turn_second = sym way.turn_second_is in
          ap (λ x. record { first = x; second = second; turn_first = turn_first; turn_second = turn_second; saving = saving }) one
          ∙ ap (λ x. record { first = j.first; second = x; turn_first = turn_first; turn_second = turn_second; saving = saving }) two
          ∙ ap (λ x. record { first = j.first; second = j.second; turn_first = x; turn_second = turn_second; saving = saving }) three
          ∙ ap (λ x. record { first = j.first; second = j.second; turn_first = j.turn_first; turn_second = x; saving = saving }) four
          ∙ ap (λ x. record { first = j.first; second = j.second; turn_first = j.turn_first; turn_second = j.turn_second; saving = x }) same

      pub way_some : saving ≢ 0 → first < second → second < length outlines → 1 ≤ (nth_outline outlines first).load → 1 ≤ (nth_outline outlines second).load →
          (nth_outline outlines first).load + (nth_outline outlines second).load ≤ p.capacity →
          IsFirstOfJoins (IsWayJoin p outlines first second turn_first turn_second) (record { first = first; second = second; turn_first = turn_first; turn_second = turn_second; saving = saving })
      unfolding join
      way_some some order in_range first_used second_used fits = record {
        has = record {
          join = record { order = order; in_range = in_range; first_used = first_used; second_used = second_used; fits = fits; saves = here; some = omega arith };
          first_is = refl;
          second_is = refl;
          turn_first_is = refl;
          turn_second_is = refl;
        };
        first = λ j way. subst (JoinNoLater join) (same_join j way) (no_later_itself join);
      }

  -- what ways a join has
  by_way : (first second : ℕ) (j : Join) → IsPairJoin p outlines first second j → (b c : Bool) → j.turn_first ≡ b → j.turn_second ≡ c → IsWayJoin p outlines first second b c j
  by_way first second j pair b c b_is c_is = record { join = pair.join; first_is = pair.first_is; second_is = pair.second_is; turn_first_is = b_is; turn_second_is = c_is }

  -- a join that turns the first tour or does not
  record IsHalfJoin (first second : ℕ) (turn_first : Bool) (j : Join) : Type 0 where
    pair : IsPairJoin p outlines first second j
    turn_is : j.turn_first ≡ turn_first

  two_ways : (b c : Bool) → b ≡ c → (c ≡ false) ⊎ (c ≡ true)
  two_ways b false is = inl refl
  two_ways b true is = inr refl

  pub pair_over : (first second : ℕ) (ff ft tf tt' ahead turned best : Option Join) →
      FindsBest (IsWayJoin p outlines first second false false) ff → FindsBest (IsWayJoin p outlines first second false true) ft → FindsBest (λ j. (ff ≡ Some j) ⊎ (ft ≡ Some j)) ahead →
      FindsBest (IsWayJoin p outlines first second true false) tf → FindsBest (IsWayJoin p outlines first second true true) tt' → FindsBest (λ j. (tf ≡ Some j) ⊎ (tt' ≡ Some j)) turned →
      FindsBest (λ j. (ahead ≡ Some j) ⊎ (turned ≡ Some j)) best → FindsBest (IsPairJoin p outlines first second) best
  pair_over first second ff ft tf tt' ahead turned best is_ff is_ft is_ahead is_tf is_tt is_turned is_best =
      finds_over (IsHalfJoin first second false) (IsHalfJoin first second true) (IsPairJoin p outlines first second) ahead turned best (half false ff ft ahead is_ff is_ft is_ahead) (half true tf tt' turned is_tf is_tt is_turned) is_best
      (λ j pair. elim (two_ways j.turn_first j.turn_first refl) [
        | inl is ↦ inl (record { pair = pair; turn_is = is })
        | inr is ↦ inr (record { pair = pair; turn_is = is })
      ])
      (λ j half'. half'.pair) (λ j half'. half'.pair)
    where
      half : (b : Bool) (x y z : Option Join) → FindsBest (IsWayJoin p outlines first second b false) x → FindsBest (IsWayJoin p outlines first second b true) y →
          FindsBest (λ j. (x ≡ Some j) ⊎ (y ≡ Some j)) z → FindsBest (IsHalfJoin first second b) z
      half b x y z is_x is_y is_z =
          finds_over (IsWayJoin p outlines first second b false) (IsWayJoin p outlines first second b true) (IsHalfJoin first second b) x y z is_x is_y is_z
          (λ j half'. elim (two_ways j.turn_second j.turn_second refl) [
            | inl is ↦ inl (by_way first second j half'.pair b false half'.turn_is is)
            | inr is ↦ inr (by_way first second j half'.pair b true half'.turn_is is)
          ])
          (λ j way. record { pair = record { join = way.join; first_is = way.first_is; second_is = way.second_is }; turn_is = way.turn_first_is })
          (λ j way. record { pair = record { join = way.join; first_is = way.first_is; second_is = way.second_is }; turn_is = way.turn_first_is })

  -- one partner more
  pub row_more : (first second : ℕ) (best next found : Option Join) → FindsBest (IsRowJoin p outlines first second) best → FindsBest (IsPairJoin p outlines first second) next →
      FindsBest (λ j. (best ≡ Some j) ⊎ (next ≡ Some j)) found → FindsBest (IsRowJoin p outlines first (second + 1)) found
  row_more first second best next found so_far pair better =
      finds_over (IsRowJoin p outlines first second) (IsPairJoin p outlines first second) (IsRowJoin p outlines first (second + 1)) best next found so_far pair better
      (λ j row. elim (cases_lt j.second second) [
        | inl below ↦ inl (record { join = row.join; first_is = row.first_is; second_in = below })
        | inr above ↦ inr (record { join = row.join; first_is = row.first_is; second_is = let below = row.second_in in omega arith })
      ])
      (λ j row. record { join = row.join; first_is = row.first_is; second_in = let below = row.second_in in omega arith })
      (λ j pair'. record { join = pair'.join; first_is = pair'.first_is; second_in = let at = pair'.second_is in omega arith })

  pub row_none : (first end : ℕ) → end ≤ first + 1 → (j : Join) → IsRowJoin p outlines first end j → ⊥
  row_none first end short j row = let order = row.join.order in let at = row.first_is in let below = row.second_in in omega arith

  -- a pair that does not fit, or of which one has no tasks, has no join
  pub pair_none : (first second : ℕ) → ((nth_outline outlines first).load ≡ 0) ⊎ (((nth_outline outlines second).load ≡ 0) ⊎ (p.capacity < (nth_outline outlines first).load + (nth_outline outlines second).load)) →
      (j : Join) → IsPairJoin p outlines first second j → ⊥
  pair_none first second why j pair =
      let one : 1 ≤ (nth_outline outlines first).load = subst (λ k. 1 ≤ (nth_outline outlines k).load) pair.first_is pair.join.first_used in
      let two : 1 ≤ (nth_outline outlines second).load = subst (λ k. 1 ≤ (nth_outline outlines k).load) pair.second_is pair.join.second_used in
      let fits : (nth_outline outlines first).load + (nth_outline outlines second).load ≤ p.capacity =
      subst (λ k. (nth_outline outlines k).load + (nth_outline outlines second).load ≤ p.capacity) pair.first_is (subst (λ k. (nth_outline outlines j.first).load + (nth_outline outlines k).load ≤ p.capacity) pair.second_is pair.join.fits) in
      elim why [
        | inl none ↦ omega arith
        | inr rest ↦ elim rest [
          | inl none ↦ omega arith
          | inr heavy ↦ omega arith
        ]
      ]
