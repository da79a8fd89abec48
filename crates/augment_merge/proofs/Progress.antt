-- What is kept as a join is made.
use Rattle.std.proofs.Common.{◌≡◌, ◌≢◌, ℕ, ◌<◌, inl, inr, List, [], ◌∷◌, ◌++◌, length, min, set, sym, ap, subst, ◌∙◌, arith}
use Rattle.std.specs.Prelude.{Option, None, slice_index_or}
use Rattle.std.proofs.lemmas.Bool.{cases_eq}
use Rattle.std.proofs.lemmas.List.{get_or-set_other, length-set}
use Rattle.std.proofs.lemmas.List.Sums.{sum_by-set}
use Rattle.carp_base.specs.declared.edge.Task.{Task}
use Rattle.carp_base.specs.Problem.{Problem, IsRequired, edge_at}
use Rattle.augment_merge.specs.declared.joins.Join.{Join}
use Rattle.augment_merge.specs.declared.outline.Outline.{Outline}
use Rattle.augment_merge.specs.Merging.{IsSavingJoin, IsBestJoin, JoinsLead, after_join, nth_tour, tour_of_join}
use Rattle.augment_merge.specs.Outlines.{IsDoable, AreDoable, IsOutlineJoin, IsOutlineOf, AreOutlines, AreOutlinesOf, AreReoutlined, AreBestRows, AreRenewable, nth_outline, no_outline, used_outlines}
use Rattle.augment_merge.proofs.Places.{at_earlier, at_later, elsewhere, as_long}
use Rattle.augment_merge.proofs.Rows.{row_kept}
use Rattle.augment_merge.proofs.Turning.{all_joined, sum_joined}

module _ (p : Problem) (tours : List (List Task)) (j : Join) (saves : IsSavingJoin p tours j) where
  apart : j.first ≢ j.second
  apart same = absurd (let order = saves.order in omega arith)

  first_in : j.first < length tours
  first_in = omega (arith, saves.order, saves.in_range)

  long : length (after_join tours j) ≡ length tours
  long = as_long tours j.first j.second (tour_of_join tours j) []

  pub joined_doable : AreDoable p tours → IsDoable p (tour_of_join tours j)
  joined_doable doable = record {
    required = all_joined (IsRequired p) j.turn_first j.turn_second (nth_tour tours j.first) (nth_tour tours j.second) (doable j.first first_in).required (doable j.second saves.in_range).required;
    load = omega (arith, saves.fits, sum_joined (λ e. (edge_at p e).demand) j.turn_first j.turn_second (nth_tour tours j.first) (nth_tour tours j.second));
  }

  pub doable_after : AreDoable p tours → AreDoable p (after_join tours j)
  doable_after doable k below = elim (cases_eq k j.second) [
    | inl at ↦ subst (IsDoable p) (sym (ap (nth_tour (after_join tours j)) at ∙ at_later tours j.first j.second (tour_of_join tours j) [] [] saves.in_range)) (record { required = tt; load = omega arith })
    | inr away ↦ elim (cases_eq k j.first) [
      | inl at ↦ subst (IsDoable p) (sym (ap (nth_tour (after_join tours j)) at ∙ at_earlier tours j.first j.second (tour_of_join tours j) [] [] apart first_in)) (joined_doable doable)
      | inr away' ↦ subst (IsDoable p) (sym (elsewhere tours j.first j.second k (tour_of_join tours j) [] [] away' away)) (doable k (omega (arith, below, long)))
    ]
  ]

  module _ (before after : List Outline) (are : AreOutlinesOf p tours before) (new : AreReoutlined p tours j before after) where
    one_each : length after ≡ length before
    one_each = ap length new.outlines ∙ as_long before j.first j.second new.joined new.emptied

    second_in : j.second < length before
    second_in = omega (arith, saves.in_range, are.one_each)

    later : nth_outline after j.second ≡ new.emptied
    later = ap (λ xs. nth_outline xs j.second) new.outlines ∙ at_later before j.first j.second new.joined new.emptied no_outline second_in

    earlier : nth_outline after j.first ≡ new.joined
    earlier = ap (λ xs. nth_outline xs j.first) new.outlines ∙ at_earlier before j.first j.second new.joined new.emptied no_outline apart (omega (arith, second_in, saves.order))

    same : (k : ℕ) → k ≢ j.first → k ≢ j.second → nth_outline after k ≡ nth_outline before k
    same k away away' = ap (λ xs. nth_outline xs k) new.outlines ∙ elsewhere before j.first j.second k new.joined new.emptied no_outline away away'

    outline_is : (k : ℕ) (tour : List Task) (o : Outline) → nth_tour (after_join tours j) k ≡ tour → nth_outline after k ≡ o → IsOutlineOf p tour o → IsOutlineOf p (nth_tour (after_join tours j) k) (nth_outline after k)
    outline_is k tour o tour_is o_is is = subst (λ t. IsOutlineOf p t (nth_outline after k)) (sym tour_is) (subst (IsOutlineOf p tour) (sym o_is) is)

    pub outlines_after : AreOutlinesOf p (after_join tours j) after
    outlines_after = record {
      one_each = one_each ∙ are.one_each ∙ sym long;
      each = λ k below. elim (cases_eq k j.second) [
        | inl at ↦ outline_is k [] new.emptied (ap (nth_tour (after_join tours j)) at ∙ at_later tours j.first j.second (tour_of_join tours j) [] [] saves.in_range) (ap (nth_outline after) at ∙ later) new.emptied_is
        | inr away ↦ elim (cases_eq k j.first) [
          | inl at ↦ outline_is k (tour_of_join tours j) new.joined (ap (nth_tour (after_join tours j)) at ∙ at_earlier tours j.first j.second (tour_of_join tours j) [] [] apart first_in) (ap (nth_outline after) at ∙ earlier) new.joined_is
          | inr away' ↦ outline_is k (nth_tour tours k) (nth_outline before k) (elsewhere tours j.first j.second k (tour_of_join tours j) [] [] away' away) (same k away' away) (are.each k (omega (arith, below, long)))
        ]
      ];
    }

    emptied_load : (nth_outline after j.second).load ≡ 0
    emptied_load = ap (λ o. o.load) later ∙ new.emptied_is.loaded

    pub rows_renewable : (rows : List (Option Join)) → AreBestRows p before rows → AreRenewable p after j rows
    rows_renewable rows best = record {
      one_each = best.one_each ∙ sym one_each;
      order = saves.order;
      in_range = omega (arith, second_in, one_each);
      emptied = emptied_load;
      fresh = λ k below is. row_kept p before after j one_each same k (slice_index_or rows k None) (best.each k (omega (arith, below, one_each))) is;
    }

    pub fewer_used : IsOutlineJoin p before j → used_outlines after < used_outlines before
    fewer_used join =
        let f : Outline → ℕ = λ o. min 1 o.load in
        let first_below : j.first < length before = omega (arith, second_in, saves.order) in
        let middle = set before j.first new.joined in
        let one = sum_by-set f before j.first new.joined no_outline first_below in
        let two = sum_by-set f middle j.second new.emptied no_outline (omega (arith, second_in, length-set before j.first new.joined)) in
        let there : f (nth_outline middle j.second) ≡ f (nth_outline before j.second) = ap f (get_or-set_other before j.first j.second new.joined no_outline (λ at. apart (sym at))) in
        let gone : f new.emptied ≡ 0 = ap (min 1) new.emptied_is.loaded in
        let all : used_outlines after ≡ used_outlines (set middle j.second new.emptied) = ap used_outlines new.outlines in
        let first_used = join.first_used in
        let second_used = join.second_used in
        omega arith

-- one join more
pub leads_more : (p : Problem) (tours : List (List Task)) (joins : List Join) (middle : List (List Task)) (j : Join) → JoinsLead p tours joins middle → IsBestJoin p middle j → JoinsLead p tours (joins ++ j ∷ []) (after_join middle j)
leads_more p tours [] middle j same best = (subst (λ ts. IsBestJoin p ts j) (sym same) best, ap (λ ts. after_join ts j) same)
leads_more p tours (k ∷ joins) middle j leads best = (leads.0, leads_more p (after_join tours k) joins middle j leads.1 best)

pub fine_outlines : (p : Problem) (tours : List (List Task)) (outlines : List Outline) → AreOutlinesOf p tours outlines → AreOutlines p outlines
fine_outlines p tours outlines are k below = (are.each k (omega (arith, below, are.one_each))).outline
