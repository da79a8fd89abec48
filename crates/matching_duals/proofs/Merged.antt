-- A shore that is added to different ones, or whose weight rises.
use Rattle.std.proofs.Common.{◌≡◌, ℕ, ◌<◌, ◌≤◌, pos, List, [], ◌∷◌, ◌++◌, length, get_or, set, take, drop, refl, sym, ap, ◌∙◌, subst, arith, inl, inr}
use Rattle.std.specs.Prelude.{if◌then◌else◌}
use Rattle.std.proofs.lemmas.Bool.{cases_lt, cases_eq}
use Rattle.std.proofs.lemmas.List.{get_or_append_left, get_or_push, length_push, length-set, get_or-set_same, get_or-set_other, get_or_default}
use Rattle.std.proofs.Math.Seq.{take-append_seam}
use Rattle.std.proofs.lemmas.List.Elements.{All-push, All-set}
use Rattle.std.proofs.lemmas.List.Sums.{sum_by_push, sum_by-set}
use Rattle.plan_model.specs.Plans.{crosses}
use Rattle.cut_pool.specs.declared.shore.Weighted.{Weighted}
use Rattle.cut_pool.specs.Shores.{is_in}
use Rattle.matching_duals.specs.Joins.{halves, AreDifferent}
use Rattle.matching_duals.specs.Levels.{AreJoined, IsPositive, IsStanding, IsAdded, Stands, raised}
use Rattle.matching_duals.proofs.Parity.{part, part-add}

abbrev pub weighted : List ℕ → ℕ → Weighted
weighted shore more = record { shore = shore; weight = pos more }

stands_at : (shores : List Weighted) (k : ℕ) (d : Weighted) → k < length shores → Stands shores (get_or shores k d).shore
stands_at shores k d below = record { place = k; below = below; same = λ e. ap (λ (s : Weighted). s.shore) (get_or_default shores k e d below) }

module _ (shores : List Weighted) (shore : List ℕ) (more : ℕ) (joined : AreJoined shores) (some : 1 ≤ more) where
  abbrev new : Weighted
  new = weighted shore more

  at_old : (k : ℕ) (d : Weighted) → k < length shores → get_or (shores ++ new ∷ []) k d ≡ get_or shores k d
  at_old k d below = get_or_append_left shores (new ∷ []) d k below

  at_new : (k : ℕ) (d : Weighted) → k < length (shores ++ new ∷ []) → length shores ≤ k → (get_or (shores ++ new ∷ []) k d ≡ new) × (k ≡ length shores)
  at_new k d below past =
      let is : length shores ≡ k = omega (arith, below, past, length_push shores new) in
      (get_or_push shores new d k is, sym is)

  apart : ¬ (Stands shores shore) → AreDifferent (shores ++ new ∷ [])
  apart none i j d i_in j_in same = elim (cases_lt i (length shores)) [
    | inl i_old ↦ elim (cases_lt j (length shores)) [
      | inl j_old ↦ joined.different i j d i_old j_old (ap (λ (s : Weighted). s.shore) (sym (at_old i d i_old)) ∙ same ∙ ap (λ (s : Weighted). s.shore) (at_old j d j_old))
      | inr j_new ↦ absurd (none (subst (Stands shores)
          (ap (λ (s : Weighted). s.shore) (sym (at_old i d i_old)) ∙ same ∙ ap (λ (s : Weighted). s.shore) (at_new j d j_in j_new).0) (stands_at shores i d i_old)))
    ]
    | inr i_new ↦ elim (cases_lt j (length shores)) [
      | inl j_old ↦ absurd (none (subst (Stands shores)
          (ap (λ (s : Weighted). s.shore) (sym (at_old j d j_old)) ∙ sym same ∙ ap (λ (s : Weighted). s.shore) (at_new i d i_in i_new).0) (stands_at shores j d j_old)))
      | inr j_new ↦ (at_new i d i_in i_new).1 ∙ sym (at_new j d j_in j_new).1
    ]
  ]

  pub added_push : ¬ (Stands shores shore) → IsAdded shores shore more (shores ++ new ∷ [])
  added_push none = record {
    joined = record {
      positive = All-push IsPositive shores new joined.positive (record { natural = refl; some = some });
      different = apart none;
    };
    over = λ x. sum_by_push (λ s. if crosses (is_in s.shore) x then halves s else 0) shores new;
    all = sum_by_push halves shores new;
    each = λ k d below. elim (cases_lt k (length shores)) [
      | inl old ↦ inr (subst (λ (s : Weighted). Stands shores s.shore) (sym (at_old k d old)) (stands_at shores k d old))
      | inr last ↦ inl (ap (λ (s : Weighted). s.shore) (at_new k d below last).0)
    ];
  }

  module _ (i : ℕ) (standing : IsStanding shores shore i) (e : Weighted) where
    abbrev more_there : List Weighted
    more_there = set shores i (raised (get_or shores i e) more)

    same_shore : (k : ℕ) (d : Weighted) → k < length shores → (get_or more_there k d).shore ≡ (get_or shores k d).shore
    same_shore k d below = elim (cases_eq k i) [
      | inl is ↦
          ap (λ j. (get_or more_there j d).shore) is
          ∙ ap (λ (s : Weighted). s.shore) (get_or-set_same shores i (raised (get_or shores i e) more) d standing.below)
          ∙ standing.same e ∙ sym (standing.same d) ∙ ap (λ j. (get_or shores j d).shore) (sym is)
      | inr other ↦ ap (λ (s : Weighted). s.shore) (get_or-set_other shores i k (raised (get_or shores i e) more) d other)
    ]

    long : length more_there ≡ length shores
    long = length-set shores i (raised (get_or shores i e) more)

    pub added_raise : IsAdded shores shore more more_there
    added_raise = record {
      joined = record {
        positive = All-set IsPositive shores i (raised (get_or shores i e) more) (record { natural = refl; some = omega (arith, some) }) joined.positive;
        different = λ j k d j_in k_in same.
            let j_old : j < length shores = omega (arith, j_in, long) in
            let k_old : k < length shores = omega (arith, k_in, long) in
            joined.different j k d j_old k_old (sym (same_shore j d j_old) ∙ same ∙ same_shore k d k_old);
      };
      over = λ x.
          omega (
            arith,
            sum_by-set (λ s. if crosses (is_in s.shore) x then halves s else 0) shores i (raised (get_or shores i e) more) e standing.below,
            part-add (crosses (is_in (get_or shores i e).shore) x) (halves (get_or shores i e)) more,
            ap (λ (l : List ℕ). part (crosses (is_in l) x) more) (standing.same e),
          );
      all = omega (arith, sum_by-set halves shores i (raised (get_or shores i e) more) e standing.below);
      each = λ k d below.
          let old : k < length shores = omega (arith, below, long) in
          inr (subst (Stands shores) (sym (same_shore k d old)) (stands_at shores k d old));
    }

-- a slice that is lent and comes back is the whole list
pub whole : {X : Type 0} (xs ys : List X) (n : ℕ) → n ≡ length ys → take n (ys ++ drop (length ys) xs) ≡ ys
whole xs ys n is = rw is (take-append_seam ys (drop (length ys) xs))
