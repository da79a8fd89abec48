-- Two labels with a partial tour more, and with those of another vertex.
use Rattle.std.proofs.Common.{◌≡◌, ◌≢◌, ℕ, ◌+◌, ◌<◌, ◌≤◌, refl, sym, ◌∙◌, arith, inl, inr, subst}
use Rattle.std.proofs.lemmas.Bool.{cases_eq, cases_lt}
use Rattle.route_pricing.specs.Partial.{no_value}
use Rattle.route_pricing.specs.declared.labels.Labels.{Labels}
use Rattle.route_pricing.specs.Labels.{AreTwo, IsFrom, IsInserted, IsFromEither, AreLabelsJoined, Passes}

module _ (x : Labels) (value edge : ℕ) (two : AreTwo x) where
  pub kept_above : x.second ≤ value → IsInserted x value edge x
  kept_above more = record {
    two = two;
    first_falls = omega arith;
    second_falls = omega arith;
    first_from = inl (refl, refl);
    second_from = inr (inl (refl, refl));
    keeps = λ e v b. b;
    bounds = record { first = omega (arith, two.ordered, more); second = λ _. more };
    same = λ _ _. refl;
  }

  pub kept_same : edge ≡ x.first_edge → x.first ≤ value → IsInserted x value edge x
  kept_same is more = record {
    two = two;
    first_falls = omega arith;
    second_falls = omega arith;
    first_from = inl (refl, refl);
    second_from = inr (inl (refl, refl));
    keeps = λ e v b. b;
    bounds = record { first = more; second = λ other. absurd (other is) };
    same = λ _ _. refl;
  }

  pub lower_same : edge ≡ x.first_edge → value < x.first → IsInserted x value edge (record { first = value; first_edge = x.first_edge; second = x.second; second_edge = x.second_edge })
  lower_same is less = record {
    two = record { ordered = omega (arith, less, two.ordered); fits = two.fits; differ = two.differ };
    first_falls = omega (arith, less);
    second_falls = omega arith;
    first_from = inr (inr (refl, sym is));
    second_from = inr (inl (refl, refl));
    keeps = λ e v b. record { first = omega (arith, less, b.first); second = b.second };
    bounds = record { first = omega arith; second = λ other. absurd (other is) };
    same = λ more _. absurd (omega (arith, less, more));
  }

  pub lower_other : edge ≢ x.first_edge → value < x.first → IsInserted x value edge (record { first = value; first_edge = edge; second = x.first; second_edge = x.first_edge })
  lower_other differs less = record {
    two = record { ordered = omega (arith, less); fits = omega (arith, two.ordered, two.fits); differ = λ _. differs };
    first_falls = omega (arith, less);
    second_falls = two.ordered;
    first_from = inr (inr (refl, refl));
    second_from = inl (refl, refl);
    keeps = λ e v b. record { first = omega (arith, less, b.first); second = λ _. b.first };
    bounds = record { first = omega arith; second = λ other. absurd (other refl) };
    same = λ more _. absurd (omega (arith, less, more));
  }

  pub lower_second : edge ≢ x.first_edge → x.first ≤ value → value < x.second → IsInserted x value edge (record { first = x.first; first_edge = x.first_edge; second = value; second_edge = edge })
  lower_second differs more less = record {
    two = record { ordered = more; fits = omega (arith, less, two.fits); differ = λ _ same. differs (sym same) };
    first_falls = omega arith;
    second_falls = omega (arith, less);
    first_from = inl (refl, refl);
    second_from = inr (inr (refl, refl));
    keeps = λ e v b. record { first = b.first; second = λ other. omega (arith, b.second other, less) };
    bounds = record { first = more; second = λ _. omega arith };
    same = λ _ most. absurd (omega (arith, less, most));
  }

-- both labels of x, over a street of length n
module _ (x old mid new : Labels) (n first second : ℕ) (own : AreTwo x) (first_most : first ≤ x.first + n) (second_most : second ≤ x.second + n)
    (first_is : first < no_value → first ≡ x.first + n) (second_is : second < no_value → second ≡ x.second + n)
    (one : IsInserted old first x.first_edge mid) (other : IsInserted mid second x.second_edge new) where
  from_one : (v e : ℕ) → v < no_value → IsFrom old first x.first_edge v e → IsFromEither old x n v e
  from_one v e less (inl is) = inl is
  from_one v e less (inr (inl is)) = inr (inl is)
  from_one v e less (inr (inr is)) = inr (inr (inl (is.0 ∙ first_is (omega (arith, is.0, less)), is.1)))

  from_both : (v e : ℕ) → v < no_value → IsFrom mid second x.second_edge v e → IsFromEither old x n v e
  from_both v e less (inl is) = subst (λ k. IsFromEither old x n k e) (sym is.0) (subst (IsFromEither old x n mid.first) (sym is.1) (from_one mid.first mid.first_edge (omega (arith, is.0, less)) one.first_from))
  from_both v e less (inr (inl is)) = subst (λ k. IsFromEither old x n k e) (sym is.0) (subst (IsFromEither old x n mid.second) (sym is.1) (from_one mid.second mid.second_edge (omega (arith, is.0, less)) one.second_from))
  from_both v e less (inr (inr is)) = inr (inr (inr (is.0 ∙ second_is (omega (arith, is.0, less)), is.1)))

  joined_passes : Passes x n new
  joined_passes e v b =
      let f = other.keeps x.first_edge first one.bounds in
      let s = other.bounds in
      record {
        first = omega (arith, f.first, first_most, b.first);
        second = λ differs. elim (cases_eq x.first_edge new.first_edge) [
          | inr apart ↦ omega (arith, f.second apart, first_most, b.first)
          | inl is ↦ elim (cases_eq x.second_edge new.first_edge) [
            | inr apart ↦ omega (arith, s.second apart, second_most, b.second (λ same. differs (same ∙ is)))
            | inl also ↦ elim (cases_lt x.second no_value) [
              | inl less ↦ absurd (own.differ less (is ∙ sym also))
              | inr more ↦ omega (arith, more, b.second (λ same. differs (same ∙ is)), other.two.fits)
            ]
          ]
        ];
      }

  pub joined_are : AreLabelsJoined x n old new
  joined_are = record {
    two = other.two;
    first_falls = omega (arith, one.first_falls, other.first_falls);
    second_falls = omega (arith, one.second_falls, other.second_falls);
    first_from = λ less. from_both new.first new.first_edge less other.first_from;
    second_from = λ less. from_both new.second new.second_edge less other.second_from;
    keeps = λ e v b. other.keeps e v (one.keeps e v b);
    passes = joined_passes;
    same = λ most most'.
        let mid_is : mid ≡ old = one.same (omega (arith, most, other.first_falls)) (omega (arith, most', other.second_falls)) in
        other.same (omega (arith, most, one.first_falls)) (omega (arith, most', one.second_falls)) ∙ mid_is;
  }
