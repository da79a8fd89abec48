-- Sets whose numbers rise.
use Rattle.std.proofs.Common.{◌≡◌, ℕ, ◌+◌, ◌-◌, ◌≤◌, Bool, true, false, List, length, refl, sym, ◌∙◌, subst, arith, inl, inr, ◌⊎◌, pos, ◌+ℤ◌, ◌-ℤ◌, ◌≤ℤ◌}
use Rattle.std.specs.Prelude.{if◌then◌else◌}
use Rattle.std.proofs.lemmas.Int.{ints}
use Rattle.std.proofs.lemmas.Bool.{cases_eq}
use Rattle.carp_base.specs.declared.edge.Edge.{Edge}
use Rattle.carp_base.specs.Problem.{Problem, IsValid}
use Rattle.deadhead_paths.specs.Laws.{LeastDeadheadIsThere}
use Rattle.decision_chains.specs.declared.decision.Decision.{Decision}
use Rattle.branch_rules.specs.Decisions.{rules_of}
use Rattle.branch_rules.specs.Laws.{FitsBranch}
use Rattle.branch_rules.specs.Limits.{IsPriceSet}
use Rattle.branch_rules.specs.Prices.{Prices, crosses_shore, deadhead_price}
use Rattle.tight_prices.specs.Probes.{IsPaying}
use Rattle.tight_prices.specs.Places.{IsBlocked, IsPlaceOn, Rises, number_at, raised}
use Rattle.tight_prices.specs.Tight.{IsNoHigher, with_price, with_weight}
use Rattle.tight_prices.specs.declared.place.Place.{Place}
use Rattle.tight_prices.specs.declared.place.Place.TheVariants as places
use Rattle.tight_prices.proofs.Adding.{add_long, price_else, price_grows, price_keeps, price_number, price_there, sum_grows}
use Rattle.tight_prices.proofs.Weighed.{add_upper, added, crossing_added, value_grows, weight_grows, weight_number, weight_there}
use Rattle.tight_prices.proofs.Fine.{set_above}
use Rattle.tight_prices.proofs.Falling.{IsBelow, paying_falls}

added_natural : (b : Bool) (d : ℕ) → pos 0 ≤ℤ (if b then pos d else pos 0)
added_natural true d = omega (arith, ints)
added_natural false d = omega (arith, ints)

added_twice : (b : Bool) (c d : ℕ) → (if b then pos (c + d) else pos 0) ≡ (if b then pos c else pos 0) +ℤ (if b then pos d else pos 0)
added_twice true c d = omega (arith, ints)
added_twice false c d = omega (arith, ints)

-- the deadhead price of an edge across the shore falls
pub deadhead_after : (pool : List (List ℕ)) (set : Prices) (s d : ℕ) (x : Edge) → deadhead_price pool (with_weight set s d) x ≡ deadhead_price pool set x -ℤ added pool x s d
deadhead_after pool set s d x = omega (arith, ints, crossing_added pool x s d set.weights)

-- One raise.

pub rises_step : (p : Problem) (pool : List (List ℕ)) (branch : List Decision) (set : Prices) (place : Place) (d : ℕ) → IsPriceSet set → Rises p pool branch set (raised set place d)
rises_step p pool branch set (places.Edge e) d fine = record {
  unit = refl;
  services = sym (add_long e d set.services);
  prices = λ f. price_grows set e f d;
  weights = λ shore. omega (arith, ints);
  deadheads = λ x. omega (arith, ints);
  groups = refl;
  value = omega (arith, ints, sum_grows e d set.services);
}
rises_step p pool branch set (places.Shore s) d fine = record {
  unit = refl;
  services = refl;
  prices = λ f. omega (arith, ints);
  weights = λ shore. weight_grows 0 s shore d set.weights (set_above set fine);
  deadheads = λ x. omega (arith, ints, deadhead_after pool set s d x, added_natural (crosses_shore pool s x) d);
  groups = refl;
  value = omega (arith, ints, value_grows (rules_of p pool branch) s d set.weights);
}

pub rises_none : (p : Problem) (pool : List (List ℕ)) (branch : List Decision) (set : Prices) → Rises p pool branch set set
rises_none p pool branch set = record {
  unit = refl;
  services = refl;
  prices = λ f. omega (arith, ints);
  weights = λ shore. omega (arith, ints);
  deadheads = λ x. omega (arith, ints);
  groups = refl;
  value = omega (arith, ints);
}

pub rises_on : {p : Problem} {pool : List (List ℕ)} {branch : List Decision} {one two three : Prices} → Rises p pool branch one two → Rises p pool branch two three → Rises p pool branch one three
rises_on {p} {pool} {branch} {one} {two} {three} first second = record {
  unit = first.unit ∙ second.unit;
  services = first.services ∙ second.services;
  prices = λ f. omega (arith, ints, first.prices f, second.prices f);
  weights = λ shore. omega (arith, ints, first.weights shore, second.weights shore);
  deadheads = λ x. omega (arith, ints, first.deadheads x, second.deadheads x);
  groups = first.groups ∙ second.groups;
  value = omega (arith, ints, first.value, second.value);
}

pub no_higher : {p : Problem} {pool : List (List ℕ)} {branch : List Decision} {set other : Prices} → Rises p pool branch set other → IsNoHigher set other
no_higher rises = record { unit = rises.unit; services = rises.services; prices = rises.prices; weights = rises.weights; groups = rises.groups }

below_of : (p : Problem) (pool : List (List ℕ)) (branch : List Decision) (set other : Prices) → Rises p pool branch set other → IsBelow pool set other
below_of p pool branch set other rises = record { unit = rises.unit; services = rises.services; prices = rises.prices; deadheads = rises.deadheads; groups = rises.groups }

-- both raised at one place
both_raised : (pool : List (List ℕ)) (set other : Prices) (place : Place) (d : ℕ) → IsPlaceOn set place → IsBelow pool set other → IsBelow pool (raised set place d) (raised other place d)
both_raised pool set other (places.Edge e) d on below = record {
  unit = below.unit;
  services = add_long e d set.services ∙ below.services ∙ sym (add_long e d other.services);
  prices = price_keeps set other e d below.services below.prices on.0 on.1;
  deadheads = below.deadheads;
  groups = below.groups;
}
both_raised pool set other (places.Shore s) d on below = record {
  unit = below.unit;
  services = below.services;
  prices = below.prices;
  deadheads = λ x. omega (arith, ints, below.deadheads x, deadhead_after pool set s d x, deadhead_after pool other s d x);
  groups = below.groups;
}

-- one raise is no more than two that are together as much
twice_raised : (pool : List (List ℕ)) (set : Prices) (place : Place) (c d : ℕ) → IsPlaceOn set place → IsBelow pool (raised set place (c + d)) (raised (raised set place c) place d)
twice_raised pool set (places.Edge e) c d on =
    let long : length (with_price set e c).services ≡ length set.services = add_long e c set.services in
    record {
      unit = refl;
      services = add_long e (c + d) set.services ∙ sym long ∙ sym (add_long e d (with_price set e c).services);
      prices = λ f. elim (cases_eq f e) [
        | inl same ↦
            rw same (
            omega (
              arith,
              ints,
              price_there set e (c + d) on.0 on.1,
              price_there set e c on.0 on.1,
              price_there (with_price set e c) e d on.0 (omega (arith, on.1, long)),
            )
            )
        | inr apart ↦ omega (arith, ints, price_else set e f (c + d) apart, price_else set e f c apart, price_else (with_price set e c) e f d apart)
      ];
      deadheads = λ x. omega (arith, ints);
      groups = refl;
    }
twice_raised pool set (places.Shore s) c d on = record {
  unit = refl;
  services = refl;
  prices = λ f. omega (arith, ints);
  deadheads = λ x.
      omega (
        arith,
        ints,
        deadhead_after pool set s (c + d) x,
        deadhead_after pool set s c x,
        deadhead_after pool (with_weight set s c) s d x,
        added_twice (crosses_shore pool s x) c d,
      );
  groups = refl;
}

-- Fitting.

pub paying_of : (p : Problem) (pool : List (List ℕ)) (branch : List Decision) (set : Prices) → FitsBranch p pool branch set → IsPaying p pool branch set
paying_of p pool branch set is = record { light = is.fits.not_negative; tours = is.fits.tours }

-- a set that fits still does where tours pay after a raise
pub fits_from_paying : (p : Problem) (pool : List (List ℕ)) (branch : List Decision) (set : Prices) (place : Place) (d : ℕ) → FitsBranch p pool branch set →
    IsPaying p pool branch (raised set place d) → FitsBranch p pool branch (raised set place d)
fits_from_paying p pool branch set (places.Edge e) d is pays = record {
  one_each = add_long e d set.services ∙ is.one_each;
  fits = record { not_negative = pays.light; has_upper = is.fits.has_upper; has_yes = is.fits.has_yes; tours = pays.tours };
}
fits_from_paying p pool branch set (places.Shore s) d is pays = record {
  one_each = is.one_each;
  fits = record { not_negative = pays.light; has_upper = add_upper (rules_of p pool branch).upper s d set.weights is.fits.has_upper; has_yes = is.fits.has_yes; tours = pays.tours };
}

-- the number is within its limits
pub number_most : (set : Prices) (place : Place) → IsPriceSet set → number_at set place ≤ℤ pos 1000000000000000
number_most set (places.Edge e) fine = (price_number set e fine.services).high
number_most set (places.Shore s) fine = (weight_number set.weights s fine.weights).high

number_rises : (p : Problem) (pool : List (List ℕ)) (branch : List Decision) (set other : Prices) (place : Place) → Rises p pool branch set other → number_at set place ≤ℤ number_at other place
number_rises p pool branch set other (places.Edge e) rises = rises.prices e
number_rises p pool branch set other (places.Shore s) rises = rises.weights s

-- so much greater is the number after a raise
pub number_raised : (set : Prices) (place : Place) (d : ℕ) → IsPlaceOn set place → IsPriceSet set → number_at (raised set place d) place ≡ number_at set place +ℤ pos d
number_raised set (places.Edge e) d on fine = price_there set e d on.0 on.1
number_raised set (places.Shore s) d on fine = weight_there 0 s d set.weights (set_above set fine)

-- the number cannot be raised
abbrev pub IsStuck : Problem → List (List ℕ) → List Decision → Prices → Place → Type 0
IsStuck p pool branch set place = (number_at set place ≡ pos 1000000000000000) ⊎ ¬ (FitsBranch p pool branch (raised set place 1))

module _ (there : LeastDeadheadIsThere) (p : Problem) (valid : IsValid p) (pool : List (List ℕ)) (branch : List Decision) where
  -- what could not be raised before cannot be raised when others have risen
  pub stuck_stays : (set other : Prices) (place : Place) → FitsBranch p pool branch set → Rises p pool branch set other → IsPriceSet other → IsPlaceOn set place →
      IsStuck p pool branch set place → IsStuck p pool branch other place
  stuck_stays set other place fits rises fine on (inl most) = inl (omega (arith, ints, most, number_rises p pool branch set other place rises, number_most other place fine))
  stuck_stays set other place fits rises fine on (inr not) =
      inr (λ also.
      not (fits_from_paying p pool branch set place 1 fits
      (paying_falls there p valid pool (raised set place 1) (raised other place 1) (both_raised pool set other place 1 on (below_of p pool branch set other rises)) branch
      (paying_of p pool branch (raised other place 1) also))))

  -- after a raise the way that is left is so much less
  pub blocked_after : (set : Prices) (place : Place) (d most : ℕ) → FitsBranch p pool branch set → IsPlaceOn set place → IsPriceSet set → d ≤ most →
      IsBlocked p pool branch set place most → IsBlocked p pool branch (raised set place d) place (most - d)
  blocked_after set place d most fits on fine less (inl is) = inl (omega (arith, ints, is, number_raised set place d on fine, less))
  blocked_after set place d most fits on fine less (inr not) =
      let same : most + 1 ≡ d + (most - d + 1) = omega (arith, less) in
      inr (λ also.
      not (subst (λ n. FitsBranch p pool branch (raised set place n)) (sym same)
      (fits_from_paying p pool branch set place (d + (most - d + 1)) fits
      (paying_falls there p valid pool (raised set place (d + (most - d + 1))) (raised (raised set place d) place (most - d + 1)) (twice_raised pool set place d (most - d + 1) on) branch
      (paying_of p pool branch (raised (raised set place d) place (most - d + 1)) also)))))
