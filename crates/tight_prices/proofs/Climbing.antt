-- The steps of a search.
use Rattle.std.proofs.Common.{◌≡◌, ℕ, ◌+◌, ◌-◌, ◌≤◌, Bool, true, false, List, length, refl, sym, ap, ◌∙◌, subst, arith, inl, inr, ◌⊎◌, ℤ, pos, ◌+ℤ◌, ◌≤ℤ◌}
use Rattle.std.specs.Prelude.{if◌then◌else◌}
use Rattle.std.specs.List.{All}
use Rattle.std.proofs.lemmas.Int.{ints}
use Rattle.std.proofs.lemmas.List.Elements.{All-weaker}
use Rattle.carp_base.specs.Problem.{IsValid, edge_at}
use Rattle.cut_pool.specs.Pools.{IsShoreNumber, shore_at}
use Rattle.deadhead_paths.specs.Laws.{LeastDeadheadIsThere}
use Rattle.deadhead_paths.specs.Prices.{price_of}
use Rattle.branch_rules.specs.Laws.{FitsBranch}
use Rattle.branch_rules.specs.Limits.{IsPriceSet, IsShoreOf}
use Rattle.branch_rules.specs.Prices.{Prices, crossing_prices, crosses_shore}
use Rattle.branch_rules.specs.declared.weight.Weight.{Weight}
use Rattle.route_pricing.specs.declared.table.Table.{Table}
use Rattle.std.proofs.lemmas.Bool.{false≢true}
use Rattle.tight_prices.specs.Fillings.{IsFilledFor}
use Rattle.tight_prices.specs.Probes.{Ground, IsPaying, ProbeSays}
use Rattle.tight_prices.specs.declared.probe.Probe.{Probe}
use Rattle.tight_prices.specs.declared.probe.Probe.TheVariants.{Pays, Lacks, TooHeavy}
use Rattle.tight_prices.specs.declared.search.Search.{Search}
use Rattle.tight_prices.specs.Places.{IsNumbered, IsPlaceIn, IsPlaceOn, number_at, raised}
use Rattle.tight_prices.specs.Searches.{AreStillMost, IsFitting, IsMost, IsOver, IsSearch}
use Rattle.tight_prices.specs.Tight.{with_weight}
use Rattle.tight_prices.specs.declared.place.Place.{Place}
use Rattle.tight_prices.specs.declared.place.Place.TheVariants as places
use Rattle.tight_prices.proofs.Adding.{add_long}
use Rattle.tight_prices.proofs.Falling.{crossing_is}
use Rattle.tight_prices.proofs.Rising.{blocked_after, deadhead_after, fits_from_paying, number_raised, paying_of}
use Rattle.tight_prices.proofs.Weighed.{add_all}

pub numbers_of : (g : Ground) (set : Prices) → IsFitting g set → All (λ w. IsShoreNumber g.pool w.shore) set.weights
numbers_of g set is = All-weaker (λ (w : Weight). IsShoreOf g.problem g.pool w.shore) (λ (w : Weight). IsShoreNumber g.pool w.shore) (λ w of. of.number) set.weights is.shores

pub place_on : (g : Ground) (set : Prices) (place : Place) → IsFitting g set → IsPlaceIn g.problem g.pool place → IsPlaceOn set place
place_on g set (places.Edge e) is edge = (edge.from_one, omega (arith, edge.in_range, is.fits.one_each))
place_on g set (places.Shore s) is shore = tt

pub place_numbered : (g : Ground) (place : Place) → IsPlaceIn g.problem g.pool place → IsNumbered g.pool place
place_numbered g (places.Edge e) edge = tt
place_numbered g (places.Shore s) shore = shore.number

raised_shores : (g : Ground) (set : Prices) (place : Place) (d : ℕ) → IsPlaceIn g.problem g.pool place → All (λ w. IsShoreOf g.problem g.pool w.shore) set.weights →
    All (λ w. IsShoreOf g.problem g.pool w.shore) (raised set place d).weights
raised_shores g set (places.Edge e) d edge all = all
raised_shores g set (places.Shore s) d shore all =
    add_all (λ (w : Weight). IsShoreOf g.problem g.pool w.shore) s d set.weights (λ some. shore) (λ w is same some. shore) all

pub raised_numbers : (g : Ground) (set : Prices) (place : Place) (d : ℕ) → IsPlaceIn g.problem g.pool place → IsFitting g set → All (λ w. IsShoreNumber g.pool w.shore) (raised set place d).weights
raised_numbers g set place d in' is =
    All-weaker (λ (w : Weight). IsShoreOf g.problem g.pool w.shore) (λ (w : Weight). IsShoreNumber g.pool w.shore) (λ w of. of.number) (raised set place d).weights
    (raised_shores g set place d in' is.shores)

pub raised_long : (g : Ground) (set : Prices) (place : Place) (d : ℕ) → IsFitting g set → length (raised set place d).services ≡ g.problem.required
raised_long g set (places.Edge e) d is = add_long e d set.services ∙ is.fits.one_each
raised_long g set (places.Shore s) d is = is.fits.one_each

pub within_part : (g : Ground) (set : Prices) (place : Place) (d most : ℕ) → IsMost g set place most → d ≤ most → (number_at set place +ℤ pos d) ≤ℤ pos 1000000000000000
within_part g set place d most is less = omega (arith, ints, is.within, less)

module _ (there : LeastDeadheadIsThere) (g : Ground) (valid : IsValid g.problem) (set : Prices) (place : Place) (most d : ℕ) (fitting : IsFitting g set) (in' : IsPlaceIn g.problem g.pool place)
    (is : IsMost g set place most) where
  pub accepted_fits : IsPaying g.problem g.pool g.branch (raised set place d) → IsPriceSet (raised set place d) → IsFitting g (raised set place d)
  accepted_fits pays fine = record {
    fits = fits_from_paying g.problem g.pool g.branch set place d fitting.fits pays;
    shores = raised_shores g set place d in' fitting.shores;
    fine = fine;
  }

  pub accepted_most : d ≤ most → IsMost g (raised set place d) place (most - d)
  accepted_most less =
      let on = place_on g set place fitting in' in
      record {
        within = omega (arith, ints, number_raised set place d on fitting.fine, is.within, less);
        blocked = blocked_after there g.problem valid g.pool g.branch set place d most fitting.fits on fitting.fine less is.blocked;
      }

  pub refused_most : 1 ≤ d → d ≤ most → (IsPaying g.problem g.pool g.branch (raised set place d) → ⊥) → IsMost g set place (d - 1)
  refused_most some less not =
      let same : d - 1 + 1 ≡ d = omega (arith, some) in
      record {
        within = omega (arith, ints, is.within, less);
        blocked = inr (λ fits. not (paying_of g.problem g.pool g.branch (raised set place d) (subst (λ n. FitsBranch g.problem g.pool g.branch (raised set place n)) same fits)));
      }

-- Shores.

crossed_by : (b : Bool) (d : ℕ) → b ≡ true → (if b then pos d else pos 0) ≡ pos d
crossed_by true d is = refl
crossed_by false d is = absurd (cc)

-- raised by more than the least price of an edge across the shore, a weight does not fit
over_blocks : (g : Ground) (set : Prices) (s n : ℕ) (prices : List ℕ) → IsFitting g set → prices ≡ crossing_prices g.problem g.pool set → IsOver g.problem (shore_at g.pool s) prices n →
    FitsBranch g.problem g.pool g.branch (with_weight set s (n + 1)) → ⊥
over_blocks g set s n prices fitting are over fits =
    let x = edge_at g.problem over.e in
    omega (
      arith,
      ints,
      fits.fits.not_negative over.e over.number,
      deadhead_after g.pool set s (n + 1) x,
      crossed_by (crosses_shore g.pool s x) (n + 1) over.crossed,
      crossing_is g.problem g.pool set over.e over.number (fitting.fits.fits.not_negative over.e over.number),
      over.price,
      ap (λ qs. price_of qs over.e) are,
    )

pub across_most : (g : Ground) (set : Prices) (s most n : ℕ) (vertices prices : List ℕ) → IsFitting g set → vertices ≡ shore_at g.pool s → prices ≡ crossing_prices g.problem g.pool set →
    (number_at set (places.Shore s) +ℤ pos most) ≡ pos 1000000000000000 → n ≤ most → (n ≡ most) ⊎ IsOver g.problem vertices prices n → IsMost g set (places.Shore s) n
across_most g set s most n vertices prices fitting of are whole less (inl same) = record {
  within = omega (arith, ints, whole, less);
  blocked = inl (omega (arith, ints, whole, same));
}
across_most g set s most n vertices prices fitting of are whole less (inr over) = record {
  within = omega (arith, ints, whole, less);
  blocked = inr (over_blocks g set s n prices fitting are (subst (λ vs. IsOver g.problem vs prices n) of over));
}

-- the number can be raised to the greatest one at most
pub whole_most : (g : Ground) (set : Prices) (place : Place) (most : ℕ) → (number_at set place +ℤ pos most) ≡ pos 1000000000000000 → IsMost g set place most
whole_most g set place most whole = record { within = omega (arith, ints, whole); blocked = inl whole }

-- One try.

module _ (there : LeastDeadheadIsThere) (g : Ground) (valid : IsValid g.problem) (place : Place) (old table : Table) (x y : Search) (trial : Prices) (more : ℕ)
    (in' : IsPlaceIn g.problem g.pool place) (is : IsSearch g place old x) (made : trial ≡ raised x.set place more) (less : more ≤ x.most) where
  -- the trial fits, and is held
  pub climbed : IsPriceSet trial → (found : Probe) → found ≡ Pays → ProbeSays g trial table found → y.set ≡ trial → AreStillMost table place (x.most - more) y.most → IsSearch g place table y
  climbed fine found pays says held still =
      let high = raised x.set place more in
      let same : y.set ≡ high = held ∙ made in
      let says' : ProbeSays g high table Pays = subst (λ s. ProbeSays g s table Pays) made (subst (ProbeSays g trial table) pays says) in
      let fitting : IsFitting g high = accepted_fits there g valid x.set place x.most more is.fitting in' is.most says'.0 (subst IsPriceSet made fine) in
      let most : IsMost g high place y.most = still g high says'.1 fitting.fits.one_each (accepted_most there g valid x.set place x.most more is.fitting in' is.most less) in
      record {
        fitting = subst (IsFitting g) (sym same) fitting;
        most = subst (λ s. IsMost g s place y.most) (sym same) most;
        filled = λ so. subst (λ s. IsFilledFor g.problem g.pool g.branch s table) (sym same) says'.1;
      }

  -- the trial does not fit, and the way that is left is shorter
  pub stayed : 1 ≤ more → (IsPaying g.problem g.pool g.branch trial → ⊥) → y.set ≡ x.set → y.most ≡ more - 1 → y.filled ≡ false → IsSearch g place table y
  stayed some not held most unfilled =
      let bound : IsMost g x.set place (more - 1) =
      refused_most there g valid x.set place x.most more is.fitting in' is.most some less (λ pays. not (subst (IsPaying g.problem g.pool g.branch) (sym made) pays)) in
      record {
        fitting = subst (IsFitting g) (sym held) is.fitting;
        most = subst (λ s. IsMost g s place y.most) (sym held) (subst (IsMost g x.set place) (sym most) bound);
        filled = λ so. absurd (false≢true (sym unfilled ∙ so));
      }

pub lacks_not : (g : Ground) (set : Prices) (table : Table) (found : Probe) (value : ℤ) → found ≡ Lacks value → ProbeSays g set table found → IsPaying g.problem g.pool g.branch set → ⊥
lacks_not g set table found value is says = (subst (ProbeSays g set table) is says).0

pub heavy_not : (g : Ground) (set : Prices) (table : Table) (found : Probe) → found ≡ TooHeavy → ProbeSays g set table found → IsPaying g.problem g.pool g.branch set → ⊥
heavy_not g set table found is says pays = subst (ProbeSays g set table) is says pays.light
