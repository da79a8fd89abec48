-- Leaves of a tree that is carried over show what they showed.
use Rattle.std.proofs.Common.{◌≡◌, ℕ, zero, suc, ◌<◌, ◌≤◌, List, [], ◌∷◌, refl, sym, subst, ◌∙◌, arith, inl, inr, ◌⊎◌, Some, ℤ, pos, negsuc, ◌-ℤ◌, ◌*ℤ◌, ◌≤ℤ◌, ◌<ℤ◌}
use Rattle.std.specs.Prelude.{unwrap_or}
use Rattle.std.proofs.Math.Nat.{mul-le-mul_left}
use Rattle.std.proofs.lemmas.Int.{ints}
use Rattle.carp_base.specs.Problem.{Problem, IsRequired}
use Rattle.decision_chains.specs.Exclusions.{IsDetermined}
use Rattle.decision_chains.specs.declared.decision.Decision.{Decision}
use Rattle.branch_rules.specs.declared.weight.Weight.{Weight}
use Rattle.branch_rules.specs.Decisions.{lowest, lower_of, rules_of, IsFixed, IsVoid, three, cycle, heavy_chain, crossed}
use Rattle.branch_rules.specs.Prices.{Prices, signed_sum, value_of, weigh, weight_value}
use Rattle.branch_rules.specs.Trees.{Support, PricesShow, PriceShows, FixedShows, set_at}
use Rattle.tree_transfer.specs.Carried.{FixedWouldShow}
use Rattle.tree_transfer.proofs.Chaining.{two_over, detour_over, heavy_over}
use Rattle.tree_transfer.proofs.Following.{Known, Follows}

-- Values.

weighs_more : (w : ℤ) (low more high new : ℕ) → low ≤ more → new ≡ high → weigh w low high ≤ℤ weigh w more new
weighs_more (pos w) low more high new rises is = omega (arith, ints, mul-le-mul_left w rises)
weighs_more (negsuc w) low more high new rises is = subst (λ m. (negsuc w *ℤ pos high) ≤ℤ (negsuc w *ℤ pos m)) (sym is) (omega (arith, ints))

sum_rises : (f g : Weight → ℤ) (ws : List Weight) → ((w : Weight) → f w ≤ℤ g w) → signed_sum f ws ≤ℤ signed_sum g ws
sum_rises f g [] each = omega (arith, ints)
sum_rises f g (w ∷ ws) each = omega (arith, ints, each w, sum_rises f g ws each)

shows_yet : (x v w : ℤ) → x <ℤ v → v ≤ℤ w → x <ℤ w
shows_yet x v w above rises = omega (arith, ints, above, rises)

module _ (p q : Problem) (pool : List (List ℕ)) (known : Known p q) (old new : List Decision) (follows : Follows p q pool old new) where
  weight_rises : (w : Weight) → weight_value (rules_of p pool old) w ≤ℤ weight_value (rules_of q pool new) w
  weight_rises w =
      weighs_more w.weight (lower_of p pool old w.shore) (lower_of q pool new w.shore) (unwrap_or (lowest w.shore old) 0) (unwrap_or (lowest w.shore new) 0)
      (follows.numbers.lower w.shore) (subst (λ o. unwrap_or o 0 ≡ unwrap_or (lowest w.shore old) 0) (sym (follows.numbers.upper w.shore)) refl)

  value_rises : (set : Prices) → value_of (rules_of p pool old) set ≤ℤ value_of (rules_of q pool new) set
  value_rises set = omega (arith, ints, sum_rises (weight_value (rules_of p pool old)) (weight_value (rules_of q pool new)) set.weights weight_rises, known.rooms p q pool old new known.valid_old known.valid_new known.rise set.groups)

  abbrev before : List Prices → Support
  before sets = record { problem = p; pool = pool; sets = sets }

  abbrev after : List Prices → Support
  after sets = record { problem = q; pool = pool; sets = sets }

  set_shows : (sets : List Prices) (set : Prices) (bound : ℕ) → PricesShow (before sets) old set bound → PricesShow (after sets) new set bound
  set_shows sets set bound shown = record {
    fits = known.fits p q pool old new set known.valid_old known.valid_new known.rise follows.numbers.upper follows.chains.yes_to follows.chains.excluded shown.fits;
    above =
        shows_yet (pos set.unit *ℤ (pos bound -ℤ pos 1)) (value_of (rules_of p pool old) set) (value_of (rules_of q pool new) set) shown.above (value_rises set);
  }

  pub price_shows : (sets : List Prices) (bound set : ℕ) → PriceShows (before sets) old bound set → PriceShows (after sets) new bound set
  price_shows sets bound zero shown = absurd (omega (arith, shown.0))
  price_shows sets bound (suc k) shown = (shown.0, shown.1, set_shows sets (set_at (before sets) (suc k)) bound shown.2)

  -- Void leaves stay void, and fixed ones fixed.

  pub void_stays : IsVoid p pool old → IsVoid q pool new
  void_stays (three a b says others) = three a b (follows.chains.yes_to a b says) (two_over old new follows.chains.yes_to a b others)
  void_stays (cycle a b path apart says detour) = cycle a b path apart (follows.chains.yes_to a b says) (detour_over old new follows.chains.yes_to a b a path b detour)
  void_stays (heavy_chain a heavy) = heavy_chain a (heavy_over p q known.valid_new known.rise old new follows.chains.yes_to a a heavy)
  void_stays (crossed shore k low less) = crossed shore k (follows.numbers.upper shore ∙ low) (omega (arith, less, follows.numbers.lower shore))

  crossed_before : (shore k : ℕ) → ¬ (IsVoid p pool old) → lowest shore old ≡ Some k → k < lower_of q pool new shore → (k < lower_of p pool old shore) ⊎ (lower_of q pool new shore ≤ k) → ⊥
  crossed_before shore k fine low past (inl less) = fine (crossed shore k low less)
  crossed_before shore k fine low past (inr more) = omega (arith, past, more)

  open_stays : ¬ (IsVoid p pool old) → ¬ (IsVoid q pool new)
  open_stays fine (three a b says others) = fine (three a b (follows.chains.yes_from a b says) (two_over new old follows.chains.yes_from a b others))
  open_stays fine (cycle a b path apart says detour) =
      fine (cycle a b path apart (follows.chains.yes_from a b says) (detour_over new old follows.chains.yes_from a b a path b detour))
  open_stays fine (heavy_chain a heavy) = follows.chains.light a heavy
  open_stays fine (crossed shore k low past) =
      let low_before : lowest shore old ≡ Some k = sym (follows.numbers.upper shore) ∙ low in
      crossed_before shore k fine low_before past (follows.numbers.uncrossed shore k low_before)

  required_before : (e : ℕ) → IsRequired q e → IsRequired p e
  required_before e is = record { from_one = is.from_one; in_range = subst (λ m. e ≤ m) known.rise.required is.in_range }

  settled_yet : (a b : ℕ) → IsDetermined p old a b → IsDetermined q new a b
  settled_yet a b (inl says) = inl (follows.chains.yes_to a b says)
  settled_yet a b (inr excluded) = inr (follows.chains.excluded a b excluded)

  fixed_stays : IsFixed p pool old → IsFixed q pool new
  fixed_stays is = record { open_yet = open_stays is.open_yet; settled = λ a b a_in b_in. settled_yet a b (is.settled a b (required_before a a_in) (required_before b b_in)) }

  pub fixed_shows : (sets : List Prices) (bound : ℕ) → FixedShows (before sets) old bound → FixedWouldShow (after sets) new bound
  fixed_shows sets bound shown = record {
    settled = fixed_stays shown.settled;
    enough = λ value has.
        omega (
          arith,
          shown.enough,
          known.values p q old new shown.value value known.rise (λ a b. (follows.chains.yes_from a b, follows.chains.yes_to a b)) follows.chains.required shown.fixed has,
        );
  }
