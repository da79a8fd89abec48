-- A pool that grows leaves each set as it was whose shores it held.
use Rattle.std.proofs.Common.{◌≡◌, ℕ, zero, suc, ◌*◌, max, List, [], ◌∷◌, ◌++◌, map, sym, ap, ◌∙◌, subst, refl, arith, ℤ, pos, ◌+ℤ◌, ◌-ℤ◌, ◌≤ℤ◌, nat_abs}
use Rattle.std.specs.Prelude.{if◌then◌else◌, unwrap_or}
use Rattle.std.specs.List.{All}
use Rattle.std.proofs.Math.Path.{fun_ext}
use Rattle.std.proofs.lemmas.List.{get_or_append_left}
use Rattle.std.proofs.lemmas.List.Elements.{All-head, All-tail, All-weaker}
use Rattle.carp_base.specs.declared.edge.Edge.{Edge}
use Rattle.carp_base.specs.Problem.{Problem, edge_at}
use Rattle.plan_model.specs.Plans.{crosses}
use Rattle.deadhead_paths.specs.Prices.{price_of}
use Rattle.cut_pool.specs.Pools.{IsShoreNumber, shore_at}
use Rattle.cut_pool.specs.Shores.{is_in, need, required_crossings}
use Rattle.decision_chains.specs.Exclusions.{Excluded}
use Rattle.decision_chains.specs.declared.decision.Decision.{Decision}
use Rattle.branch_rules.specs.declared.weight.Weight.{Weight}
use Rattle.branch_rules.specs.Decisions.{highest, lowest, rules_of, to_parity}
use Rattle.branch_rules.specs.Laws.{FitsBranch}
use Rattle.branch_rules.specs.Prices.{room_weight, PaysAtLeast, Prices, crossing_prices, crossing_weight, deadhead_price, signed_sum, task_adds, value_of, weigh, weight_value}
use Rattle.dual_master.specs.Growth.{GrowthKeepsSets}

pub grown_at : (pool more : List (List ℕ)) (i : ℕ) → IsShoreNumber pool i → shore_at (pool ++ more) i ≡ shore_at pool i
grown_at pool more zero is = absurd (omega (arith, is.from_one))
grown_at pool more (suc k) is = get_or_append_left pool more [] k (omega (arith, is.in_range))

sum_same : {X : Type 0} (f g : X → ℤ) (xs : List X) → All (λ x. f x ≡ g x) xs → signed_sum f xs ≡ signed_sum g xs
sum_same f g [] all = refl
sum_same f g (x ∷ xs) all =
    ap (λ z. z +ℤ signed_sum f xs) (All-head (λ y. f y ≡ g y) x xs all) ∙ ap (λ s. g x +ℤ s) (sum_same f g xs (All-tail (λ y. f y ≡ g y) x xs all))

module _ (p : Problem) (pool more : List (List ℕ)) (branch : List Decision) (set : Prices) (all : All (λ w. IsShoreNumber pool w.shore) set.weights) where
  across_same : (x : Edge) (w : Weight) → IsShoreNumber pool w.shore → crossing_weight (pool ++ more) x w ≡ crossing_weight pool x w
  across_same x w is = ap (λ shore. if crosses (is_in shore) x then w.weight else pos 0) (grown_at pool more w.shore is)

  deadhead_same : (x : Edge) → deadhead_price (pool ++ more) set x ≡ deadhead_price pool set x
  deadhead_same x =
      ap (λ s. pos (set.unit * x.cost) -ℤ s)
      (sum_same (crossing_weight (pool ++ more) x) (crossing_weight pool x) set.weights
      (All-weaker (λ (w : Weight). IsShoreNumber pool w.shore) (λ (w : Weight). crossing_weight (pool ++ more) x w ≡ crossing_weight pool x w) (across_same x) set.weights all))

  crossing_same : crossing_prices p (pool ++ more) set ≡ crossing_prices p pool set
  crossing_same = ap (λ (f : Edge → ℤ). map (λ x. nat_abs (f x)) p.edges) (fun_ext deadhead_same)

  pub fits_as_before : FitsBranch p pool branch set → FitsBranch p (pool ++ more) branch set
  fits_as_before fits = record {
    one_each = fits.one_each;
    fits = record {
      not_negative = λ e is. subst (λ z. pos 0 ≤ℤ z) (sym (deadhead_same (edge_at p e))) (fits.fits.not_negative e is);
      has_upper = fits.fits.has_upper;
      has_yes = fits.fits.has_yes;
      tours = subst (λ prices. PaysAtLeast p (λ a b. ¬ (Excluded p branch a b)) (task_adds p set) (price_of prices) set.groups) (sym crossing_same) fits.fits.tours;
    };
  }

  pub fitted_before : FitsBranch p (pool ++ more) branch set → FitsBranch p pool branch set
  fitted_before fits = record {
    one_each = fits.one_each;
    fits = record {
      not_negative = λ e is. subst (λ z. pos 0 ≤ℤ z) (deadhead_same (edge_at p e)) (fits.fits.not_negative e is);
      has_upper = fits.fits.has_upper;
      has_yes = fits.fits.has_yes;
      tours = subst (λ prices. PaysAtLeast p (λ a b. ¬ (Excluded p branch a b)) (task_adds p set) (price_of prices) set.groups) crossing_same fits.fits.tours;
    };
  }

  counts_same : (w : Weight) → IsShoreNumber pool w.shore → weight_value (rules_of p (pool ++ more) branch) w ≡ weight_value (rules_of p pool branch) w
  counts_same w is =
      ap (λ shore. weigh w.weight (to_parity (required_crossings p (is_in shore)) (max (need p (is_in shore)) (highest w.shore branch))) (unwrap_or (lowest w.shore branch) 0)) (grown_at pool more w.shore is)

  pub value_as_before : value_of (rules_of p (pool ++ more) branch) set ≡ value_of (rules_of p pool branch) set
  value_as_before =
      ap (λ s. (signed_sum (λ z. z) set.services +ℤ s) -ℤ room_weight (rules_of p pool branch) set.groups)
      (sum_same (weight_value (rules_of p (pool ++ more) branch)) (weight_value (rules_of p pool branch)) set.weights
      (All-weaker (λ (w : Weight). IsShoreNumber pool w.shore) (λ (w : Weight). weight_value (rules_of p (pool ++ more) branch) w ≡ weight_value (rules_of p pool branch) w) counts_same set.weights all))

pub growth_law : GrowthKeepsSets
growth_law p pool more branch set all = record {
  fits = fits_as_before p pool more branch set all;
  fitted = fitted_before p pool more branch set all;
  value = value_as_before p pool more branch set all;
}
