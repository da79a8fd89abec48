-- Which sets are made.
use Rattle.std.proofs.Common.{◌≡◌, ℕ, suc, List, [], ◌∷◌, length, map, refl, ap, ◌∙◌, arith, inl, inr, ℤ}
use Rattle.carp_base.specs.Problem.{Problem, IsValid}
use Rattle.cut_pool.specs.declared.shore.Weighted.{Weighted}
use Rattle.branch_rules.specs.declared.weight.Weight.{Weight}
use Rattle.branch_rules.specs.Prices.{Prices}
use Rattle.dual_master.specs.Floors.{IsLeastCostRatio, shores_of}
use Rattle.dual_master.specs.Pieces.{prices_at, prices_of, ratio_set, weights_from}
use Rattle.dual_master.specs.Sets.{IsRatioSet, WeighsShores}
use Rattle.dual_master.proofs.Packed.{serves_at_cost}
use Rattle.dual_master.proofs.Sums.{price_at, prices_long}

same_weights : (n : ℕ) (shores : List Weighted) → map (λ (w : Weight). w.weight) (weights_from n shores) ≡ map (λ (s : Weighted). s.weight) shores
same_weights n [] = refl
same_weights n (s ∷ shores) = ap (λ (zs : List ℤ). s.weight ∷ zs) (same_weights (suc n) shores)

pub weighs_shores : (p : Problem) (unit : ℕ) (shores : List Weighted) (pool : List (List ℕ)) → IsValid p → pool ≡ shores_of shores → WeighsShores p unit pool shores (prices_of p unit shores)
weighs_shores p unit shores pool valid held = record {
  denominator = refl;
  services = serves_at_cost p unit shores valid;
  held = held;
  weights = same_weights 1 shores;
}

none_there : (zs : List ℤ) → length zs ≡ 0 → zs ≡ []
none_there [] none = refl
none_there (z ∷ zs) none = absurd (omega (arith, none))

-- a set of these prices alone, with the denominator 1
abbrev priced : List ℤ → Prices
priced zs = record { unit = 1; services = zs; weights = []; groups = [] }

pub nothing_made : (p : Problem) → IsValid p → p.required ≡ 0 → IsRatioSet p (ratio_set p 0 1)
nothing_made p valid none = inl (none, ap priced (none_there (prices_at p 1 0) (prices_long p 1 0 valid ∙ none)))

pub ratio_made : (p : Problem) (deadhead load : ℕ) → IsValid p → IsLeastCostRatio p deadhead load → IsRatioSet p (ratio_set p deadhead load)
ratio_made p deadhead load valid least =
    inr (record {
      deadhead = deadhead;
      load = load;
      least = least;
      denominator = refl;
      one_each = prices_long p load deadhead valid;
      prices = λ e is. price_at p (ratio_set p deadhead load) load deadhead e valid refl is;
      no_weights = refl;
    })
