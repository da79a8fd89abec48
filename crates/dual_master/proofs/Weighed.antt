-- Shores that were placed in order have one weight each.
use Rattle.std.proofs.Common.{◌≡◌, ℕ, zero, suc, ◌+◌, ◌<◌, List, [], ◌∷◌, length, sym, subst, arith, slice_index_or}
use Rattle.std.proofs.lemmas.List.{length-map}
use Rattle.carp_base.specs.Problem.{Problem}
use Rattle.cut_pool.specs.declared.shore.Weighted.{Weighted}
use Rattle.branch_rules.specs.Prices.{no_weight}
use Rattle.dual_master.specs.Floors.{WeighsEach, shores_of}
use Rattle.dual_master.specs.Pieces.{prices_of, weights_from}

weights_long : (n : ℕ) (shores : List Weighted) → length (weights_from n shores) ≡ length shores
weights_long n [] = omega arith
weights_long n (s ∷ shores) = omega (arith, weights_long (suc n) shores)

weight_number : (n : ℕ) (shores : List Weighted) (i : ℕ) → i < length shores → (slice_index_or (weights_from n shores) i no_weight).shore ≡ n + i
weight_number n [] i below = absurd (omega (arith, below))
weight_number n (s ∷ shores) zero below = omega arith
weight_number n (s ∷ shores) (suc i) below = omega (arith, weight_number (suc n) shores i (omega (arith, below)))

pub weighs_each : (p : Problem) (unit : ℕ) (shores : List Weighted) (pool : List (List ℕ)) → pool ≡ shores_of shores → WeighsEach pool (prices_of p unit shores)
weighs_each p unit shores pool held =
    let long : length pool ≡ length shores = subst (λ (xs : List (List ℕ)). length xs ≡ length shores) (sym held) (length-map shores (λ (s : Weighted). s.shore)) in
    record {
      one_each = omega (arith, weights_long 1 shores, long);
      numbers = λ i below. omega (arith, weight_number 1 shores i (omega (arith, below, long)));
    }
