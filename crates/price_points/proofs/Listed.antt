-- One more weight at the end of a list of weights.
use Rattle.std.proofs.Common.{◌≡◌, ◌≢◌, ℕ, ◌+◌, ◌<◌, List, [], ◌∷◌, ◌++◌, length, map, get_or, arith, inl, inr, ℤ, pos, sym, subst}
use Rattle.std.specs.List.{All}
use Rattle.std.specs.List.Sorted.{IsStrictlyIncreasing}
use Rattle.std.proofs.lemmas.Bool.{cases_lt}
use Rattle.std.proofs.lemmas.List.{get_or_append_left, get_or_push, length_push, map-append}
use Rattle.std.proofs.lemmas.List.Elements.{All-append, All-cons, All-map, All-nil, All-weaker}
use Rattle.branch_rules.specs.Limits.{IsFineWeight, IsPriceNumber}
use Rattle.branch_rules.specs.declared.weight.Weight.{Weight}
use Rattle.price_points.specs.Weights.{AreListed}

rising_push : (xs : List ℕ) (y : ℕ) → IsStrictlyIncreasing xs → All (λ x. x < y) xs → IsStrictlyIncreasing (xs ++ y ∷ [])
rising_push xs y up below k less = elim (cases_lt (k + 1) (length xs)) [
  | inl before ↦
      let first : get_or (xs ++ y ∷ []) k 0 ≡ get_or xs k 0 = get_or_append_left xs (y ∷ []) 0 k (omega (arith, before)) in
      let second : get_or (xs ++ y ∷ []) (k + 1) 0 ≡ get_or xs (k + 1) 0 = get_or_append_left xs (y ∷ []) 0 (k + 1) before in
      omega (arith, first, second, up k before)
  | inr last ↦
      let here : k < length xs = omega (arith, less, length_push xs y) in
      let end : length xs ≡ k + 1 = omega (arith, here, last) in
      let first : get_or (xs ++ y ∷ []) k 0 ≡ get_or xs k 0 = get_or_append_left xs (y ∷ []) 0 k here in
      let second : get_or (xs ++ y ∷ []) (k + 1) 0 ≡ y = get_or_push xs y 0 (k + 1) end in
      omega (arith, first, second, below k 0 here)
]

pub still_listed : (limit : ℕ) (weights : List Weight) → AreListed limit weights → AreListed (limit + 1) weights
still_listed limit weights are = record {
  fine = are.fine;
  below = All-weaker (λ (w : Weight). w.shore < limit) (λ (w : Weight). w.shore < limit + 1) (λ w less. omega (arith, less)) weights are.below;
  rising = are.rising;
  few = omega (arith, are.few);
}

pub one_more : (limit : ℕ) (weights : List Weight) (weight : ℤ) → AreListed limit weights → IsPriceNumber weight → weight ≢ pos 0 → AreListed (limit + 1) (weights ++ record { shore = limit; weight = weight } ∷ [])
one_more limit weights weight are within some =
    let last : Weight = record { shore = limit; weight = weight } in
    let fine : IsFineWeight last = record {
      from_one = omega (arith, are.few);
      some = some;
      within = within;
    } in
    let numbers : All (λ x. x < limit) (map (λ w. w.shore) weights) = All-map (λ x. x < limit) (λ (w : Weight). w.shore) weights are.below in
    record {
      fine = All-append IsFineWeight weights (last ∷ []) are.fine (All-cons IsFineWeight last [] fine (All-nil IsFineWeight));
      below = All-append (λ (w : Weight). w.shore < limit + 1) weights (last ∷ []) (still_listed limit weights are).below
          (All-cons (λ (w : Weight). w.shore < limit + 1) last [] (omega arith) (All-nil (λ (w : Weight). w.shore < limit + 1)));
      rising = subst IsStrictlyIncreasing (sym (map-append (λ (w : Weight). w.shore) weights (last ∷ []))) (rising_push (map (λ w. w.shore) weights) limit are.rising numbers);
      few = omega (arith, are.few, length_push weights last);
    }
