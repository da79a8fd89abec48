-- Shores of a list that are placed one after another.
use Rattle.std.proofs.Common.{◌≡◌, ℕ, zero, suc, ◌+◌, ◌<◌, ◌≤◌, List, [], ◌∷◌, ◌++◌, take, length, get_or, sym, ap, ◌∙◌, subst, arith}
use Rattle.std.proofs.lemmas.List.{get_or-map, get_or-take, length-map, length-take-le, map-append, take_more, take_all}
use Rattle.cut_pool.specs.Pools.{Holds, IsHeldAs}
use Rattle.cut_pool.specs.declared.shore.Weighted.{Weighted}
use Rattle.branch_rules.specs.declared.weight.Weight.{Weight}
use Rattle.dual_master.specs.Floors.{shores_of}
use Rattle.dual_master.specs.Pieces.{AreApart, HoldsFirst, weights_from}
use Rattle.dual_master.proofs.Numbers.{weights_push}

module _ (shores : List Weighted) (k : ℕ) (below : k < length shores) (d : Weighted) where
  front_long : length (take k shores) ≡ k
  front_long = length-take-le k shores (omega (arith, below))

  -- the next shore is not among those before it
  held_before : (i : ℕ) → AreApart shores → IsHeldAs (shores_of (take k shores)) (get_or shores k d).shore i → ⊥
  held_before zero apart held = absurd (omega (arith, held.number.from_one))
  held_before (suc j) apart held =
      let inside : j < k = omega (arith, held.number.in_range, length-map (take k shores) (λ (s : Weighted). s.shore), front_long) in
      let read = get_or-map (λ (s : Weighted). s.shore) (take k shores) j d [] (omega (arith, inside, front_long)) in
      let there = ap (λ (s : Weighted). s.shore) (get_or-take k shores j d inside) in
      let one : j ≡ k = apart j k d (omega (arith, inside, below)) below (sym there ∙ sym read ∙ held.same) in
      omega (arith, one, inside)

  pub next_is_new : AreApart shores → Holds (shores_of (take k shores)) (get_or shores k d).shore → ⊥
  next_is_new apart holds = held_before holds.0 apart holds.1

  pub front_more : shores_of (take (k + 1) shores) ≡ shores_of (take k shores) ++ (get_or shores k d).shore ∷ []
  front_more = ap shores_of (take_more shores k d below) ∙ map-append (λ (s : Weighted). s.shore) (take k shores) (get_or shores k d ∷ [])

  pub weights_more : weights_from 1 (take (k + 1) shores) ≡ weights_from 1 (take k shores) ++ record { shore = k + 1; weight = (get_or shores k d).weight } ∷ []
  weights_more = ap (weights_from 1) (take_more shores k d below) ∙ weights_push 1 (take k shores) (get_or shores k d) (k + 1) (omega (arith, front_long))

  pub pool_long : length (shores_of (take k shores)) ≡ k
  pool_long = length-map (take k shores) (λ (s : Weighted). s.shore) ∙ front_long

-- one step of placing: x is the shore at the place k
module _ (shores : List Weighted) (k : ℕ) (x : Weighted) (pool : List (List ℕ)) (at : (k < length shores) × (x ≡ get_or shores k x)) (held : pool ≡ shores_of (take k shores)) where
  pub step_is_new : AreApart shores → Holds pool x.shore → ⊥
  step_is_new apart holds = next_is_new shores k at.0 x apart (subst (λ xs. Holds xs (get_or shores k x).shore) held (subst (λ (y : Weighted). Holds pool y.shore) at.1 holds))

  pub step_has_room : length shores ≤ 2000 → length pool < 2000
  step_has_room few = omega (arith, ap length held, pool_long shores k at.0 x, at.0, few)

  pub step_held : (after : List (List ℕ)) → after ≡ pool ++ x.shore ∷ [] → after ≡ shores_of (take (k + 1) shores)
  step_held after is = is ∙ ap (λ xs. xs ++ x.shore ∷ []) held ∙ ap (λ (y : Weighted). shores_of (take k shores) ++ y.shore ∷ []) at.1 ∙ sym (front_more shores k at.0 x)

  pub step_weights : (weights after : List Weight) (w : Weight) → weights ≡ weights_from 1 (take k shores) → w ≡ record { shore = length pool + 1; weight = x.weight } →
      after ≡ weights ++ w ∷ [] → after ≡ weights_from 1 (take (k + 1) shores)
  step_weights weights after w are is more =
      let long : length pool ≡ k = ap length held ∙ pool_long shores k at.0 x in
      let last : w ≡ record { shore = k + 1; weight = (get_or shores k x).weight } =
      is ∙ ap {B = Weight} (λ n. record { shore = n + 1; weight = x.weight }) long ∙ ap {B = Weight} (λ (y : Weighted). record { shore = k + 1; weight = y.weight }) at.1 in
      more ∙ ap (λ ws. ws ++ w ∷ []) are ∙ ap (λ v. weights_from 1 (take k shores) ++ v ∷ []) last ∙ sym (weights_more shores k at.0 x)

-- a pool of all, of some, and of none
pub first_all : (shores : List Weighted) (pool : List (List ℕ)) → pool ≡ shores_of shores → HoldsFirst shores pool
first_all shores pool is = record { count = length shores; held = is ∙ ap shores_of (sym (take_all (length shores) shores (omega arith))) }

pub first_none : (shores : List Weighted) (pool : List (List ℕ)) → pool ≡ [] → HoldsFirst shores pool
first_none shores pool is = record { count = 0; held = is }

pub first_some : (shores : List Weighted) (pool : List (List ℕ)) (count : ℕ) → pool ≡ shores_of (take count shores) → HoldsFirst shores pool
first_some shores pool count is = record { count = count; held = is }
