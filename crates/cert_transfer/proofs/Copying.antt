-- A pool that is copied shore by shore.
use Rattle.std.proofs.Common.{◌≡◌, ℕ, zero, suc, ◌-◌, ◌≤◌, ◌<◌, List, [], length, take, sym, ap, subst, ◌∙◌, arith}
use Rattle.std.proofs.lemmas.List.{get_or-take, length-take}
use Rattle.cut_pool.specs.Pools.{AreDifferent, IsHeldAs, shore_at}
use Rattle.cert_transfer.specs.Copies.{MayPlace}

module _ (pool : List (List ℕ)) (different : AreDifferent pool) (few : length pool ≤ 2000) (k : ℕ) (within : k < length pool) where
  front_long : length (take k pool) ≡ k
  front_long = omega (arith, length-take k pool, within)

  not_held : (i : ℕ) → IsHeldAs (take k pool) (shore_at pool (suc k)) i → ⊥
  not_held zero held = omega (arith, held.number.from_one)
  not_held (suc i) held =
      let low : i < k = omega (arith, held.number.in_range, front_long) in
      let same : shore_at pool (suc i) ≡ shore_at pool (suc k) = sym (get_or-take k pool i [] low) ∙ held.same in
      let one : suc i ≡ suc k =
      different (suc i) (suc k) (record { from_one = omega arith; in_range = omega (arith, low, within) }) (record { from_one = omega arith; in_range = omega (arith, within) }) same in
      omega (arith, one, low)

  may_place : MayPlace (take k pool) (shore_at pool (suc k))
  may_place = record { new = λ held. not_held held.0 held.1; room = omega (arith, front_long, within, few) }

pub next_place : (pool copy : List (List ℕ)) (shore : List ℕ) (number : ℕ) → AreDifferent pool → length pool ≤ 2000 → 1 ≤ number → number ≤ length pool →
    copy ≡ take (number - 1) pool → shore ≡ shore_at pool number → MayPlace copy shore
next_place pool copy shore zero different few some within are is = absurd (omega (arith, some))
next_place pool copy shore (suc k) different few some within are is =
    let before : suc k - 1 ≡ k = omega arith in
    subst (λ x. MayPlace x shore) (sym (are ∙ ap (λ n. take n pool) before)) (subst (λ x. MayPlace (take k pool) x) (sym is) (may_place pool different few k (omega (arith, within))))
