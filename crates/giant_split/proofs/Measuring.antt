-- One leg more.
use Rattle.std.proofs.Common.{◌≡◌, ℕ, zero, suc, ◌+◌, ◌<◌, ◌≤◌, ◌⊎◌, inl, inr, List, [], ◌∷◌, length, get_or, refl, sym, ap, subst, arith, add-one}
use Rattle.std.specs.Prelude.{slice_set}
use Rattle.std.specs.List.{AllByRecursion}
use Rattle.std.proofs.lemmas.Bool.{cases_lt}
use Rattle.std.proofs.lemmas.List.{get_or-set_same, get_or-set_other}
use Rattle.carp_base.specs.declared.edge.Task.{Task}
use Rattle.carp_base.specs.Problem.{Problem}
use Rattle.deadhead_paths.specs.Prices.{IsLeastPrice}
use Rattle.giant_split.specs.declared.legs.Leg.{Leg}
use Rattle.giant_split.specs.Legs.{IsLeg, IsLegAt, leg_at, load_before, no_leg, way_before}

module _ (p : Problem) (order : List Task) (legs : List Leg) (i : ℕ) (leg : Leg) where
  abbrev longer : List Leg
  longer = slice_set legs i leg

  pub way_same : (k : ℕ) → k ≤ i → way_before longer k ≡ way_before legs k
  way_same zero within = refl
  way_same (suc k) within = ap (λ x. x.way) (get_or-set_other legs i k leg no_leg (omega arith))

  pub load_same : (k : ℕ) → k ≤ i → load_before longer k ≡ load_before legs k
  load_same zero within = refl
  load_same (suc k) within = ap (λ x. x.after) (get_or-set_other legs i k leg no_leg (omega arith))

  placed : (k : ℕ) (x : Leg) → k ≤ i → leg_at longer k ≡ x → IsLeg p order k (way_before legs k) (load_before legs k) x → IsLegAt p order longer k
  placed k x within is one = rw (is, way_same k within, load_same k within) one

  pub legs_more : i < length legs → ((k : ℕ) → k < i → IsLegAt p order legs k) → IsLeg p order i (way_before legs i) (load_before legs i) leg → (k : ℕ) → k < i + 1 → IsLegAt p order longer k
  legs_more below each new k within = one (cases_lt k i)
    where
      one : (k < i) ⊎ (i ≤ k) → IsLegAt p order longer k
      one (inl before) = placed k (leg_at legs k) (omega arith) (get_or-set_other legs i k leg no_leg (omega arith)) (each k before)
      one (inr past) =
          let same : i ≡ k = omega arith in
          subst (IsLegAt p order longer) same (placed i leg (omega arith) (get_or-set_same legs i leg no_leg below) new)

  pub way_now : i < length legs → leg.way ≡ way_before longer (i + 1)
  way_now below = rw add-one (sym (ap (λ x. x.way) (get_or-set_same legs i leg no_leg below)))

  pub load_now : i < length legs → leg.after ≡ load_before longer (i + 1)
  load_now below = rw add-one (sym (ap (λ x. x.after) (get_or-set_same legs i leg no_leg below)))

pub all_at : {X : Type 0} (P : X → Type 0) (xs : List X) (i : ℕ) (d : X) → i < length xs → AllByRecursion P xs → P (get_or xs i d)
all_at P [] i d below all = absurd (omega (arith, below))
all_at P (x ∷ xs) zero d below all = all.0
all_at P (x ∷ xs) (suc i) d below all = all_at P xs i d (omega arith) all.1

pub price_as : (p : Problem) (q : ℕ → ℕ) (a b c d n : ℕ) → a ≡ c → b ≡ d → IsLeastPrice p q a b n → IsLeastPrice p q c d n
price_as p q a b c d n from to least = subst (λ v. IsLeastPrice p q v d n) from (subst (λ v. IsLeastPrice p q a v n) to least)
