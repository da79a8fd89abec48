-- What decisions that say yes to more pairs keep, and what a decision adds that says yes to none.
use Rattle.std.proofs.Common.{◌≡◌, ℕ, Bool, true, false, ◌||◌, List, [], ◌∷◌, ◌++◌, refl, sym, subst, ◌∙◌, inl, inr, ◌⊎◌}
use Rattle.std.specs.List.{list_any}
use Rattle.std.proofs.lemmas.List.Folds.{list_any-append}
use Rattle.std.proofs.lemmas.Bool.{or_cases, or_left, cases_Bool, both_ways}
use Rattle.decision_chains.specs.Exclusions.{says_yes, IsYes, YesPath, HasTwoOthers, Detour}
use Rattle.decision_chains.specs.ChainTables.{yes_of, AreNear, IsTangled, crowded, cyclic, IsLabelled, AreChains}
use Rattle.decision_chains.specs.declared.near.Near.{Near}
use Rattle.decision_chains.specs.declared.near.Near.TheVariants.{Free, One, Two, Many}
use Rattle.decision_chains.specs.declared.decision.Decision.{Decision}
use Rattle.decision_chains.specs.declared.decision.Decision.TheVariants.{Yes, No, Low, High}

-- the first branch says yes to no pair but those of the second
abbrev pub Includes : List Decision → List Decision → Type 0
Includes small large = (a b : ℕ) → IsYes small a b → IsYes large a b

module _ (s t : List Decision) (into : Includes s t) where
  pub path_into : (a b : ℕ) (path : List ℕ) → YesPath s a path b → YesPath t a path b
  path_into a b [] joined = joined
  path_into a b (x ∷ path) joined = (into a x joined.0, path_into x b path joined.1)

  pub detour_into : (a b x y : ℕ) (path : List ℕ) → Detour s a b x path y → Detour t a b x path y
  detour_into a b x y [] joined = joined
  detour_into a b x y (z ∷ path) joined = (into x z joined.0, joined.1, joined.2, detour_into a b z y path joined.3)

  pub two_into : (a b : ℕ) → HasTwoOthers s a b → HasTwoOthers t a b
  two_into a b two = record {
    x = two.x;
    y = two.y;
    x_yes = into a two.x two.x_yes;
    y_yes = into a two.y two.y_yes;
    apart = two.apart;
    x_other = two.x_other;
    y_other = two.y_other;
  }

  pub tangled_into : IsTangled s → IsTangled t
  tangled_into (crowded a b is two) = crowded a b (into a b is) (two_into a b two)
  tangled_into (cyclic a b path apart is detour) = cyclic a b path apart (into a b is) (detour_into a b a b path detour)

-- the same neighbours
pub near_same : (old new : ℕ → Bool) → ((z : ℕ) → old z ≡ true → new z ≡ true) → ((z : ℕ) → new z ≡ true → old z ≡ true) → (near : Near) → AreNear old near → AreNear new near
near_same old new into back Free none = λ z. elim (cases_Bool (new z)) [
  | inl is ↦ absurd (both_ways (old z) (none z) (back z is))
  | inr unlike ↦ unlike
]
near_same old new into back (One x) is = record { near = into x is.near; only = λ z yes. is.only z (back z yes) }
near_same old new into back (Two x y) is = record {
  x_near = into x is.x_near;
  y_near = into y is.y_near;
  apart = is.apart;
  only = λ z yes. is.only z (back z yes);
}
near_same old new into back Many is = record {
  x = is.x;
  y = is.y;
  z = is.z;
  x_near = into is.x is.x_near;
  y_near = into is.y is.y_near;
  z_near = into is.z is.z_near;
  x_y = is.x_y;
  x_z = is.x_z;
  y_z = is.y_z;
}

-- the same pairs are yes
module _ (s t : List Decision) (into : Includes s t) (back : Includes t s) where
  labels_same : (label : ℕ → ℕ) → IsLabelled s label → IsLabelled t label
  labels_same label labelled a b = (
    (λ same. let joined = (labelled a b).0 same in (joined.0, path_into s t into a b joined.0 joined.1)),
    (λ joined. (labelled a b).1 (joined.0, path_into t s back a b joined.0 joined.1)),
  )

  pub chains_same : (m : ℕ) (labels : List ℕ) (near : List Near) (tangled : Bool) → AreChains m s labels near tangled → AreChains m t labels near tangled
  chains_same m labels near tangled is = record {
    labels_long = is.labels_long;
    near_long = is.near_long;
    within = is.within;
    labelled = labels_same _ is.labelled;
    neighbours = λ e. near_same (yes_of s e) (yes_of t e) (into e) (back e) _ (is.neighbours e);
    tangle = (
      (λ yes. tangled_into s t into (is.tangle.0 yes)),
      (λ tangle. is.tangle.1 (tangled_into t s back tangle)),
    );
  }

-- a decision that is no yes
pub says_nothing : (d : Decision) → ((a b : ℕ) → d ≡ Yes a b → ⊥) → (x y : ℕ) → says_yes x y d ≡ false
says_nothing (Yes a b) none x y = absurd (none a b refl)
says_nothing (No a b) none x y = refl
says_nothing (Low shore k) none x y = refl
says_nothing (High shore k) none x y = refl

module _ (branch : List Decision) (d : Decision) where
  pub yes_before : Includes branch (branch ++ d ∷ [])
  yes_before a b is = list_any-append (says_yes a b) branch (d ∷ []) ∙ or_left (list_any (says_yes a b) branch) _ is

  pub yes_last : (a b : ℕ) → IsYes (branch ++ d ∷ []) a b → IsYes branch a b ⊎ (says_yes a b d ≡ true)
  yes_last a b is = elim (or_cases (list_any (says_yes a b) branch) (list_any (says_yes a b) (d ∷ [])) (sym (list_any-append (says_yes a b) branch (d ∷ [])) ∙ is)) [
    | inl old ↦ inl old
    | inr new ↦ inr (one (says_yes a b d) new)
  ]
    where
      one : (b : Bool) → (b || false) ≡ true → b ≡ true
      one true h = refl
      one false h = h

  pub yes_without : ((x y : ℕ) → says_yes x y d ≡ true → IsYes branch x y) → Includes (branch ++ d ∷ []) branch
  yes_without known a b is = elim (yes_last a b is) [ inl old ↦ old | inr new ↦ known a b new ]

  pub chains_without : ((x y : ℕ) → says_yes x y d ≡ true → IsYes branch x y) → (m : ℕ) (labels : List ℕ) (near : List Near) (tangled : Bool) →
      AreChains m branch labels near tangled → AreChains m (branch ++ d ∷ []) labels near (tangled || false)
  chains_without known m labels near tangled before =
      subst (AreChains m (branch ++ d ∷ []) labels near) (same tangled) (chains_same branch (branch ++ d ∷ []) yes_before (yes_without known) m labels near tangled before)
    where
      same : (t : Bool) → t ≡ (t || false)
      same true = refl
      same false = refl
