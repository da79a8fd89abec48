-- The next yes neighbour on a way along yes pairs.
use Rattle.std.proofs.Common.{◌≡◌, ◌≢◌, ℕ, ◌==◌, Bool, true, false, Option, Some, None, List, refl, sym, ◌∙◌, subst, inl, inr, ◌⊎◌}
use Rattle.std.specs.Prelude.{if◌then◌else◌}
use Rattle.std.proofs.lemmas.Bool.{eqb-true, eqb-false, both_ways, false_from_ne_true}
use Rattle.decision_chains.specs.Exclusions.{IsYes, IsChainEnd, LeadsOn}
use Rattle.decision_chains.specs.ChainTables.{yes_of, AreNear, near_at, near_besides, is_many, IsChainTable}
use Rattle.decision_chains.specs.declared.chains.Chains.{Chains}
use Rattle.decision_chains.specs.declared.near.Near.{Near}
use Rattle.decision_chains.specs.declared.near.Near.TheVariants.{Free, One, Two, Many}
use Rattle.decision_chains.specs.declared.decision.Decision.{Decision}
use Rattle.decision_chains.proofs.Neighbouring.{many_tangle}

-- the next neighbour
module _ (branch : List Decision) (e b n : ℕ) where
  pub besides_yes : (near : Near) → AreNear (yes_of branch e) near → near_besides near b ≡ Some n → IsYes branch e n × (n ≢ b)
  besides_yes Free is some = cc
  besides_yes (One x) is some = go (x == b) refl some
    where
      go : (t : Bool) → (x == b) ≡ t → (if t then None else Some x) ≡ Some n → IsYes branch e n × (n ≢ b)
      go true same found = cc
      go false other found = let x_n : x ≡ n = cc in (subst (IsYes branch e) x_n is.near, λ n_b. eqb-false x b other (x_n ∙ n_b))
  besides_yes (Two x y) is some = go (x == b) refl some
    where
      go : (t : Bool) → (x == b) ≡ t → (if t then Some y else Some x) ≡ Some n → IsYes branch e n × (n ≢ b)
      go true same found = let y_n : y ≡ n = cc in (subst (IsYes branch e) y_n is.y_near, λ n_b. is.apart (eqb-true x b same ∙ sym n_b ∙ sym y_n))
      go false other found = let x_n : x ≡ n = cc in (subst (IsYes branch e) x_n is.x_near, λ n_b. eqb-false x b other (x_n ∙ n_b))
  besides_yes Many is some = cc

  pub besides_only : IsYes branch e b ⊎ IsChainEnd branch e → (near : Near) → AreNear (yes_of branch e) near → near_besides near b ≡ Some n → (z : ℕ) → IsYes branch e z → (z ≡ b) ⊎ (z ≡ n)
  besides_only way Free is some = λ z is_yes. cc
  besides_only way (One x) is some = λ z is_yes. go (x == b) refl some z is_yes
    where
      go : (t : Bool) → (x == b) ≡ t → (if t then None else Some x) ≡ Some n → (z : ℕ) → IsYes branch e z → (z ≡ b) ⊎ (z ≡ n)
      go true same found z is_yes = cc
      go false other found z is_yes = let x_n : x ≡ n = cc in inr (is.only z is_yes ∙ x_n)
  besides_only way (Two x y) is some = λ z is_yes. go (x == b) refl some z is_yes
    where
      go : (t : Bool) → (x == b) ≡ t → (if t then Some y else Some x) ≡ Some n → (z : ℕ) → IsYes branch e z → (z ≡ b) ⊎ (z ≡ n)
      go true same found z is_yes = let y_n : y ≡ n = cc in elim (is.only z is_yes) [ inl z_x ↦ inl (z_x ∙ eqb-true x b same) | inr z_y ↦ inr (z_y ∙ y_n) ]
      go false other found z is_yes = let x_n : x ≡ n = cc in elim (is.only z is_yes) [
        | inl z_x ↦ inr (z_x ∙ x_n)
        | inr z_y ↦ elim way [
          | inl b_yes ↦ elim (is.only b b_yes) [ inl b_x ↦ absurd (eqb-false x b other (sym b_x)) | inr b_y ↦ inl (z_y ∙ sym b_y) ]
          | inr end ↦ absurd (is.apart (end x y is.x_near is.y_near))
        ]
      ]
  besides_only way Many is some = λ z is_yes. cc

pub besides_none : (branch : List Decision) (e b : ℕ) (near : Near) → is_many near ≡ false → AreNear (yes_of branch e) near → near_besides near b ≡ None → (z : ℕ) → IsYes branch e z → z ≡ b
besides_none branch e b Free few is none = λ z is_yes. absurd (both_ways _ (is z) is_yes)
besides_none branch e b (One x) few is none = λ z is_yes. go (x == b) refl none z is_yes
  where
    go : (t : Bool) → (x == b) ≡ t → (if t then None else Some x) ≡ None → (z : ℕ) → IsYes branch e z → z ≡ b
    go true same nothing z is_yes = is.only z is_yes ∙ eqb-true x b same
    go false other nothing z is_yes = cc
besides_none branch e b (Two x y) few is none = λ z is_yes. go z (x == b) none
  where
    go : (z : ℕ) (t : Bool) → (if t then Some y else Some x) ≡ None → z ≡ b
    go z true nothing = cc
    go z false nothing = cc
besides_none branch e b Many few is none = λ z is_yes. cc

module _ (t : Chains) (table : IsChainTable t) (untangled : t.tangled ≡ false) (e b : ℕ) where
  few_at : is_many (near_at t.near.items e) ≡ false
  few_at = false_from_ne_true _ (λ many.
      both_ways _ untangled (table.chains.tangle.1 (many_tangle t.decisions.now e (near_at t.near.items e) (table.chains.neighbours e) many)))

  pub leads_on : (next : Option ℕ) → near_besides (near_at t.near.items e) b ≡ next → LeadsOn t.decisions.now e b next
  leads_on None is = besides_none t.decisions.now e b (near_at t.near.items e) few_at (table.chains.neighbours e) is
  leads_on (Some n) is = (
    (let found = besides_yes t.decisions.now e b n (near_at t.near.items e) (table.chains.neighbours e) is in found.0),
    (let found = besides_yes t.decisions.now e b n (near_at t.near.items e) (table.chains.neighbours e) is in found.1),
    (λ way. besides_only t.decisions.now e b n way (near_at t.near.items e) (table.chains.neighbours e) is),
  )
