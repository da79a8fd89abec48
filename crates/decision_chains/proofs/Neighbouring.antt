-- The yes neighbours of an edge, as they are kept.
use Rattle.std.proofs.Common.{◌≡◌, ◌≢◌, ℕ, ◌==◌, Bool, true, false, ◌||◌, ◌&&◌, not, List, refl, sym, ◌∙◌, inl, inr, ◌↔◌}
use Rattle.std.specs.Prelude.{if◌then◌else◌}
use Rattle.std.proofs.lemmas.Bool.{or_cases, or_parts, and_parts, and_from, cases_eq, ne_eqb, eqb-true, eqb-false, not-true, not_from_false, both_ways}
use Rattle.decision_chains.specs.Exclusions.{IsYes, HasTwoOthers, IsChainEnd}
use Rattle.decision_chains.specs.ChainTables.{yes_of, AreNear, AddsNear, IsOnly, AreOnly, HasThree, IsTangled, crowded, near_with, near_has, has_two_besides, is_end, is_many}
use Rattle.decision_chains.specs.declared.near.Near.{Near}
use Rattle.decision_chains.specs.declared.near.Near.TheVariants.{Free, One, Two, Many}
use Rattle.decision_chains.specs.declared.decision.Decision.{Decision}

module _ (old new : ℕ → Bool) (x : ℕ) (adds : AddsNear old new x) where
  one_more_near : (y : ℕ) → IsOnly old y → (b : Bool) → (y == x) ≡ b → AreNear new (if b then One y else Two y x)
  one_more_near y is true same = record {
    near = adds.kept y is.near;
    only = λ z yes. elim (adds.only z yes) [ inl before ↦ is.only z before | inr last ↦ last ∙ sym (eqb-true y x same) ];
  }
  one_more_near y is false other = record {
    x_near = adds.kept y is.near;
    y_near = adds.added;
    apart = eqb-false y x other;
    only = λ z yes. elim (adds.only z yes) [ inl before ↦ inl (is.only z before) | inr last ↦ inr last ];
  }

  two_more_near : (y z : ℕ) → AreOnly old y z → (b : Bool) → ((y == x) || (z == x)) ≡ b → AreNear new (if b then Two y z else Many)
  two_more_near y z is true same = record {
    x_near = adds.kept y is.x_near;
    y_near = adds.kept z is.y_near;
    apart = is.apart;
    only = λ w yes. elim (adds.only w yes) [
      | inl before ↦ is.only w before
      | inr last ↦ elim (or_cases (y == x) (z == x) same) [ inl at_y ↦ inl (last ∙ sym (eqb-true y x at_y)) | inr at_z ↦ inr (last ∙ sym (eqb-true z x at_z)) ]
    ];
  }
  two_more_near y z is false other =
      let both = or_parts (y == x) (z == x) other in
      record {
        x = y;
        y = z;
        z = x;
        x_near = adds.kept y is.x_near;
        y_near = adds.kept z is.y_near;
        z_near = adds.added;
        x_y = is.apart;
        x_z = eqb-false y x both.0;
        y_z = eqb-false z x both.1;
      }

  pub near_more : (near : Near) → AreNear old near → AreNear new (near_with near x)
  near_more Free none = record {
    near = adds.added;
    only = λ z yes. elim (adds.only z yes) [ inl before ↦ absurd (both_ways (old z) (none z) before) | inr last ↦ last ];
  }
  near_more (One y) is = one_more_near y is (y == x) refl
  near_more (Two y z) is = two_more_near y z is ((y == x) || (z == x)) refl
  near_more Many is = record {
    x = is.x;
    y = is.y;
    z = is.z;
    x_near = adds.kept is.x is.x_near;
    y_near = adds.kept is.y is.y_near;
    z_near = adds.kept is.z is.z_near;
    x_y = is.x_y;
    x_z = is.x_z;
    y_z = is.y_z;
  }

module _ (branch : List Decision) (e : ℕ) where
  pub near_yes : (x : ℕ) (near : Near) → AreNear (yes_of branch e) near → near_has near x ≡ true → IsYes branch e x
  near_yes x Free is has = cc
  near_yes x (One y) is has = rw (sym (eqb-true y x has)) is.near
  near_yes x (Two y z) is has = elim (or_cases (y == x) (z == x) has) [
    | inl at_y ↦ rw (sym (eqb-true y x at_y)) is.x_near
    | inr at_z ↦ rw (sym (eqb-true z x at_z)) is.y_near
  ]
  near_yes x Many is has = cc

  -- a neighbour that is not among them is one of three or more
  pub near_missing : (x : ℕ) (near : Near) → AreNear (yes_of branch e) near → near_has near x ≡ false → IsYes branch e x → is_many near ≡ true
  near_missing x Free is has is_yes = absurd (both_ways _ (is x) is_yes)
  near_missing x (One y) is has is_yes = absurd (eqb-false y x has (sym (is.only x is_yes)))
  near_missing x (Two y z) is has is_yes =
      let both = or_parts (y == x) (z == x) has in
      elim (is.only x is_yes) [ inl at_y ↦ absurd (eqb-false y x both.0 (sym at_y)) | inr at_z ↦ absurd (eqb-false z x both.1 (sym at_z)) ]
  near_missing x Many is has is_yes = refl

  two_of : (b x y : ℕ) → IsYes branch e x → IsYes branch e y → x ≢ y → x ≢ b → y ≢ b → HasTwoOthers branch e b
  two_of b x y x_yes y_yes apart x_other y_other = record {
    x = x;
    y = y;
    x_yes = x_yes;
    y_yes = y_yes;
    apart = apart;
    x_other = x_other;
    y_other = y_other;
  }

  two_of_three : (b : ℕ) → HasThree (yes_of branch e) → HasTwoOthers branch e b
  two_of_three b is = elim (cases_eq is.x b) [
    | inl at_x ↦ two_of b is.y is.z is.y_near is.z_near is.y_z (λ at. is.x_y (at_x ∙ sym at)) (λ at. is.x_z (at_x ∙ sym at))
    | inr x_other ↦ elim (cases_eq is.y b) [
      | inl at_y ↦ two_of b is.x is.z is.x_near is.z_near is.x_z x_other (λ at. is.y_z (at_y ∙ sym at))
      | inr y_other ↦ two_of b is.x is.y is.x_near is.y_near is.x_y x_other y_other
    ]
  ]

  pub two_besides : (b : ℕ) (near : Near) → AreNear (yes_of branch e) near → (has_two_besides near b ≡ true) ↔ HasTwoOthers branch e b
  two_besides b Free is = ((λ h. cc), (λ two. absurd (both_ways _ (is two.x) two.x_yes)))
  two_besides b (One y) is = ((λ h. cc), (λ two. absurd (two.apart (is.only two.x two.x_yes ∙ sym (is.only two.y two.y_yes)))))
  two_besides b (Two y z) is = (
    (λ h.
        let both = and_parts (not (y == b)) (not (z == b)) h in
        two_of b y z is.x_near is.y_near is.apart (eqb-false y b (not-true _ both.0)) (eqb-false z b (not-true _ both.1))),
    (λ two. elim (is.only two.x two.x_yes) [
      | inl x_y ↦ elim (is.only two.y two.y_yes) [
        | inl y_y ↦ absurd (two.apart (x_y ∙ sym y_y))
        | inr y_z ↦ besides (λ at. two.x_other (x_y ∙ at)) (λ at. two.y_other (y_z ∙ at))
      ]
      | inr x_z ↦ elim (is.only two.y two.y_yes) [
        | inl y_y ↦ besides (λ at. two.y_other (y_y ∙ at)) (λ at. two.x_other (x_z ∙ at))
        | inr y_z ↦ absurd (two.apart (x_z ∙ sym y_z))
      ]
    ]),
  )
    where
      besides : y ≢ b → z ≢ b → (not (y == b) && not (z == b)) ≡ true
      besides y_other z_other = and_from _ _ (not_from_false _ (ne_eqb y b y_other)) (not_from_false _ (ne_eqb z b z_other))
  two_besides b Many is = ((λ h. two_of_three b is), (λ two. refl))

  pub end_of : (near : Near) → AreNear (yes_of branch e) near → (is_end near ≡ true) ↔ IsChainEnd branch e
  end_of Free is = ((λ h x y x_yes y_yes. absurd (both_ways _ (is x) x_yes)), (λ end. refl))
  end_of (One z) is = ((λ h x y x_yes y_yes. is.only x x_yes ∙ sym (is.only y y_yes)), (λ end. refl))
  end_of (Two y z) is = ((λ h. cc), (λ end. absurd (is.apart (end y z is.x_near is.y_near))))
  end_of Many is = ((λ h. cc), (λ end. absurd (is.x_y (end is.x is.y is.x_near is.y_near))))

  -- of at most two neighbours no two are besides one
  pub few_near : (b : ℕ) (near : Near) → AreNear (yes_of branch e) near → is_many near ≡ false → IsYes branch e b → HasTwoOthers branch e b → ⊥
  few_near b Free is few is_yes two = both_ways _ (is b) is_yes
  few_near b (One y) is few is_yes two = two.x_other (is.only two.x two.x_yes ∙ sym (is.only b is_yes))
  few_near b (Two y z) is few is_yes two = two.apart (elim (is.only b is_yes) [
    | inl b_y ↦ at_z two.x two.x_yes (λ at. two.x_other (at ∙ sym b_y)) ∙ sym (at_z two.y two.y_yes (λ at. two.y_other (at ∙ sym b_y)))
    | inr b_z ↦ at_y two.x two.x_yes (λ at. two.x_other (at ∙ sym b_z)) ∙ sym (at_y two.y two.y_yes (λ at. two.y_other (at ∙ sym b_z)))
  ])
    where
      at_z : (w : ℕ) → IsYes branch e w → w ≢ y → w ≡ z
      at_z w yes' other = elim (is.only w yes') [ inl w_y ↦ absurd (other w_y) | inr w_z ↦ w_z ]

      at_y : (w : ℕ) → IsYes branch e w → w ≢ z → w ≡ y
      at_y w yes' other = elim (is.only w yes') [ inl w_y ↦ w_y | inr w_z ↦ absurd (other w_z) ]
  few_near b Many is few is_yes two = cc

  pub many_tangle : (near : Near) → AreNear (yes_of branch e) near → is_many near ≡ true → IsTangled branch
  many_tangle Free is many = cc
  many_tangle (One y) is many = cc
  many_tangle (Two y z) is many = cc
  many_tangle Many is many = crowded e is.z is.z_near (two_of is.z is.x is.y is.x_near is.y_near is.x_y is.x_z is.y_z)
