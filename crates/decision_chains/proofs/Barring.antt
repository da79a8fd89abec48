-- What the table of chains says of a pair.
use Rattle.std.proofs.Common.{◌≡◌, ◌≢◌, ℕ, zero, suc, ◌+◌, ◌≤◌, ◌<◌, ◌==◌, true, false, ◌||◌, ◌&&◌, not, List, [], ◌∷◌, refl, sym, ◌∙◌, ap, arith, inl, inr, ◌⊎◌}
use Rattle.std.specs.List.{AllByRecursion, sum_by, list_any}
use Rattle.std.specs.Prelude.{if◌then◌else◌, nat_lt}
use Rattle.std.proofs.lemmas.Bool.{or_cases, or_left, or_right, and_parts, and_from, cases_Bool, cases_eq, eqb-true, eq-eqb, eqb-false, ne_eqb, not-true, not_from_false, ltb-true, lt-ltb, both_ways, false_from_ne_true}
use Rattle.carp_base.specs.Problem.{IsRequired, edge_at}
use Rattle.plan_model.specs.Sums.{sum_to}
use Rattle.decision_chains.specs.Exclusions.{IsYes, IsNo, AreJoined, IsChainEnd, IsHeavy, Excluded, same, said_no, first_full, second_full, closes, heavy, IsDetermined, says_no}
use Rattle.decision_chains.specs.ChainTables.{yes_of, AreNear, near_at, near_has, has_two_besides, is_end, is_many, label_at, load_of, IsUpTo, chain_load, closes_chain, overloads, is_barred, IsChainTable, IsOverloaded}
use Rattle.decision_chains.specs.declared.chains.Chains.{Chains}
use Rattle.decision_chains.specs.declared.near.Near.{Near}
use Rattle.decision_chains.specs.declared.near.Near.TheVariants.{Free, One, Two, Many}
use Rattle.decision_chains.proofs.ChainLoads.{heavy_by_sum, load_of_both}
use Rattle.decision_chains.proofs.Linking.{label_within}
use Rattle.decision_chains.proofs.Neighbouring.{near_yes, near_missing, two_besides, end_of}

sum_to-split : (m : ℕ) (f g h : ℕ → ℕ) → ((e : ℕ) → f e ≡ g e + h e) → sum_to m f ≡ sum_to m g + sum_to m h
sum_to-split zero f g h split = omega arith
sum_to-split (suc m) f g h split = omega (arith, sum_to-split m f g h split, split (suc m))

sum_to-same : (m : ℕ) (f g : ℕ → ℕ) → ((e : ℕ) → f e ≡ g e) → sum_to m f ≡ sum_to m g
sum_to-same zero f g each = refl
sum_to-same (suc m) f g each = omega (arith, sum_to-same m f g each, each (suc m))

-- what one edge adds to the load of two labels
module _ (a b l d : ℕ) where
  one_of_two : a ≢ b → (if (a == l) || (b == l) then d else 0) ≡ (if l == a then d else 0) + (if l == b then d else 0)
  one_of_two apart = elim (cases_eq l a) [
    | inl at_a ↦
        let b_other : l ≢ b = λ at_b. apart (sym at_a ∙ at_b) in
        omega (arith, ap (λ t. if t || (b == l) then d else 0) (eq-eqb a l (sym at_a)), ap (λ t. if t then d else 0) (eq-eqb l a at_a), ap (λ t. if t then d else 0) (ne_eqb l b b_other))
    | inr a_other ↦ elim (cases_eq l b) [
      | inl at_b ↦
          omega (
            arith,
            ap (λ t. if t || (b == l) then d else 0) (ne_eqb a l (λ is. a_other (sym is))),
            ap (λ t. if t then d else 0) (eq-eqb b l (sym at_b)),
            ap (λ t. if t then d else 0) (ne_eqb l a a_other),
            ap (λ t. if t then d else 0) (eq-eqb l b at_b),
          )
      | inr b_other ↦
          omega (
            arith,
            ap (λ t. if t || (b == l) then d else 0) (ne_eqb a l (λ is. a_other (sym is))),
            ap (λ t. if t then d else 0) (ne_eqb b l (λ is. b_other (sym is))),
            ap (λ t. if t then d else 0) (ne_eqb l a a_other),
            ap (λ t. if t then d else 0) (ne_eqb l b b_other),
          )
    ]
  ]

same_of_two : (a l d : ℕ) → (if (a == l) || (a == l) then d else 0) ≡ (if l == a then d else 0)
same_of_two a l d = elim (cases_eq l a) [
  | inl at_a ↦ ap (λ t. if t || (a == l) then d else 0) (eq-eqb a l (sym at_a)) ∙ sym (ap (λ t. if t then d else 0) (eq-eqb l a at_a))
  | inr a_other ↦
      ap (λ t. if t || (a == l) then d else 0) (ne_eqb a l (λ is. a_other (sym is))) ∙ ap (λ t. if t then d else 0) (ne_eqb a l (λ is. a_other (sym is)))
      ∙ sym (ap (λ t. if t then d else 0) (ne_eqb l a a_other))
]

few_end : (near : Near) → is_end near ≡ true → is_many near ≡ false
few_end Free is = refl
few_end (One x) is = refl
few_end (Two x y) is = refl
few_end Many is = sym is

module _ (t : Chains) (table : IsChainTable t) where
  label_in : (e : ℕ) → IsRequired t.inst.now e → IsUpTo t.inst.now.required (label_at t.labels.items e)
  label_in e required = label_within t.inst.now.required t.labels.items table.chains.labels_long table.chains.within e required.from_one required.in_range

  -- a load is that of the chain
  pub load_is : (e : ℕ) → IsRequired t.inst.now e → chain_load t e ≡ load_of t.inst.now t.labels.items (label_at t.labels.items e)
  load_is e required = table.loads (label_at t.labels.items e) (label_in e required)

  pub load_small : (e : ℕ) → IsRequired t.inst.now e → chain_load t e ≤ 18000000
  load_small e required = table.small (label_at t.labels.items e) (label_in e required)

  heavy_apart : (a b : ℕ) → label_at t.labels.items a ≢ label_at t.labels.items b →
      load_of_both t.inst.now t.decisions.now (label_at t.labels.items) table.chains.labelled a b
      ≡ load_of t.inst.now t.labels.items (label_at t.labels.items a) + load_of t.inst.now t.labels.items (label_at t.labels.items b)
  heavy_apart a b apart = sum_to-split t.inst.now.required _ _ _ (λ e. one_of_two (label_at t.labels.items a) (label_at t.labels.items b) (label_at t.labels.items e) (edge_at t.inst.now e).demand apart)

  heavy_alone : (a : ℕ) → load_of_both t.inst.now t.decisions.now (label_at t.labels.items) table.chains.labelled a a ≡ load_of t.inst.now t.labels.items (label_at t.labels.items a)
  heavy_alone a = sum_to-same t.inst.now.required _ _ (λ e. same_of_two (label_at t.labels.items a) (label_at t.labels.items e) (edge_at t.inst.now e).demand)

  -- a chain above the capacity
  pub overloaded_heavy : (e : ℕ) → IsOverloaded t e → IsHeavy t.inst.now t.decisions.now e e
  overloaded_heavy e is = (heavy_by_sum t.inst.now t.decisions.now (label_at t.labels.items) table.chains.labelled e e).1 (omega (arith, heavy_alone e, load_is e is.required, is.over))

  pub heavy_overloaded : (a : ℕ) → IsHeavy t.inst.now t.decisions.now a a → (e : ℕ) × IsOverloaded t e
  heavy_overloaded a is = some is.edges is.joined is.over
    where
      total : t.inst.now.capacity < load_of t.inst.now t.labels.items (label_at t.labels.items a)
      total = let both = (heavy_by_sum t.inst.now t.decisions.now (label_at t.labels.items) table.chains.labelled a a).0 is in omega (arith, both, heavy_alone a)

      over_at : (e : ℕ) → IsRequired t.inst.now e → AreJoined t.decisions.now a e → (e : ℕ) × IsOverloaded t e
      over_at e required joined = (
        e,
        record {
          required = required;
          over = omega (arith, total, load_is e required, ap (load_of t.inst.now t.labels.items) ((table.chains.labelled a e).1 joined));
        },
      )

      some : (es : List ℕ) → AllByRecursion (λ e. IsRequired t.inst.now e × (AreJoined t.decisions.now a e ⊎ AreJoined t.decisions.now a e)) es →
          t.inst.now.capacity < sum_by (λ e. (edge_at t.inst.now e).demand) es → (e : ℕ) × IsOverloaded t e
      some [] all over = absurd (omega (arith, over))
      some (e ∷ es) all over = elim all.0.1 [ inl joined ↦ over_at e all.0.0 joined | inr joined ↦ over_at e all.0.0 joined ]

  module _ (a b : ℕ) (a_required : IsRequired t.inst.now a) (b_required : IsRequired t.inst.now b) where
    near_a : AreNear (yes_of t.decisions.now a) (near_at t.near.items a)
    near_a = table.chains.neighbours a

    near_b : AreNear (yes_of t.decisions.now b) (near_at t.near.items b)
    near_b = table.chains.neighbours b

    closes_excludes : closes_chain t a b ≡ true → Excluded t.inst.now t.decisions.now a b
    closes_excludes is =
        let last = and_parts (((label_at t.labels.items a == label_at t.labels.items b) && is_end (near_at t.near.items a)) && is_end (near_at t.near.items b)) (not (near_has (near_at t.near.items a) b)) is in
        let ends = and_parts ((label_at t.labels.items a == label_at t.labels.items b) && is_end (near_at t.near.items a)) (is_end (near_at t.near.items b)) last.0 in
        let first = and_parts (label_at t.labels.items a == label_at t.labels.items b) (is_end (near_at t.near.items a)) ends.0 in
        closes ((table.chains.labelled a b).0 (eqb-true _ _ first.0)) ((end_of t.decisions.now a (near_at t.near.items a) near_a).0 first.1) ((end_of t.decisions.now b (near_at t.near.items b) near_b).0 ends.1)
        (λ is_yes. both_ways _ (few_end (near_at t.near.items a) first.1) (near_missing t.decisions.now a b (near_at t.near.items a) near_a (not-true _ last.1) is_yes))

    closes_barred : AreJoined t.decisions.now a b → IsChainEnd t.decisions.now a → IsChainEnd t.decisions.now b → ¬ (IsYes t.decisions.now a b) → closes_chain t a b ≡ true
    closes_barred joined a_end b_end never =
        and_from _ _ (and_from _ _ (and_from _ _ (eq-eqb _ _ ((table.chains.labelled a b).1 joined)) ((end_of t.decisions.now a (near_at t.near.items a) near_a).1 a_end))
        ((end_of t.decisions.now b (near_at t.near.items b) near_b).1 b_end))
        (not_from_false _ (false_from_ne_true _ (λ has. never (near_yes t.decisions.now a b (near_at t.near.items a) near_a has))))

    overloads_excludes : overloads t a b ≡ true → Excluded t.inst.now t.decisions.now a b
    overloads_excludes is =
        let both = and_parts (not (label_at t.labels.items a == label_at t.labels.items b)) (nat_lt t.inst.now.capacity (chain_load t a + chain_load t b)) is in
        let apart = eqb-false _ _ (not-true _ both.0) in
        let over = ltb-true t.inst.now.capacity (chain_load t a + chain_load t b) both.1 in
        heavy (λ joined. apart ((table.chains.labelled a b).1 joined))
        ((heavy_by_sum t.inst.now t.decisions.now (label_at t.labels.items) table.chains.labelled a b).1 (omega (arith, over, heavy_apart a b apart, load_is a a_required, load_is b b_required)))

    overloads_barred : ¬ (AreJoined t.decisions.now a b) → IsHeavy t.inst.now t.decisions.now a b → overloads t a b ≡ true
    overloads_barred apart over =
        let differ : label_at t.labels.items a ≢ label_at t.labels.items b = λ same_label. apart ((table.chains.labelled a b).0 same_label) in
        let total = (heavy_by_sum t.inst.now t.decisions.now (label_at t.labels.items) table.chains.labelled a b).0 over in
        and_from _ _ (not_from_false _ (ne_eqb _ _ differ)) (lt-ltb t.inst.now.capacity (chain_load t a + chain_load t b) (omega (arith, total, heavy_apart a b differ, load_is a a_required, load_is b b_required)))

    pub barred_excludes : is_barred t a b ≡ true → Excluded t.inst.now t.decisions.now a b
    barred_excludes is = elim (or_cases (((a == b) || has_two_besides (near_at t.near.items a) b) || has_two_besides (near_at t.near.items b) a || closes_chain t a b) (overloads t a b) is) [
      | inr over ↦ overloads_excludes over
      | inl is' ↦ elim (or_cases (((a == b) || has_two_besides (near_at t.near.items a) b) || has_two_besides (near_at t.near.items b) a) (closes_chain t a b) is') [
        | inr close ↦ closes_excludes close
        | inl is'' ↦ elim (or_cases ((a == b) || has_two_besides (near_at t.near.items a) b) (has_two_besides (near_at t.near.items b) a) is'') [
          | inr two ↦ second_full ((two_besides t.decisions.now b a (near_at t.near.items b) near_b).0 two)
          | inl is''' ↦ elim (or_cases (a == b) (has_two_besides (near_at t.near.items a) b) is''') [
            | inl one ↦ same (eqb-true a b one)
            | inr two ↦ first_full ((two_besides t.decisions.now a b (near_at t.near.items a) near_a).0 two)
          ]
        ]
      ]
    ]

    pub excluded_barred : Excluded t.inst.now t.decisions.now a b → (is_barred t a b ≡ true) ⊎ IsNo t.decisions.now a b
    excluded_barred (same is) = inl (or_left _ _ (or_left _ _ (or_left _ _ (or_left _ _ (eq-eqb a b is)))))
    excluded_barred (said_no is) = inr is
    excluded_barred (first_full two) = inl (or_left _ _ (or_left _ _ (or_left _ _ (or_right (a == b) _ ((two_besides t.decisions.now a b (near_at t.near.items a) near_a).1 two)))))
    excluded_barred (second_full two) = inl (or_left _ _ (or_left _ _ (or_right ((a == b) || has_two_besides (near_at t.near.items a) b) _ ((two_besides t.decisions.now b a (near_at t.near.items b) near_b).1 two))))
    excluded_barred (closes joined a_end b_end never) =
        inl (or_left _ _ (or_right (((a == b) || has_two_besides (near_at t.near.items a) b) || has_two_besides (near_at t.near.items b) a) _ (closes_barred joined a_end b_end never)))
    excluded_barred (heavy apart over) = inl (or_right ((((a == b) || has_two_besides (near_at t.near.items a) b) || has_two_besides (near_at t.near.items b) a) || closes_chain t a b) _ (overloads_barred apart over))

    -- yes, barred or said no are the determined pairs
    pub settled_is : (near_has (near_at t.near.items a) b || is_barred t a b || list_any (says_no a b) t.decisions.now) ≡ true → IsDetermined t.inst.now t.decisions.now a b
    settled_is is = elim (or_cases (near_has (near_at t.near.items a) b || is_barred t a b) (list_any (says_no a b) t.decisions.now) is) [
      | inr said ↦ inr (said_no said)
      | inl is' ↦ elim (or_cases (near_has (near_at t.near.items a) b) (is_barred t a b) is') [
        | inl has ↦ inl (near_yes t.decisions.now a b (near_at t.near.items a) near_a has)
        | inr barred ↦ inr (barred_excludes barred)
      ]
    ]

    -- a yes pair is known, or barred
    pub yes_settled : IsYes t.decisions.now a b → (near_has (near_at t.near.items a) b ≡ true) ⊎ Excluded t.inst.now t.decisions.now a b
    yes_settled is = elim (cases_Bool (near_has (near_at t.near.items a) b)) [
      | inl has ↦ inl has
      | inr missing ↦ inr (full (near_at t.near.items a) near_a (near_missing t.decisions.now a b (near_at t.near.items a) near_a missing is))
    ]
      where
        full : (near : Near) → AreNear (yes_of t.decisions.now a) near → is_many near ≡ true → Excluded t.inst.now t.decisions.now a b
        full Free near many = cc
        full (One x) near many = cc
        full (Two x y) near many = cc
        full Many near many = first_full ((two_besides t.decisions.now a b Many near).0 refl)

    is_settled_by : Excluded t.inst.now t.decisions.now a b → (near_has (near_at t.near.items a) b || is_barred t a b || list_any (says_no a b) t.decisions.now) ≡ true
    is_settled_by excluded = elim (excluded_barred excluded) [
      | inl barred ↦ or_left _ _ (or_right (near_has (near_at t.near.items a) b) _ barred)
      | inr said ↦ or_right (near_has (near_at t.near.items a) b || is_barred t a b) _ said
    ]

    pub is_settled : IsDetermined t.inst.now t.decisions.now a b → (near_has (near_at t.near.items a) b || is_barred t a b || list_any (says_no a b) t.decisions.now) ≡ true
    is_settled (inl is) = elim (yes_settled is) [ inl has ↦ or_left _ _ (or_left _ _ has) | inr excluded ↦ is_settled_by excluded ]
    is_settled (inr excluded) = is_settled_by excluded
