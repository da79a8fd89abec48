-- What one more yes pair does to neighbours, labels and cycles.
use Rattle.std.proofs.Common.{◌≡◌, ◌≢◌, ℕ, zero, suc, ◌+◌, ◌-◌, ◌<◌, ◌≤◌, ◌==◌, Bool, true, false, ◌||◌, ◌&&◌, List, [], ◌∷◌, ◌++◌, length, get_or, refl, sym, ◌∙◌, ap, subst, arith, add-one, inl, inr, ◌⊎◌}
use Rattle.std.proofs.Math.ListN.{set, length-set}
use Rattle.std.specs.Prelude.{if◌then◌else◌, slice_index_or, replicate}
use Rattle.std.specs.List.{All, list_any}
use Rattle.std.proofs.lemmas.List.Folds.{list_any-append}
use Rattle.std.proofs.lemmas.List.{get_or-set_same, get_or-set_other, get_or_past, get_or_default, get_or-replicate, length-replicate}
use Rattle.std.proofs.lemmas.Bool.{or_cases, or_left, or_right, or_parts, and_from, cases_eq, cases_lt, ne_eqb, eq-eqb, eqb-true, eqb-false, cases_Bool, false_from_ne_true, both_ways}
use Rattle.decision_chains.specs.Exclusions.{says_yes, IsYes, YesPath, Detour}
use Rattle.decision_chains.specs.Pairs.{IsPairWithin}
use Rattle.decision_chains.specs.ChainTables.{yes_of, AreNear, AddsNear, near_at, near_with, near_has, is_many, IsTangled, crowded, cyclic, IsLabelled, label_at, merged, AreMerged, IsUpTo, AreChains}
use Rattle.decision_chains.specs.declared.near.Near.{Near}
use Rattle.decision_chains.specs.declared.near.Near.TheVariants.{Free}
use Rattle.decision_chains.specs.declared.decision.Decision.{Decision}
use Rattle.decision_chains.specs.declared.decision.Decision.TheVariants.{Yes}
use Rattle.decision_chains.proofs.Including.{yes_before, yes_last, near_same, detour_into, tangled_into, chains_without}
use Rattle.decision_chains.proofs.Labels.{labels_more}
use Rattle.decision_chains.proofs.YesPairs.{pair_is, yes_turn, detour_of}
use Rattle.decision_chains.proofs.Neighbouring.{near_more, near_yes, near_missing, few_near, many_tangle}

-- labels and neighbours by the number of an edge
pub near_set_same : (near : List Near) (a : ℕ) (n : Near) → 1 ≤ a → a ≤ length near → near_at (set near (a - 1) n) a ≡ n
near_set_same near zero n from_one in_range = absurd (omega arith)
near_set_same near (suc k) n from_one in_range =
    ap (λ i. get_or (set near i n) k Free) (let place : suc k - 1 ≡ k = omega arith in place) ∙ get_or-set_same near k n Free (omega arith)

pub near_set_other : (near : List Near) (a e : ℕ) (n : Near) → 1 ≤ a → e ≢ a → near_at (set near (a - 1) n) e ≡ near_at near e
near_set_other near a zero n from_one other = refl
near_set_other near a (suc k) n from_one other = get_or-set_other near (a - 1) k n Free (omega (arith, other))

pub near_place : (near : List Near) (a : ℕ) (d : Near) → 1 ≤ a → a ≤ length near → get_or near (a - 1) d ≡ near_at near a
near_place near zero d from_one in_range = absurd (omega arith)
near_place near (suc k) d from_one in_range = let place : suc k - 1 ≡ k = omega arith in ap (λ i. get_or near i d) place ∙ get_or_default near k d Free (omega arith)

pub label_place : (labels : List ℕ) (a d : ℕ) → 1 ≤ a → a ≤ length labels → get_or labels (a - 1) d ≡ label_at labels a
label_place labels zero d from_one in_range = absurd (omega arith)
label_place labels (suc k) d from_one in_range = let place : suc k - 1 ≡ k = omega arith in ap (λ i. get_or labels i d) place ∙ get_or_default labels k d (suc k) (omega arith)

pub label_within : (m : ℕ) (labels : List ℕ) → length labels ≡ m → All (IsUpTo m) labels → (e : ℕ) → 1 ≤ e → e ≤ m → IsUpTo m (label_at labels e)
label_within m labels long within zero from_one in_range = absurd (omega arith)
label_within m labels long within (suc k) from_one in_range = within k (suc k) (omega arith)

merged_other : (of_x of_y l : ℕ) → l ≢ of_y → merged of_x of_y l ≡ l
merged_other of_x of_y l other = ap (λ b. if b then of_x else l) (ne_eqb l of_y other)

pub merged_label : (m of_x of_y : ℕ) (old new : List ℕ) → length old ≡ m → IsUpTo m of_y → AreMerged of_x of_y old new → (e : ℕ) → label_at new e ≡ merged of_x of_y (label_at old e)
merged_label m of_x of_y old new long y_in is zero = sym (merged_other of_x of_y 0 (λ at. omega (arith, at, y_in.from_one)))
merged_label m of_x of_y old new long y_in is (suc k) = elim (cases_lt k (length old)) [
  | inl within ↦ is.1 k (suc k) within
  | inr past ↦
      get_or_past new k (suc k) (omega (arith, is.0)) ∙ sym (merged_other of_x of_y (suc k) (λ at. omega (arith, at, y_in.in_range)))
      ∙ ap (merged of_x of_y) (sym (get_or_past old k (suc k) past))
]

merged_one : (m of_x of_y l : ℕ) → IsUpTo m of_x → IsUpTo m l → (b : Bool) → IsUpTo m (if b then of_x else l)
merged_one m of_x of_y l x_in l_in true = x_in
merged_one m of_x of_y l x_in l_in false = l_in

pub merged_within : (m of_x of_y : ℕ) (old new : List ℕ) → IsUpTo m of_x → All (IsUpTo m) old → AreMerged of_x of_y old new → All (IsUpTo m) new
merged_within m of_x of_y old new x_in within is k d less =
    let before : k < length old = omega (arith, is.0) in
    let P : ℕ → Type 0 = IsUpTo m in
    subst P (sym (is.1 k d before)) (merged_one m of_x of_y (slice_index_or old k d) x_in (within k d before) (slice_index_or old k d == of_y))

module _ (branch : List Decision) (a b : ℕ) where
  abbrev pub longer : List Decision
  longer = branch ++ Yes a b ∷ []

  says_ab : says_yes a b (Yes a b) ≡ true
  says_ab = or_left ((a == a) && (b == b)) ((a == b) && (b == a)) (and_from (a == a) (b == b) (eq-eqb a a refl) (eq-eqb b b refl))

  says_ba : says_yes b a (Yes a b) ≡ true
  says_ba = or_right ((a == b) && (b == a)) ((a == a) && (b == b)) (and_from (a == a) (b == b) (eq-eqb a a refl) (eq-eqb b b refl))

  says_last : (x y : ℕ) → says_yes x y (Yes a b) ≡ true → IsYes longer x y
  says_last x y is =
      list_any-append (says_yes x y) branch (Yes a b ∷ [])
      ∙ or_right (list_any (says_yes x y) branch) _ (or_left (says_yes x y (Yes a b)) false is)

  adds_b : AddsNear (yes_of branch a) (yes_of longer a) b
  adds_b = record {
    kept = λ z. yes_before branch (Yes a b) a z;
    added = says_last a b says_ab;
    only = λ z yes. elim (yes_last branch (Yes a b) a z yes) [
      | inl old ↦ inl old
      | inr new ↦ elim (pair_is a z a b new) [ inl straight ↦ inr (sym straight.1) | inr turned ↦ inr (sym turned.0 ∙ sym turned.1) ]
    ];
  }

  adds_a : AddsNear (yes_of branch b) (yes_of longer b) a
  adds_a = record {
    kept = λ z. yes_before branch (Yes a b) b z;
    added = says_last b a says_ba;
    only = λ z yes. elim (yes_last branch (Yes a b) b z yes) [
      | inl old ↦ inl old
      | inr new ↦ elim (pair_is b z a b new) [ inl straight ↦ inr (sym straight.1 ∙ sym straight.0) | inr turned ↦ inr (sym turned.0) ]
    ];
  }

  near_other : (e : ℕ) → e ≢ a → e ≢ b → (near : Near) → AreNear (yes_of branch e) near → AreNear (yes_of longer e) near
  near_other e not_a not_b = near_same (yes_of branch e) (yes_of longer e) (λ z. yes_before branch (Yes a b) e z) (λ z yes. elim (yes_last branch (Yes a b) e z yes) [
    | inl old ↦ old
    | inr new ↦ elim (pair_is e z a b new) [ inl straight ↦ absurd (not_a (sym straight.0)) | inr turned ↦ absurd (not_b (sym turned.1)) ]
  ])

  pub near_now : (near : List Near) → 1 ≤ a → a ≤ length near → 1 ≤ b → b ≤ length near → a ≢ b → ((e : ℕ) → AreNear (yes_of branch e) (near_at near e)) →
      (e : ℕ) → AreNear (yes_of longer e) (near_at (set (set near (a - 1) (near_with (near_at near a) b)) (b - 1) (near_with (near_at near b) a)) e)
  near_now near a_from a_in b_from b_in different before e =
      let at_a = near_with (near_at near a) b in
      let at_b = near_with (near_at near b) a in
      let once = set near (a - 1) at_a in
      let P : Near → Type 0 = AreNear (yes_of longer e) in
      elim (cases_eq e b) [
        | inl is_b ↦ subst (λ x. AreNear (yes_of longer x) (near_at (set once (b - 1) at_b) x)) (sym is_b)
            (subst (AreNear (yes_of longer b)) (sym (near_set_same once b at_b b_from (omega (arith, length-set near (a - 1) at_a)))) (near_more (yes_of branch b) (yes_of longer b) a adds_a (near_at near b) (before b)))
        | inr not_b ↦ subst P (sym (near_set_other once b e at_b b_from not_b)) (elim (cases_eq e a) [
          | inl is_a ↦ subst (λ x. AreNear (yes_of longer x) (near_at once x)) (sym is_a)
              (subst (AreNear (yes_of longer a)) (sym (near_set_same near a at_a a_from a_in)) (near_more (yes_of branch a) (yes_of longer a) b adds_b (near_at near a) (before a)))
          | inr not_a ↦ subst P (sym (near_set_other near a e at_a a_from not_a)) (near_other e not_a not_b (near_at near e) (before e))
        ])
      ]

  -- a path that never crosses between the two is as old as they are apart
  old_path : (c d : ℕ) → says_yes c d (Yes a b) ≡ true → (x y : ℕ) (path : List ℕ) → Detour longer c d x path y → YesPath branch x path y
  old_path c d is x y [] joined = joined
  old_path c d is x y (z ∷ path) joined = (
    elim (yes_last branch (Yes a b) x z joined.0) [
      | inl old ↦ old
      | inr new ↦ absurd (crosses (pair_is x z a b new) (pair_is c d a b is))
    ],
    old_path c d is z y path joined.3,
  )
    where
      crosses : ((a ≡ x) × (b ≡ z)) ⊎ ((a ≡ z) × (b ≡ x)) → ((a ≡ c) × (b ≡ d)) ⊎ ((a ≡ d) × (b ≡ c)) → ⊥
      crosses (inl new) (inl old) = joined.1 (sym new.0 ∙ old.0, sym new.1 ∙ old.1)
      crosses (inl new) (inr old) = joined.2 (sym new.0 ∙ old.0, sym new.1 ∙ old.1)
      crosses (inr new) (inl old) = joined.2 (sym new.1 ∙ old.1, sym new.0 ∙ old.0)
      crosses (inr new) (inr old) = joined.1 (sym new.1 ∙ old.1, sym new.0 ∙ old.0)

  module _ (label : ℕ → ℕ) (labelled : IsLabelled branch label) (different : a ≢ b) where
    -- a pair that joins one chain to itself closes a cycle
    pub closes_cycle : label a ≡ label b → ¬ (IsYes branch a b) → IsTangled longer
    closes_cycle same never =
        let joined = (labelled a b).0 same in
        cyclic a b joined.0 different (says_last a b says_ab)
        (detour_into branch longer (λ x y. yes_before branch (Yes a b) x y) a b a b joined.0 (detour_of branch a b a joined.0 b never joined.1))

    module _ (apart : label a ≢ label b) where
      abbrev pub OldDetour : ℕ → ℕ → ℕ → ℕ → Type 0
      OldDetour c d x y = (path : List ℕ) × Detour branch c d x path y

      -- what is left of a detour without the new pair: from where it is, in the chain of its end, or else from the end of the pair that is
      abbrev pub Left : ℕ → ℕ → ℕ → ℕ → Type 0
      Left c d x y = (label x ≡ label y → OldDetour c d x y) × (label x ≢ label y → (w : ℕ) × ((w ≡ a) ⊎ (w ≡ b)) × (label w ≡ label y) × OldDetour c d w y)

      over : (c d x z y : ℕ) → ((w : ℕ) → (w ≡ a) ⊎ (w ≡ b) → (w ≡ x) ⊎ (w ≡ z)) → (z ≡ a) ⊎ (z ≡ b) → label x ≢ label z → Left c d z y → Left c d x y
      over c d x z y ends z_end differ rest = (
        (λ same.
            let back = rest.1 (λ z_same. differ (same ∙ sym z_same)) in
            elim (ends back.0 back.1) [
              | inl at_x ↦ subst (λ w. OldDetour c d w y) at_x back.3
              | inr at_z ↦ absurd (differ (same ∙ sym back.2 ∙ ap label at_z))
            ]),
        (λ x_differs. elim (cases_eq (label z) (label y)) [
          | inl z_same ↦ (z, z_end, z_same, rest.0 z_same)
          | inr z_differs ↦ rest.1 z_differs
        ]),
      )

      left : (c d x y : ℕ) (path : List ℕ) → Detour longer c d x path y → Left c d x y
      left c d x y [] joined = ((λ same. ([], joined)), (λ differ. absurd (differ (ap label joined))))
      left c d x y (z ∷ path) joined =
          let rest = left c d z y path joined.3 in
          elim (yes_last branch (Yes a b) x z joined.0) [
            | inl old ↦
                let step : label x ≡ label z = (labelled x z).1 (z ∷ [], (old, refl)) in (
                  (λ same. let more = rest.0 (sym step ∙ same) in (z ∷ more.0, (old, joined.1, joined.2, more.1))),
                  (λ differ. rest.1 (λ same. differ (step ∙ same))),
                )
            | inr new ↦ elim (pair_is x z a b new) [
              | inl straight ↦ over c d x z y (λ w end. elim end [ inl at_a ↦ inl (at_a ∙ straight.0) | inr at_b ↦ inr (at_b ∙ straight.1) ]) (inr (sym straight.1))
                  (λ same. apart (ap label straight.0 ∙ same ∙ sym (ap label straight.1))) rest
              | inr turned ↦ over c d x z y (λ w end. elim end [ inl at_a ↦ inr (at_a ∙ turned.0) | inr at_b ↦ inl (at_b ∙ turned.1) ]) (inl (sym turned.0))
                  (λ same. apart (ap label turned.0 ∙ sym same ∙ sym (ap label turned.1))) rest
            ]
          ]

      -- two chains that are linked make no new cycle
      no_new_cycle : (c d : ℕ) (path : List ℕ) → c ≢ d → IsYes longer c d → Detour longer c d c path d → IsTangled branch
      no_new_cycle c d path c_d is detour = elim (yes_last branch (Yes a b) c d is) [
        | inl old ↦ let more = (left c d c d path detour).0 ((labelled c d).1 (d ∷ [], (old, refl))) in cyclic c d more.0 c_d old more.1
        | inr new ↦
            let same : label c ≡ label d = (labelled c d).1 (path, old_path c d new c d path detour) in
            elim (pair_is c d a b new) [
              | inl straight ↦ absurd (apart (ap label straight.0 ∙ same ∙ sym (ap label straight.1)))
              | inr turned ↦ absurd (apart (ap label turned.0 ∙ sym same ∙ sym (ap label turned.1)))
            ]
      ]

      pub no_new_tangle : (near : List Near) → ((e : ℕ) → AreNear (yes_of longer e) (near_at near e)) → ((e : ℕ) → is_many (near_at near e) ≡ false) → IsTangled longer → IsTangled branch
      no_new_tangle near now few (crowded c d is two) = absurd (few_near longer c d (near_at near c) (now c) (few c) is two)
      no_new_tangle near now few (cyclic c d path c_d is detour) = no_new_cycle c d path c_d is detour

module _ (m : ℕ) (branch : List Decision) (a b : ℕ) (labels : List ℕ) (near : List Near) (tangled : Bool) (is : AreChains m branch labels near tangled) (pair : IsPairWithin m a b) where
  abbrev pub near_a : Near
  near_a = near_with (near_at near a) b

  abbrev pub near_b : Near
  near_b = near_with (near_at near b) a

  abbrev pub near_next : List Near
  near_next = set (set near (a - 1) near_a) (b - 1) near_b

  -- a pair that was there already changes nothing
  pub taken_again : near_has (near_at near a) b ≡ true → AreChains m (longer branch a b) labels near (tangled || false)
  taken_again has = chains_without branch (Yes a b) known m labels near tangled is
    where
      ab : IsYes branch a b
      ab = near_yes branch a b (near_at near a) (is.neighbours a) has

      known : (x y : ℕ) → says_yes x y (Yes a b) ≡ true → IsYes branch x y
      known x y says = elim (pair_is x y a b says) [
        | inl straight ↦ rw (sym straight.0, sym straight.1) ab
        | inr turned ↦ rw (sym turned.0, sym turned.1) (yes_turn branch a b ab)
      ]

  now : (e : ℕ) → AreNear (yes_of (longer branch a b) e) (near_at near_next e)
  now = near_now branch a b near pair.a_from_one (omega (arith, pair.a_in_range, is.near_long)) pair.b_from_one (omega (arith, pair.b_in_range, is.near_long)) pair.different is.neighbours

  at_a : near_at near_next a ≡ near_a
  at_a = near_set_other (set near (a - 1) near_a) b a near_b pair.b_from_one pair.different ∙ near_set_same near a near_a pair.a_from_one (omega (arith, pair.a_in_range, is.near_long))

  at_b : near_at near_next b ≡ near_b
  at_b = near_set_same (set near (a - 1) near_a) b near_b pair.b_from_one (omega (arith, pair.b_in_range, is.near_long, length-set near (a - 1) near_a))

  few_next : tangled ≡ false → is_many near_a ≡ false → is_many near_b ≡ false → (e : ℕ) → is_many (near_at near_next e) ≡ false
  few_next untangled few_a few_b e = elim (cases_eq e b) [
    | inl is_b ↦ ap (λ x. is_many (near_at near_next x)) is_b ∙ ap is_many at_b ∙ few_b
    | inr not_b ↦ elim (cases_eq e a) [
      | inl is_a ↦ ap (λ x. is_many (near_at near_next x)) is_a ∙ ap is_many at_a ∙ few_a
      | inr not_a ↦
          ap is_many (near_set_other (set near (a - 1) near_a) b e near_b pair.b_from_one not_b ∙ near_set_other near a e near_a pair.a_from_one not_a)
          ∙ false_from_ne_true _ (λ many. both_ways tangled untangled (is.tangle.1 (many_tangle branch e (near_at near e) (is.neighbours e) many)))
    ]
  ]

  tangled_already : tangled ≡ true → IsTangled (longer branch a b)
  tangled_already before = tangled_into branch (longer branch a b) (λ x y. yes_before branch (Yes a b) x y) (is.tangle.0 before)

  -- a pair that was not known
  pub taken : (labels_next : List ℕ) (result : Bool) → near_has (near_at near a) b ≡ false → AreMerged (label_at labels a) (label_at labels b) labels labels_next →
      result ≡ (((label_at labels a == label_at labels b) || is_many near_a) || is_many near_b) → AreChains m (longer branch a b) labels_next near_next (tangled || result)
  taken labels_next result unknown merges result_is = record {
    labels_long = merges.0 ∙ is.labels_long;
    near_long = length-set (set near (a - 1) near_a) (b - 1) near_b ∙ length-set near (a - 1) near_a ∙ is.near_long;
    within = merged_within m (label_at labels a) (label_at labels b) labels labels_next (label_within m labels is.labels_long is.within a pair.a_from_one pair.a_in_range) is.within merges;
    labelled = relabelled;
    neighbours = now;
    tangle = (tangled_yes, tangled_back);
  }
    where
      label_next : (e : ℕ) → label_at labels_next e ≡ merged (label_at labels a) (label_at labels b) (label_at labels e)
      label_next = merged_label m (label_at labels a) (label_at labels b) labels labels_next is.labels_long (label_within m labels is.labels_long is.within b pair.b_from_one pair.b_in_range) merges

      relabelled : IsLabelled (longer branch a b) (label_at labels_next)
      relabelled x y =
          let more = labels_more branch a b (label_at labels) is.labelled x y in (
            (λ same. more.0 (sym (label_next x) ∙ same ∙ label_next y)),
            (λ joined. label_next x ∙ more.1 joined ∙ sym (label_next y)),
          )

      closed : (label_at labels a == label_at labels b) ≡ true → IsTangled (longer branch a b)
      closed same = elim (cases_Bool (yes_of branch a b)) [
        | inl known ↦ tangled_already (is.tangle.1 (many_tangle branch a (near_at near a) (is.neighbours a) (near_missing branch a b (near_at near a) (is.neighbours a) unknown known)))
        | inr never ↦ closes_cycle branch a b (label_at labels) is.labelled pair.different (eqb-true _ _ same) (λ known. both_ways _ never known)
      ]

      tangled_yes : (tangled || result) ≡ true → IsTangled (longer branch a b)
      tangled_yes some = elim (or_cases tangled result some) [
        | inl before ↦ tangled_already before
        | inr new ↦ elim (or_cases ((label_at labels a == label_at labels b) || is_many near_a) (is_many near_b) (sym result_is ∙ new)) [
          | inl first ↦ elim (or_cases (label_at labels a == label_at labels b) (is_many near_a) first) [
            | inl same ↦ closed same
            | inr many ↦ many_tangle (longer branch a b) a (near_at near_next a) (now a) (ap is_many at_a ∙ many)
          ]
          | inr many ↦ many_tangle (longer branch a b) b (near_at near_next b) (now b) (ap is_many at_b ∙ many)
        ]
      ]

      tangled_back : IsTangled (longer branch a b) → (tangled || result) ≡ true
      tangled_back tangle = elim (cases_Bool (tangled || result)) [
        | inl some ↦ some
        | inr none ↦
            let both = or_parts tangled result none in
            let parts = or_parts ((label_at labels a == label_at labels b) || is_many near_a) (is_many near_b) (sym result_is ∙ both.1) in
            let first = or_parts (label_at labels a == label_at labels b) (is_many near_a) parts.0 in
            let old = no_new_tangle branch a b (label_at labels) is.labelled pair.different (eqb-false _ _ first.0) near_next now (few_next both.0 first.1 parts.1) tangle in
            absurd (both_ways tangled both.0 (is.tangle.1 old))
      ]

  -- the same, with what is read and written by places
  pub taken_by : (to from : ℕ) (at_a' at_b' : Near) (labels_next : List ℕ) (has result : Bool) → to ≡ label_at labels a → from ≡ label_at labels b → at_a' ≡ near_a → at_b' ≡ near_b →
      has ≡ near_has (near_at near a) b → has ≡ false → AreMerged to from labels labels_next → result ≡ (((to == from) || is_many at_a') || is_many at_b') →
      AreChains m (longer branch a b) labels_next (set (set near (a - 1) at_a') (b - 1) at_b') (tangled || result)
  taken_by to from at_a' at_b' labels_next has result to_is from_is a_is b_is has_is unknown merges result_is =
      rw (a_is, b_is) (taken labels_next result (sym has_is ∙ unknown) (rw (to_is, from_is) at merges) (rw (to_is, from_is, a_is, b_is) at result_is))

-- at the start each edge is by itself
pub first_chains : (m : ℕ) (labels : List ℕ) (near : List Near) → length labels ≡ m → ((k d : ℕ) → k < m → get_or labels k d ≡ k + 1) → near ≡ replicate m Free → AreChains m [] labels near false
first_chains m labels near long each near_is = record {
  labels_long = long;
  near_long = ap length near_is ∙ length-replicate m Free;
  within = λ k d less. record { from_one = omega (arith, each k d (omega (arith, less, long))); in_range = omega (arith, each k d (omega (arith, less, long)), less, long) };
  labelled = λ a b. ((λ same. ([], sym (own a) ∙ same ∙ own b)), (λ joined. own a ∙ none_joined a b joined.0 joined.1 ∙ sym (own b)));
  neighbours = λ e. subst (AreNear (yes_of [] e)) (sym (free e)) (λ z. refl);
  tangle = ((λ is. cc), none_tangled);
}
  where
    own : (e : ℕ) → label_at labels e ≡ e
    own zero = refl
    own (suc k) = elim (cases_lt k m) [
      | inl within ↦ each k (suc k) within ∙ add-one k
      | inr past ↦ get_or_past labels k (suc k) (omega (arith, long, past))
    ]

    none_joined : (a b : ℕ) (path : List ℕ) → YesPath [] a path b → a ≡ b
    none_joined a b [] joined = joined
    none_joined a b (x ∷ path) joined = cc

    free : (e : ℕ) → near_at near e ≡ Free
    free zero = refl
    free (suc k) = ap (λ xs. get_or xs k Free) near_is ∙ elim (cases_lt k m) [
      | inl within ↦ get_or-replicate m k Free Free within
      | inr past ↦ get_or_past (replicate m Free) k Free (omega (arith, length-replicate m Free, past))
    ]

    none_tangled : IsTangled [] → false ≡ true
    none_tangled (crowded a b is two) = is
    none_tangled (cyclic a b path apart is detour) = is
