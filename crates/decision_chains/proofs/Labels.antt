-- Labels of chains: what one more yes pair does to them.
use Rattle.std.proofs.Common.{◌≡◌, ℕ, ◌==◌, Bool, true, false, ◌||◌, ◌&&◌, List, [], ◌∷◌, ◌++◌, refl, sym, ap, ◌∙◌, inl, inr, ◌⊎◌}
use Rattle.std.specs.Prelude.{if◌then◌else◌}
use Rattle.std.specs.List.{list_any}
use Rattle.std.proofs.lemmas.List.Folds.{list_any-append}
use Rattle.std.proofs.lemmas.Bool.{or_cases, or_left, or_right, eq-eqb, ne_eqb, cases_eq, and_from}
use Rattle.decision_chains.specs.ChainTables.{IsLabelled, merged}
use Rattle.decision_chains.specs.Exclusions.{says_yes, IsYes, YesPath, AreJoined}
use Rattle.decision_chains.specs.declared.decision.Decision.{Decision}
use Rattle.decision_chains.specs.declared.decision.Decision.TheVariants.{Yes}
use Rattle.decision_chains.proofs.YesPairs.{path_append, pair_is}

merged_y : (of_x of_y : ℕ) → merged of_x of_y of_y ≡ of_x
merged_y of_x of_y = ap (λ b. if b then of_x else of_y) (eq-eqb of_y of_y refl)

merged_x : (of_x of_y : ℕ) → merged of_x of_y of_x ≡ of_x
merged_x of_x of_y = go (of_x == of_y)
  where
    go : (b : Bool) → (if b then of_x else of_x) ≡ of_x
    go true = refl
    go false = refl

module _ (branch : List Decision) (x y : ℕ) where
  abbrev pub longer : List Decision
  longer = branch ++ Yes x y ∷ []

  pub yes_cases : (a b : ℕ) → IsYes longer a b → IsYes branch a b ⊎ (says_yes a b (Yes x y) ≡ true)
  yes_cases a b is = elim (or_cases (list_any (says_yes a b) branch) (list_any (says_yes a b) (Yes x y ∷ [])) (sym (list_any-append (says_yes a b) branch (Yes x y ∷ [])) ∙ is)) [
    | inl old ↦ inl old
    | inr new ↦ inr (one (says_yes a b (Yes x y)) new)
  ]
    where
      one : (b : Bool) → (b || false) ≡ true → b ≡ true
      one true h = refl
      one false h = h

  pub yes_old : (a b : ℕ) → IsYes branch a b → IsYes longer a b
  yes_old a b is = list_any-append (says_yes a b) branch (Yes x y ∷ []) ∙ or_left (list_any (says_yes a b) branch) _ is

  pub yes_new : (a b : ℕ) → says_yes a b (Yes x y) ≡ true → IsYes longer a b
  yes_new a b is = list_any-append (says_yes a b) branch (Yes x y ∷ []) ∙ or_right (list_any (says_yes a b) branch) _ (or_left (says_yes a b (Yes x y)) false is)

  pub path_old : (a b : ℕ) (path : List ℕ) → YesPath branch a path b → YesPath longer a path b
  path_old a b [] joined = joined
  path_old a b (z ∷ path) joined = (yes_old a z joined.0, path_old z b path joined.1)

  xy : IsYes longer x y
  xy = yes_new x y (or_left ((x == x) && (y == y)) ((x == y) && (y == x)) (and_from (x == x) (y == y) (eq-eqb x x refl) (eq-eqb y y refl)))

  yx : IsYes longer y x
  yx = yes_new y x (or_right ((x == y) && (y == x)) ((x == x) && (y == y)) (and_from (x == x) (y == y) (eq-eqb x x refl) (eq-eqb y y refl)))

  -- through the new pair
  through : (a b u v : ℕ) → AreJoined branch a u → IsYes longer u v → AreJoined branch v b → AreJoined longer a b
  through a b u v before step after =
      (before.0 ++ (v ∷ after.0), path_append longer a u b before.0 (v ∷ after.0) (path_old a u before.0 before.1) (step, path_old v b after.0 after.1))

  module _ (label : ℕ → ℕ) (labelled : IsLabelled branch label) where
    abbrev pub relabelled : ℕ → ℕ
    relabelled e = merged (label x) (label y) (label e)

    one_label : relabelled x ≡ relabelled y
    one_label = merged_x (label x) (label y) ∙ sym (merged_y (label x) (label y))

    path_label : (a b : ℕ) (path : List ℕ) → YesPath longer a path b → relabelled a ≡ relabelled b
    path_label a b [] joined = ap relabelled joined
    path_label a b (z ∷ path) joined =
        let rest = path_label z b path joined.1 in
        elim (yes_cases a z joined.0) [
          | inl old ↦ ap (merged (label x) (label y)) ((labelled a z).1 (z ∷ [], (old, refl))) ∙ rest
          | inr new ↦ elim (pair_is a z x y new) [
            | inl straight ↦ sym (ap relabelled straight.0) ∙ one_label ∙ ap relabelled straight.1 ∙ rest
            | inr turned ↦ sym (ap relabelled turned.1) ∙ sym one_label ∙ ap relabelled turned.0 ∙ rest
          ]
        ]

    label_path : (a b : ℕ) → relabelled a ≡ relabelled b → AreJoined longer a b
    label_path a b same = elim (cases_eq (label a) (label y)) [
      | inl a_y ↦ elim (cases_eq (label b) (label y)) [
        | inl b_y ↦ old (a_y ∙ sym b_y)
        | inr b_other ↦ through a b y x ((labelled a y).0 a_y) yx ((labelled x b).0 (sym (ap (λ t. if t then label x else label a) (eq-eqb _ _ a_y)) ∙ same ∙ ap (λ t. if t then label x else label b) (ne_eqb _ _ b_other)))
      ]
      | inr a_other ↦ elim (cases_eq (label b) (label y)) [
        | inl b_y ↦ through a b x y ((labelled a x).0 (sym (ap (λ t. if t then label x else label a) (ne_eqb _ _ a_other)) ∙ same ∙ ap (λ t. if t then label x else label b) (eq-eqb _ _ b_y))) xy ((labelled y b).0 (sym b_y))
        | inr b_other ↦ old (sym (ap (λ t. if t then label x else label a) (ne_eqb _ _ a_other)) ∙ same ∙ ap (λ t. if t then label x else label b) (ne_eqb _ _ b_other))
      ]
    ]
      where
        old : label a ≡ label b → AreJoined longer a b
        old e = let joined = (labelled a b).0 e in (joined.0, path_old a b joined.0 joined.1)

    pub labels_more : IsLabelled longer relabelled
    labels_more a b = (label_path a b, (λ joined. path_label a b joined.0 joined.1))
