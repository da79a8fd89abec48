-- Which bundles cannot share a group.
use Rattle.std.proofs.Common.{◌≡◌, ◌≢◌, ℕ, ◌+◌, ◌≤◌, ◌<◌, ◌↔◌, List, [], ◌∷◌, ◌++◌, length, get_or, slice_index, take, refl, sym, ◌∙◌, subst, arith, inl, inr, ◌⊎◌}
use Rattle.std.specs.List.{All, Contains}
use Rattle.std.proofs.lemmas.List.{get_or_default, take_more}
use Rattle.std.proofs.lemmas.List.Elements.{Contains-append_left, Contains-append_right, Contains-append_cases}
use Rattle.std.proofs.lemmas.Bool.{cases_eq, cases_lt}
use Rattle.carp_base.specs.Problem.{Problem, IsRequired}
use Rattle.packing_trees.specs.declared.node.PackChoice.{PackChoice}
use Rattle.packing_trees.specs.declared.node.PackChoice.TheVariants.{Together, Apart}
use Rattle.packing_trees.specs.Bundles.{AreAllClosed, AreBundles, AreParted, IsChoice, IsClosedPair, IsPair, bundle_of, bundle_weight}
use Rattle.packing_trees.specs.Tables.{AreRefused, Marks, PartsLabels, RowIsClosed, RowIsMarked, RowsAreClosed, SomePartsLabels}
use Rattle.packing_trees.proofs.Naming.{last_is, bundle_required, named_bundles}

turned_choice : (labels : List ℕ) (x : PackChoice) (one other : ℕ) → PartsLabels labels x one other → PartsLabels labels x other one
turned_choice labels (Together c d) one other parts = parts
turned_choice labels (Apart c d) one other (inl parts) = inr parts
turned_choice labels (Apart c d) one other (inr parts) = inl parts

turned : (capacity : ℕ) (labels weights : List ℕ) (branch : List PackChoice) (one other : ℕ) → AreRefused capacity labels weights branch one other → AreRefused capacity labels weights branch other one
turned capacity labels weights branch one other (inl heavy) = inl (omega (arith, heavy))
turned capacity labels weights branch one other (inr some) = inr (record { choice = some.choice; stands = some.stands; parts = turned_choice labels some.choice one other some.parts })

module _ (p : Problem) (branch : List PackChoice) (labels weights : List ℕ) (are : AreBundles p branch labels weights) (choices : All (IsChoice p) branch) where
  chosen : (c d : ℕ) → Contains branch (Apart c d) → IsPair p c d
  chosen c d stands = let P : PackChoice → Type 0 = IsChoice p in subst P stands.2 (choices stands.0 (Apart c d) stands.1)

  of_first : (c d : ℕ) → Contains branch (Apart c d) → slice_index labels c ≡ bundle_of branch c
  of_first c d stands = let pair = chosen c d stands in are.labelled c (record { from_one = pair.0; in_range = omega (arith, pair.1, pair.2) })

  of_second : (c d : ℕ) → Contains branch (Apart c d) → slice_index labels d ≡ bundle_of branch d
  of_second c d stands = let pair = chosen c d stands in are.labelled d (record { from_one = omega (arith, pair.0, pair.1); in_range = pair.2 })

  parted_from : (choice : PackChoice) (a b : ℕ) → Contains branch choice → PartsLabels labels choice (bundle_of branch a) (bundle_of branch b) → AreParted branch a b
  parted_from (Together c d) a b stands parts = absurd parts
  parted_from (Apart c d) a b stands (inl parts) = record { c = c; d = d; apart = stands; between = inl (sym (of_first c d stands) ∙ parts.0, sym (of_second c d stands) ∙ parts.1) }
  parted_from (Apart c d) a b stands (inr parts) = record { c = c; d = d; apart = stands; between = inr (sym (of_first c d stands) ∙ parts.0, sym (of_second c d stands) ∙ parts.1) }

  parted_to : (a b : ℕ) → AreParted branch a b → SomePartsLabels labels branch (bundle_of branch a) (bundle_of branch b)
  parted_to a b x = record {
    choice = Apart x.c x.d;
    stands = x.apart;
    parts = elim x.between [
      | inl straight ↦ inl (of_first x.c x.d x.apart ∙ straight.0, of_second x.c x.d x.apart ∙ straight.1)
      | inr turned ↦ inr (of_first x.c x.d x.apart ∙ turned.0, of_second x.c x.d x.apart ∙ turned.1)
    ];
  }

  first_of : (a b : ℕ) → IsPair p a b → IsRequired p a
  first_of a b pair = record { from_one = pair.0; in_range = omega (arith, pair.1, pair.2) }

  second_of : (a b : ℕ) → IsPair p a b → IsRequired p b
  second_of a b pair = record { from_one = omega (arith, pair.0, pair.1); in_range = pair.2 }

  pub bundle_in : (e : ℕ) → IsRequired p e → IsRequired p (bundle_of branch e)
  bundle_in e required = bundle_required p branch e choices required

  pub labels_in : (e : ℕ) → 1 ≤ e → e < length labels → slice_index labels e < length labels
  labels_in e one less =
      let required : IsRequired p e = record { from_one = one; in_range = omega (arith, less, are.label_each) } in
      omega (arith, are.labelled e required, (bundle_in e required).in_range, are.label_each)

  -- the label that is read at an edge of a pair
  pub first_label : (a b d : ℕ) → IsPair p a b → d ≡ get_or labels a d → d ≡ bundle_of branch a
  first_label a b d pair is = is ∙ get_or_default labels a d 0 (omega (arith, pair.1, pair.2, are.label_each)) ∙ are.labelled a (first_of a b pair)

  pub second_label : (a b d : ℕ) → IsPair p a b → d ≡ get_or labels b d → d ≡ bundle_of branch b
  second_label a b d pair is = is ∙ get_or_default labels b d 0 (omega (arith, pair.2, are.label_each)) ∙ are.labelled b (second_of a b pair)

  pub first_in : (a b : ℕ) → IsPair p a b → IsRequired p (bundle_of branch a)
  first_in a b pair = bundle_in a (first_of a b pair)

  pub second_in : (a b : ℕ) → IsPair p a b → IsRequired p (bundle_of branch b)
  second_in a b pair = bundle_in b (second_of a b pair)

  weight_is : (e : ℕ) → IsRequired p e → slice_index weights (bundle_of branch e) ≡ bundle_weight p branch (bundle_of branch e)
  weight_is e required = are.weighed (bundle_of branch e) (bundle_in e required)

  pub closed_from : (a b : ℕ) → IsPair p a b → AreRefused p.capacity labels weights branch (bundle_of branch a) (bundle_of branch b) → IsClosedPair p branch a b
  closed_from a b pair (inl heavy) = inr (inr (omega (arith, heavy, weight_is a (first_of a b pair), weight_is b (second_of a b pair))))
  closed_from a b pair (inr some) = inr (inl (parted_from some.choice a b some.stands some.parts))

  pub refused_from : (a b : ℕ) → IsPair p a b → bundle_of branch a ≢ bundle_of branch b → IsClosedPair p branch a b → AreRefused p.capacity labels weights branch (bundle_of branch a) (bundle_of branch b)
  refused_from a b pair unlike (inl same) = absurd (unlike same)
  refused_from a b pair unlike (inr (inl parted)) = inr (parted_to a b parted)
  refused_from a b pair unlike (inr (inr heavy)) = inl (omega (arith, heavy, weight_is a (first_of a b pair), weight_is b (second_of a b pair)))

  root : (e : ℕ) → IsRequired p e → slice_index labels (bundle_of branch e) ≡ bundle_of branch e
  root e required = are.labelled (bundle_of branch e) (bundle_in e required) ∙ (named_bundles branch).itself e

  pub all_from : RowsAreClosed p.capacity labels weights branch → AreAllClosed p branch
  all_from rows a b pair =
      let a_in = bundle_in a (first_of a b pair) in
      let b_in = bundle_in b (second_of a b pair) in
      let a_root = root a (first_of a b pair) in
      let b_root = root b (second_of a b pair) in
      elim (cases_eq (bundle_of branch a) (bundle_of branch b)) [
        | inl same ↦ inl same
        | inr unlike ↦ closed_from a b pair (elim (cases_lt (bundle_of branch a) (bundle_of branch b)) [
          | inl less ↦ rows (bundle_of branch a) a_in.from_one (omega (arith, a_in.in_range, are.label_each)) a_root (bundle_of branch b) less (omega (arith, b_in.in_range, are.label_each)) b_root
          | inr more ↦ turned p.capacity labels weights branch (bundle_of branch b) (bundle_of branch a)
              (rows (bundle_of branch b) b_in.from_one (omega (arith, b_in.in_range, are.label_each)) b_root (bundle_of branch a) (omega (arith, more, unlike)) (omega (arith, a_in.in_range, are.label_each)) a_root)
        ])
      ]

  pub rows_from : AreAllClosed p branch → RowsAreClosed p.capacity labels weights branch
  rows_from all one from_one less is other more less' is' =
      let pair : IsPair p one other = (from_one, more, omega (arith, less', are.label_each)) in
      let one_is : bundle_of branch one ≡ one = sym (are.labelled one (first_of one other pair)) ∙ is in
      let other_is : bundle_of branch other ≡ other = sym (are.labelled other (second_of one other pair)) ∙ is' in
      let refused = refused_from one other pair (λ same. omega (arith, same, one_is, other_is, more)) (all one other pair) in
      subst (λ n. AreRefused p.capacity labels weights branch one n) other_is (subst (λ n. AreRefused p.capacity labels weights branch n (bundle_of branch other)) one_is refused)

-- One choice more.
module _ (labels : List ℕ) (one : ℕ) where
  some_before : (branch : List PackChoice) (x : PackChoice) (k : ℕ) → SomePartsLabels labels branch one k → SomePartsLabels labels (branch ++ x ∷ []) one k
  some_before branch x k some = record { choice = some.choice; stands = Contains-append_left branch (x ∷ []) some.choice some.stands; parts = some.parts }

  some_last : (branch : List PackChoice) (x : PackChoice) (k : ℕ) → PartsLabels labels x one k → SomePartsLabels labels (branch ++ x ∷ []) one k
  some_last branch x k parts = record { choice = x; stands = Contains-append_right branch (x ∷ []) x (0, omega arith, refl); parts = parts }

  some_cases : (branch : List PackChoice) (x : PackChoice) (k : ℕ) → SomePartsLabels labels (branch ++ x ∷ []) one k → SomePartsLabels labels branch one k ⊎ PartsLabels labels x one k
  some_cases branch x k some = elim (Contains-append_cases branch (x ∷ []) some.choice some.stands) [
    | inl old ↦ inl (record { choice = some.choice; stands = old; parts = some.parts })
    | inr new ↦ inr (let P : PackChoice → Type 0 = λ y. PartsLabels labels y one k in subst P (sym (last_is x some.choice new.0 new.1 new.2)) some.parts)
  ]

  pub marked_more : (branch : List PackChoice) (i : ℕ) (d : PackChoice) (old new : List ℕ) → i < length branch →
      ((k : ℕ) → k < length labels → (slice_index old k ≡ one) ↔ SomePartsLabels labels (take i branch) one k) → Marks labels (get_or branch i d) one old new →
      (k : ℕ) → k < length labels → (slice_index new k ≡ one) ↔ SomePartsLabels labels (take (i + 1) branch) one k
  marked_more branch i d old new less before step k within = rw (take_more branch i d less) (
    (λ is. elim ((step k within).0 is) [
      | inl was ↦ some_before (take i branch) (get_or branch i d) k ((before k within).0 was)
      | inr parts ↦ some_last (take i branch) (get_or branch i d) k parts
    ]),
    (λ some. (step k within).1 (elim (some_cases (take i branch) (get_or branch i d) k some) [
      | inl was ↦ inl ((before k within).1 was)
      | inr parts ↦ inr parts
    ])),
  )

  pub row_from : (capacity : ℕ) (weights marks : List ℕ) (branch : List PackChoice) → ((k : ℕ) → k < length labels → (slice_index marks k ≡ one) ↔ SomePartsLabels labels branch one k) →
      RowIsMarked capacity labels weights marks one ↔ RowIsClosed capacity labels weights branch one
  row_from capacity weights marks branch marked = (
    (λ row other more less is. elim (row other more less is) [ inl heavy ↦ inl heavy | inr mark ↦ inr ((marked other less).0 mark) ]),
    (λ row other more less is. elim (row other more less is) [ inl heavy ↦ inl heavy | inr some ↦ inr ((marked other less).1 some) ]),
  )
