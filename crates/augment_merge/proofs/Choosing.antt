-- The best of joins: the order of joins, and what is best of two sorts of joins together.
use Rattle.std.proofs.Common.{◌≡◌, ℕ, ◌+◌, ◌<◌, ◌⊎◌, inl, inr, refl, subst, ◌∙◌, arith, List}
use Rattle.std.specs.Prelude.{Option, None, Some, slice_index_or}
use Rattle.std.proofs.lemmas.Bool.{cases_lt}
use Rattle.augment_merge.specs.declared.joins.Join.{Join}
use Rattle.augment_merge.specs.Merging.{JoinNoLater}
use Rattle.augment_merge.specs.Outlines.{FindsBest, IsFirstOfJoins, StandsInRows}

-- the first numbers that differ tell, over numbers between; of two such the lesser, or the greater
through : {A B C : Type 0} (x y z : ℕ) → (A → B → C) → (x < y) ⊎ ((x ≡ y) × A) → (y < z) ⊎ ((y ≡ z) × B) → (x < z) ⊎ ((x ≡ z) × C)
through x y z onward (inl less) (inl less') = inl (omega arith)
through x y z onward (inl less) (inr same) = inl (let e = same.0 in omega arith)
through x y z onward (inr same) (inl less) = inl (let e = same.0 in omega arith)
through x y z onward (inr same) (inr same') = inr (same.0 ∙ same'.0, onward same.1 same'.1)

downward : {A B C : Type 0} (x y z : ℕ) → (A → B → C) → (y < x) ⊎ ((x ≡ y) × A) → (z < y) ⊎ ((y ≡ z) × B) → (z < x) ⊎ ((x ≡ z) × C)
downward x y z onward (inl less) (inl less') = inl (omega arith)
downward x y z onward (inl less) (inr same) = inl (let e = same.0 in omega arith)
downward x y z onward (inr same) (inl less) = inl (let e = same.0 in omega arith)
downward x y z onward (inr same) (inr same') = inr (same.0 ∙ same'.0, onward same.1 same'.1)

pub no_later_over : (i j k : Join) → JoinNoLater i j → JoinNoLater j k → JoinNoLater i k
no_later_over i j k =
    downward i.saving j.saving k.saving (through i.first j.first k.first (through i.second j.second k.second (λ m n. omega arith)))

pub found_some : (P : Join → Type 0) (x : Option Join) (j : Join) → FindsBest P x → P j → (b : Join) × (x ≡ Some b) × IsFirstOfJoins P b
found_some P None j none has = absurd (none j has)
found_some P (Some b) j best has = (b, refl, best)

-- the best of two sorts of joins is the first of the best of each
pub finds_over : (P Q R : Join → Type 0) (x y z : Option Join) → FindsBest P x → FindsBest Q y → FindsBest (λ j. (x ≡ Some j) ⊎ (y ≡ Some j)) z →
    ((j : Join) → R j → P j ⊎ Q j) → ((j : Join) → P j → R j) → ((j : Join) → Q j → R j) → FindsBest R z
finds_over P Q R x y None one other none parts left right = λ j has. elim (parts j has) [
  | inl p ↦ let f = found_some P x j one p in none f.0 (inl f.1)
  | inr q ↦ let f = found_some Q y j other q in none f.0 (inr f.1)
]
finds_over P Q R x y (Some b) one other best parts left right = record {
  has = elim best.has [
    | inl is ↦ left b (let found : FindsBest P (Some b) = subst (FindsBest P) is one in found.has)
    | inr is ↦ right b (let found : FindsBest Q (Some b) = subst (FindsBest Q) is other in found.has)
  ];
  first = λ j has. elim (parts j has) [
    | inl p ↦ let f = found_some P x j one p in no_later_over b f.0 j (best.first f.0 (inl f.1)) (f.2.first j p)
    | inr q ↦ let f = found_some Q y j other q in no_later_over b f.0 j (best.first f.0 (inr f.1)) (f.2.first j q)
  ];
}

-- joins of one sort under two descriptions
pub finds_same : (P Q : Join → Type 0) (x : Option Join) → ((j : Join) → P j → Q j) → ((j : Join) → Q j → P j) → FindsBest P x → FindsBest Q x
finds_same P Q None there back none = λ j has. none j (back j has)
finds_same P Q (Some b) there back best = record { has = there b best.has; first = λ j has. best.first j (back j has) }

pub no_later_itself : (j : Join) → JoinNoLater j j
no_later_itself j = inr (refl, inr (refl, inr (refl, omega arith)))

-- the best of one join is that
finds_one : (x : Option Join) → FindsBest (λ j. x ≡ Some j) x
finds_one None = λ j is. cc
finds_one (Some b) = record { has = refl; first = λ j is. subst (JoinNoLater b) (let same : b ≡ j = cc in same) (no_later_itself b) }

-- one row more
pub rows_more : (rows : List (Option Join)) (i : ℕ) (best next : Option Join) → FindsBest (StandsInRows rows i) best →
    FindsBest (λ j. (best ≡ Some j) ⊎ (slice_index_or rows i None ≡ Some j)) next → FindsBest (StandsInRows rows (i + 1)) next
rows_more rows i best next so_far better =
    finds_over (StandsInRows rows i) (λ j. slice_index_or rows i None ≡ Some j) (StandsInRows rows (i + 1)) best (slice_index_or rows i None) next so_far
    (finds_one (slice_index_or rows i None)) better
    (λ j stands. elim (cases_lt stands.row i) [
      | inl below ↦ inl (record { row = stands.row; in_range = below; is = stands.is })
      | inr above ↦ inr (let at : stands.row ≡ i = let below = stands.in_range in omega arith in rw (← at) stands.is)
    ])
    (λ j stands. record { row = stands.row; in_range = let below = stands.in_range in omega arith; is = stands.is })
    (λ j is. record { row = i; in_range = omega arith; is = is })
