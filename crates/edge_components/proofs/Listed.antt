-- The list of the vertices that pass a test.
use Rattle.std.proofs.Common.{◌≡◌, ℕ, zero, suc, ◌<◌, ◌≤◌, ◌==◌, ◌&&◌, ◌||◌, Bool, true, false, List, [], ◌∷◌, ◌++◌, length, get_or, refl, sym, ap, ◌∙◌, subst, arith, inl, inr}
use Rattle.std.specs.Prelude.{if◌then◌else◌}
use Rattle.std.specs.List.{All}
use Rattle.std.specs.List.Sorted.{IsStrictlyIncreasing}
use Rattle.std.proofs.lemmas.Bool.{cases_lt, eq-eqb, ne_eqb, false≢true}
use Rattle.std.proofs.lemmas.List.{append-nil, get_or_append_left}
use Rattle.std.proofs.lemmas.List.Folds.{list_any-append}
use Rattle.std.proofs.lemmas.List.Elements.{All-append, All-cons, All-nil}
use Rattle.carp_base.specs.Problem.{Problem}
use Rattle.cut_pool.specs.Shores.{is_in}
use Rattle.edge_components.specs.Listing.{vertices_where, ListsVertices}
use Rattle.edge_components.proofs.Rising.{rising_push}

-- between 1 and n
pub record IsUpTo (n v : ℕ) : Type 0 where
  pub from_one : 1 ≤ v
  pub most : v ≤ n

one_more : (b : Bool) (n : ℕ) → All (IsUpTo (suc n)) (if b then suc n ∷ [] else [])
one_more true n = All-cons (IsUpTo (suc n)) (suc n) [] (record { from_one = omega arith; most = omega arith }) (All-nil (IsUpTo (suc n)))
one_more false n = All-nil (IsUpTo (suc n))

pub up_to : (inside : ℕ → Bool) (n : ℕ) → All (IsUpTo n) (vertices_where inside n)
up_to inside zero = All-nil (IsUpTo 0)
up_to inside (suc n) =
    All-append (IsUpTo (suc n)) (vertices_where inside n) (if inside (suc n) then suc n ∷ [] else [])
    (λ k d less. let was = up_to inside n k d less in record { from_one = was.from_one; most = omega (arith, was.most) }) (one_more (inside (suc n)) n)

rising_more : (b : Bool) (xs : List ℕ) (n : ℕ) → IsStrictlyIncreasing xs → All (IsUpTo n) xs → IsStrictlyIncreasing (xs ++ (if b then suc n ∷ [] else []))
rising_more true xs n up most = rising_push xs (suc n) up (λ k d less. omega (arith, (most k d less).most))
rising_more false xs n up most = subst (λ l. IsStrictlyIncreasing l) (sym (append-nil xs)) up

pub rising : (inside : ℕ → Bool) (n : ℕ) → IsStrictlyIncreasing (vertices_where inside n)
rising inside zero = λ k less. absurd (omega (arith, less))
rising inside (suc n) = rising_more (inside (suc n)) (vertices_where inside n) n (rising inside n) (up_to inside n)

in_part : (b : Bool) (m v : ℕ) → is_in (if b then m ∷ [] else []) v ≡ (b && (m == v))
in_part true m v = or_nil (m == v)
  where
    or_nil : (c : Bool) → (c || false) ≡ c
    or_nil true = refl
    or_nil false = refl
in_part false m v = refl

at_last : (a b : Bool) (n v : ℕ) → a ≡ false → v ≡ suc n → (a || (b && (suc n == v))) ≡ b
at_last true b n v none is = absurd (false≢true (sym none))
at_last false true n v none is = eq-eqb (suc n) v (sym is)
at_last false false n v none is = refl

not_last : (a b : Bool) (n v : ℕ) → v < suc n → (a || (b && (suc n == v))) ≡ a
not_last true b n v less = refl
not_last false true n v less = ne_eqb (suc n) v (λ same. omega (arith, same, less))
not_last false false n v less = refl

past : (inside : ℕ → Bool) (n v : ℕ) → n < v → is_in (vertices_where inside n) v ≡ false
past inside zero v less = refl
past inside (suc n) v less =
    list_any-append (λ x. x == v) (vertices_where inside n) (if inside (suc n) then suc n ∷ [] else [])
    ∙ ap (λ b. is_in (vertices_where inside n) v || b) (in_part (inside (suc n)) (suc n) v)
    ∙ ap (λ a. a || (inside (suc n) && (suc n == v))) (past inside n v (omega (arith, less)))
    ∙ none (inside (suc n)) (suc n == v) (ne_eqb (suc n) v (λ same. omega (arith, same, less)))
  where
    none : (b c : Bool) → c ≡ false → (b && c) ≡ false
    none true c is = is
    none false c is = refl

pub in_where : (inside : ℕ → Bool) (n v : ℕ) → 1 ≤ v → v ≤ n → is_in (vertices_where inside n) v ≡ inside v
in_where inside zero v one most = absurd (omega (arith, one, most))
in_where inside (suc n) v one most =
    list_any-append (λ x. x == v) (vertices_where inside n) (if inside (suc n) then suc n ∷ [] else [])
    ∙ ap (λ b. is_in (vertices_where inside n) v || b) (in_part (inside (suc n)) (suc n) v)
    ∙ elim (cases_lt v (suc n)) [
      | inl less ↦
          not_last (is_in (vertices_where inside n) v) (inside (suc n)) n v less
          ∙ in_where inside n v one (omega (arith, less))
      | inr last ↦
          let is : v ≡ suc n = omega (arith, last, most) in
          at_last (is_in (vertices_where inside n) v) (inside (suc n)) n v (past inside n v (omega (arith, is))) is
          ∙ ap inside (sym is)
    ]

pub listed_law : (p : Problem) (inside : ℕ → Bool) → ListsVertices p inside (vertices_where inside p.vertices)
listed_law p inside = record {
  rising = rising inside p.vertices;
  within = λ k d less. let is = up_to inside p.vertices k d less in record { from_one = is.from_one; in_range = is.most };
  same = λ v vertex. in_where inside p.vertices v vertex.from_one vertex.in_range;
}

-- the first that passes is the first of the list
none_before : (inside : ℕ → Bool) (n : ℕ) → ((v : ℕ) → 1 ≤ v → v ≤ n → inside v ≡ false) → vertices_where inside n ≡ []
none_before inside zero none = refl
none_before inside (suc n) none =
    ap (λ b. vertices_where inside n ++ (if b then suc n ∷ [] else [])) (none (suc n) (omega arith) (omega arith))
    ∙ append-nil (vertices_where inside n) ∙ none_before inside n (λ v one most. none v one (omega (arith, most)))

pub first_where : (inside : ℕ → Bool) (n r : ℕ) → 1 ≤ r → r ≤ n → inside r ≡ true → ((v : ℕ) → 1 ≤ v → v < r → inside v ≡ false) →
    (0 < length (vertices_where inside n)) × (get_or (vertices_where inside n) 0 0 ≡ r)
first_where inside zero r one most there none = absurd (omega (arith, one, most))
first_where inside (suc n) r one most there none = elim (cases_lt r (suc n)) [
  | inl less ↦
      let before = first_where inside n r one (omega (arith, less)) there none in
      let part = if inside (suc n) then suc n ∷ [] else [] in
      (longer (vertices_where inside n) part before.0, get_or_append_left (vertices_where inside n) part 0 0 before.0 ∙ before.1)
  | inr last ↦
      let is : r ≡ suc n = omega (arith, last, most) in
      let list : vertices_where inside (suc n) ≡ suc n ∷ [] =
      ap (λ xs. xs ++ (if inside (suc n) then suc n ∷ [] else [])) (none_before inside n (λ v from upto. none v from (omega (arith, upto, is))))
      ∙ ap (λ b. if b then suc n ∷ [] else []) (subst (λ k. inside k ≡ true) is there) in
      subst (λ xs. (0 < length xs) × (get_or xs 0 0 ≡ r)) (sym list) (omega arith, sym is)
]
  where
    longer : (xs ys : List ℕ) → 0 < length xs → 0 < length (xs ++ ys)
    longer [] ys some = absurd (omega (arith, some))
    longer (x ∷ xs) ys some = omega arith
