-- Rising lists with the same members are the same.
use Rattle.std.proofs.Common.{◌≡◌, ℕ, suc, ◌+◌, ◌<◌, ◌≤◌, ◌==◌, ◌||◌, Bool, true, false, List, [], ◌∷◌, ◌++◌, length, get_or, refl, sym, ap, ◌∙◌, subst, arith, inl, inr}
use Rattle.std.specs.List.{All, AllByRecursion}
use Rattle.std.specs.List.Sorted.{IsStrictlyIncreasing}
use Rattle.std.proofs.lemmas.Bool.{cases_eq, cases_lt, eq-eqb, ne_eqb, eqb-true, or_cases, or_from, or_left, false≢true}
use Rattle.std.proofs.lemmas.List.{get_or_append_left, get_or_push, length_push, get_or_default}
use Rattle.std.proofs.lemmas.List.Folds.{Any-from_list_any}
use Rattle.cut_pool.specs.Shores.{is_in}

-- each number is below all after it
abbrev pub Rises : List ℕ → Type 0
Rises [] = Unit {0}
Rises (x ∷ xs) = AllByRecursion (λ y. x < y) xs × Rises xs

above_too : (a b : ℕ) (xs : List ℕ) → a < b → AllByRecursion (λ y. b < y) xs → AllByRecursion (λ y. a < y) xs
above_too a b [] less all = tt
above_too a b (x ∷ xs) less all = (omega (arith, less, all.0), above_too a b xs less all.1)

pub rises : (xs : List ℕ) → IsStrictlyIncreasing xs → Rises xs
rises [] up = tt
rises (x ∷ []) up = (tt, tt)
rises (x ∷ (y ∷ ys)) up =
    let first : x < y = up 0 (omega arith) in
    let tail = rises (y ∷ ys) (λ k less.
    let e : suc k + 1 ≡ suc (k + 1) = omega arith in
    subst (λ j. get_or (y ∷ ys) k 0 < get_or (x ∷ (y ∷ ys)) j 0) e (up (suc k) (omega (arith, less)))) in
    ((first, above_too x y ys first tail.0), tail)

not_below : (x : ℕ) (xs : List ℕ) → AllByRecursion (λ y. x < y) xs → is_in xs x ≡ false
not_below x [] above = refl
not_below x (y ∷ ys) above = or_from (y == x) (is_in ys x) (ne_eqb y x (λ same. omega (arith, same, above.0))) (not_below x ys above.1)

is_above : (m v : ℕ) (xs : List ℕ) → AllByRecursion (λ y. m < y) xs → is_in xs v ≡ true → m < v
is_above m v [] above there = absurd (false≢true there)
is_above m v (y ∷ ys) above there = elim (or_cases (y == v) (is_in ys v) there) [
  | inl here ↦ omega (arith, eqb-true y v here, above.0)
  | inr later ↦ is_above m v ys above.1 later
]

skip : (b c : Bool) → b ≡ false → (b || c) ≡ c
skip true c is = absurd (false≢true (sym is))
skip false c is = refl

first_in : (x : ℕ) (xs : List ℕ) → is_in (x ∷ xs) x ≡ true
first_in x xs = or_left (x == x) (is_in xs x) (eq-eqb x x refl)

at_least : (v x : ℕ) (xs : List ℕ) → AllByRecursion (λ y. x < y) xs → is_in (x ∷ xs) v ≡ true → x ≤ v
at_least v x xs above there = elim (or_cases (x == v) (is_in xs v) there) [
  | inl here ↦ omega (arith, eqb-true x v here)
  | inr later ↦ omega (arith, is_above x v xs above later)
]

pub same_list : (xs ys : List ℕ) → Rises xs → Rises ys → ((v : ℕ) → is_in xs v ≡ is_in ys v) → xs ≡ ys
same_list [] [] up_x up_y same = refl
same_list [] (y ∷ ys) up_x up_y same = absurd (false≢true (same y ∙ first_in y ys))
same_list (x ∷ xs) [] up_x up_y same = absurd (false≢true (sym (same x) ∙ first_in x xs))
same_list (x ∷ xs) (y ∷ ys) up_x up_y same =
    let head : x ≡ y = omega (arith, at_least y x xs up_x.0 (same y ∙ first_in y ys), at_least x y ys up_y.0 (sym (same x) ∙ first_in x xs)) in
    let above : AllByRecursion (λ z. x < z) ys = subst (λ h. AllByRecursion (λ z. h < z) ys) (sym head) up_y.0 in
    let tails = same_list xs ys up_x.1 up_y.1 (λ v. elim (cases_eq x v) [
      | inl is ↦ subst (λ w. is_in xs w ≡ is_in ys w) is (not_below x xs up_x.0 ∙ sym (not_below x ys above))
      | inr other ↦
          sym (skip (x == v) (is_in xs v) (ne_eqb x v other)) ∙ same v
          ∙ skip (y == v) (is_in ys v) (ne_eqb y v (λ is. other (head ∙ is)))
    ]) in
    ap (λ h. h ∷ xs) head ∙ ap (λ t. y ∷ t) tails

-- one more number at the end
pub rising_push : (xs : List ℕ) (y : ℕ) → IsStrictlyIncreasing xs → All (λ x. x < y) xs → IsStrictlyIncreasing (xs ++ y ∷ [])
rising_push xs y up below k less = elim (cases_lt (k + 1) (length xs)) [
  | inl before ↦
      let first : get_or (xs ++ y ∷ []) k 0 ≡ get_or xs k 0 = get_or_append_left xs (y ∷ []) 0 k (omega (arith, before)) in
      let second : get_or (xs ++ y ∷ []) (k + 1) 0 ≡ get_or xs (k + 1) 0 = get_or_append_left xs (y ∷ []) 0 (k + 1) before in
      omega (arith, first, second, up k before)
  | inr last ↦
      let here : k < length xs = omega (arith, less, length_push xs y) in
      let end : length xs ≡ k + 1 = omega (arith, here, last) in
      let first : get_or (xs ++ y ∷ []) k 0 ≡ get_or xs k 0 = get_or_append_left xs (y ∷ []) 0 k here in
      let second : get_or (xs ++ y ∷ []) (k + 1) 0 ≡ y = get_or_push xs y 0 (k + 1) end in
      omega (arith, first, second, below k 0 here)
]

-- a member has what all have
pub member_has : (P : ℕ → Type 0) (xs : List ℕ) (v : ℕ) → All P xs → is_in xs v ≡ true → P v
member_has P xs v all there =
    let found = Any-from_list_any (λ x. x == v) xs there in
    let is : get_or xs found.0 0 ≡ v = get_or_default xs found.0 0 found.1 found.2 ∙ found.3 ∙ eqb-true found.1 v found.4 in
    subst P is (all found.0 0 found.2)

pub bool_same : (b c : Bool) → (b ≡ true → c ≡ true) → (c ≡ true → b ≡ true) → b ≡ c
bool_same true true to from = refl
bool_same true false to from = absurd (false≢true (to refl))
bool_same false true to from = absurd (false≢true (from refl))
bool_same false false to from = refl
