-- The sets of a matching as odd sets of vertices: nested, odd, and they pack.
use Rattle.std.proofs.Common.{◌≡◌, ◌≢◌, ℕ, zero, suc, ◌+◌, ◌-◌, ◌<◌, ◌≤◌, ◌==◌, ◌||◌, Bool, true, false, not, List, [], ◌∷◌, ◌++◌, length, get_or, refl, sym, ap, ◌∙◌, subst, arith, eq-eqb, inl, inr, ◌⊎◌}
use Rattle.std.specs.Prelude.{if◌then◌else◌, nat_lt}
use Rattle.std.specs.List.{AllByRecursion, list_any}
use Rattle.std.proofs.lemmas.Bool.{cases_lt, cases_order, eqb-true, eqb-false, ne_eqb, lt-ltb, le-ltb, or_cases, or_left, or_right, false≢true}
use Rattle.std.proofs.lemmas.List.{length_push}
use Rattle.std.proofs.lemmas.List.Folds.{list_any-append}
use Rattle.std.proofs.lemmas.List.Sums.{sum_by-cons}
use Rattle.blossom_match.specs.declared.least.Matching.{Matching}
use Rattle.blossom_match.specs.Matching.{total, members}
use Rattle.blossom_match.specs.Answer.{is_among, len_in, member_in, sets_in}
use Rattle.matching_duals.specs.OddSets.{OddSet, AreDistinct, holds, separates, set_halves, weight_between}
use Rattle.matching_duals.specs.Sets.{members_of, set_of, sets_below, sets_of_size, sets_to}
use Rattle.matching_duals.proofs.Parity.{part}
use Rattle.matching_duals.proofs.Sorting.{AreSorted, IsAnyway}
use Rattle.matching_duals.proofs.Totals.{total-same, total-add, total-zero, total-le, total-fewer}

pub bool_same : (b c : Bool) → (b ≡ true → c ≡ true) → (c ≡ true → b ≡ true) → b ≡ c
bool_same true true to from = refl
bool_same true false to from = absurd (false≢true (to refl))
bool_same false true to from = absurd (false≢true (from refl))
bool_same false false to from = refl

any_push : (v : ℕ) (xs : List ℕ) (m : ℕ) → list_any (λ x. x == v) (xs ++ m ∷ []) ≡ (list_any (λ x. x == v) xs || (m == v))
any_push v xs m = list_any-append (λ x. x == v) xs (m ∷ []) ∙ ap (λ b. list_any (λ x. x == v) xs || b) (or_nil (m == v))
  where
    or_nil : (c : Bool) → (c || false) ≡ c
    or_nil true = refl
    or_nil false = refl

pub distinct_push : (xs : List ℕ) (y : ℕ) → AreDistinct xs → list_any (λ x. x == y) xs ≡ false → AreDistinct (xs ++ y ∷ [])
distinct_push [] y distinct none = (refl, tt)
distinct_push (x ∷ xs) y distinct none =
    let apart = split (x == y) (list_any (λ z. z == y) xs) none in
    (any_push x xs y ∙ both (list_any (λ z. z == x) xs) (y == x) distinct.0 (ne_eqb y x (λ same. eqb-false x y apart.0 (sym same))), distinct_push xs y distinct.1 apart.1)
  where
    split : (b c : Bool) → (b || c) ≡ false → (b ≡ false) × (c ≡ false)
    split true c none = absurd (false≢true (sym none))
    split false c none = (refl, none)

    both : (b c : Bool) → b ≡ false → c ≡ false → (b || c) ≡ false
    both true c first second = first
    both false c first second = second

pub all_push : (P : ℕ → Type 0) (xs : List ℕ) (y : ℕ) → AllByRecursion P xs → P y → AllByRecursion P (xs ++ y ∷ [])
all_push P [] y all last = (last, tt)
all_push P (x ∷ xs) y all last = (all.0, all_push P xs y all.1 last)

pub among_from : (n : ℕ) (list : ℕ → ℕ) (u : ℕ) → is_among n list u ≡ true → (j : ℕ) × (j < n) × (list j ≡ suc u)
among_from zero list u there = absurd (false≢true there)
among_from (suc n) list u there = elim (or_cases (list n == suc u) (is_among n list u) there) [
  | inl here ↦ (n, omega arith, eqb-true (list n) (suc u) here)
  | inr before ↦ let found = among_from n list u before in (found.0, omega (arith, found.1), found.2)
]

pub among_to : (n : ℕ) (list : ℕ → ℕ) (u j : ℕ) → j < n → list j ≡ suc u → is_among n list u ≡ true
among_to zero list u j below is = absurd (omega (arith, below))
among_to (suc n) list u j below is = elim (cases_lt j n) [
  | inl before ↦ or_right (list n == suc u) (is_among n list u) (among_to n list u j before is)
  | inr last ↦
      let same : j ≡ n = omega (arith, last, below) in
      or_left (list n == suc u) (is_among n list u) (eq-eqb (list n) (suc u) (ap list (sym same) ∙ is))
]

pub members_few : (n : ℕ) (set : ℕ → Bool) → members n set ≤ n
members_few zero set = omega arith
members_few (suc n) set = omega (arith, members_few n set, one (set n))
  where
    one : (b : Bool) → part b 1 ≤ 1
    one true = omega arith
    one false = omega arith

-- a sum over sets
abbrev pub sum_sets : (OddSet → ℕ) → List OddSet → ℕ
sum_sets f [] = 0
sum_sets f (s ∷ sets) = f s + sum_sets f sets

pub halves_sum : (sets : List OddSet) → set_halves sets ≡ sum_sets (λ s. s.halves) sets
halves_sum [] = refl
halves_sum (s ∷ sets) = omega (arith, halves_sum sets, sum_by-cons (λ x. x.halves) s sets)

pub between_sum : (sets : List OddSet) (u v : ℕ) → weight_between sets u v ≡ sum_sets (λ s. part (separates s u v) s.halves) sets
between_sum [] u v = refl
between_sum (s ∷ sets) u v = omega (arith, between_sum sets u v)

pub none_between : (sets : List OddSet) (v : ℕ) → weight_between sets v v ≡ 0
none_between [] v = refl
none_between (s ∷ sets) v = omega (arith, none_between sets v, one (holds s v) s.halves)
  where
    one : (b : Bool) (n : ℕ) → part (if b then not b else b) n ≡ 0
    one true n = refl
    one false n = refl

module _ (odd : List ℕ) (m : Matching) where
  abbrev set : ℕ → OddSet
  set = set_of odd m

  pub length-members : (i n : ℕ) → length (members_of odd m i n) ≡ n
  length-members i zero = refl
  length-members i (suc n) = omega (arith, length-members i n, length_push (members_of odd m i n) (get_or odd (member_in m i n - 1) 0))

  pub member_from : (i n v : ℕ) → list_any (λ x. x == v) (members_of odd m i n) ≡ true → (j : ℕ) × (j < n) × (get_or odd (member_in m i j - 1) 0 ≡ v)
  member_from i zero v there = absurd (false≢true there)
  member_from i (suc n) v there =
      elim (or_cases (list_any (λ x. x == v) (members_of odd m i n)) (get_or odd (member_in m i n - 1) 0 == v)
      (sym (any_push v (members_of odd m i n) (get_or odd (member_in m i n - 1) 0)) ∙ there)) [
        | inl before ↦ let found = member_from i n v before in (found.0, omega (arith, found.1), found.2)
        | inr here ↦ (n, omega arith, eqb-true (get_or odd (member_in m i n - 1) 0) v here)
      ]

  pub member_to : (i n j v : ℕ) → j < n → get_or odd (member_in m i j - 1) 0 ≡ v → list_any (λ x. x == v) (members_of odd m i n) ≡ true
  member_to i zero j v below is = absurd (omega (arith, below))
  member_to i (suc n) j v below is =
      any_push v (members_of odd m i n) (get_or odd (member_in m i n - 1) 0)
      ∙ elim (cases_lt j n) [
        | inl before ↦ or_left (list_any (λ x. x == v) (members_of odd m i n)) (get_or odd (member_in m i n - 1) 0 == v) (member_to i n j v before is)
        | inr last ↦
            let same : j ≡ n = omega (arith, last, below) in
            or_right (list_any (λ x. x == v) (members_of odd m i n)) (get_or odd (member_in m i n - 1) 0 == v)
            (eq-eqb (get_or odd (member_in m i n - 1) 0) v (ap (λ k. get_or odd (member_in m i k - 1) 0) (sym same) ∙ is))
      ]

  -- what the sets of a list sum to
  one_size : (f : OddSet → ℕ) (size : ℕ) (others : List OddSet) (i : ℕ) →
      sum_sets f (sets_of_size odd m size others i) ≡ sum_sets f others + total i (λ j. part (len_in m j == size) (f (set j)))
  one_size f size others zero = omega arith
  one_size f size others (suc i) = omega (arith, one (len_in m i == size), one_size f size others i)
    where
      one : (b : Bool) → sum_sets f (if b then set i ∷ sets_of_size odd m size others i else sets_of_size odd m size others i)
          ≡ part b (f (set i)) + sum_sets f (sets_of_size odd m size others i)
      one true = refl
      one false = omega arith

  more_sizes : (a n k : ℕ) → part (nat_lt a n) k + part (a == n) k ≡ part (nat_lt a (suc n)) k
  more_sizes a n k = elim (cases_order a n) [
    | inl same ↦
        omega (arith, ap (λ b. part b k) (le-ltb a n (omega (arith, same))), ap (λ b. part b k) (eq-eqb a n same), ap (λ b. part b k) (lt-ltb a (suc n) (omega (arith, same))))
    | inr other ↦ elim other [
      | inl less ↦
          omega (
            arith,
            ap (λ b. part b k) (lt-ltb a n less),
            ap (λ b. part b k) (ne_eqb a n (λ same. omega (arith, same, less))),
            ap (λ b. part b k) (lt-ltb a (suc n) (omega (arith, less))),
          )
      | inr more ↦
          omega (
            arith,
            ap (λ b. part b k) (le-ltb a n (omega (arith, more))),
            ap (λ b. part b k) (ne_eqb a n (λ same. omega (arith, same, more))),
            ap (λ b. part b k) (le-ltb a (suc n) (omega (arith, more))),
          )
    ]
  ]

  all_below : (f : OddSet → ℕ) (size : ℕ) → sum_sets f (sets_below odd m size) ≡ total (sets_in m) (λ j. part (nat_lt (len_in m j) size) (f (set j)))
  all_below f zero =
      sym (total-same (sets_in m) (λ j. part (nat_lt (len_in m j) 0) (f (set j))) (λ j. 0) (λ j _. ap (λ b. part b (f (set j))) (le-ltb (len_in m j) 0 (omega arith)))
      ∙ total-zero (sets_in m))
  all_below f (suc size) =
      one_size f size (sets_below odd m size) (sets_in m)
      ∙ ap (λ k. k + total (sets_in m) (λ j. part (len_in m j == size) (f (set j)))) (all_below f size)
      ∙ sym (total-add (sets_in m) (λ j. part (nat_lt (len_in m j) size) (f (set j))) (λ j. part (len_in m j == size) (f (set j))))
      ∙ total-same (sets_in m) (λ j. part (nat_lt (len_in m j) size) (f (set j)) + part (len_in m j == size) (f (set j))) (λ j. part (nat_lt (len_in m j) (suc size)) (f (set j)))
      (λ j _. more_sizes (len_in m j) size (f (set j)))

  part_most : (b : Bool) (n : ℕ) → part b n ≤ n
  part_most true n = omega arith
  part_most false n = omega arith

  -- at most what all sets sum to
  pub sum_most : (f : OddSet → ℕ) (size i : ℕ) → i ≤ sets_in m → sum_sets f (sets_to odd m size i) ≤ total (sets_in m) (λ j. f (set j))
  sum_most f size i most =
      omega (
        arith,
        one_size f size (sets_below odd m size) i,
        one_size f size (sets_below odd m size) (sets_in m),
        total-fewer i (sets_in m) (λ j. part (len_in m j == size) (f (set j))) most,
        all_below f (suc size),
        total-le (sets_in m) (λ j. part (nat_lt (len_in m j) (suc size)) (f (set j))) (λ j. f (set j)) (λ j _. part_most (nat_lt (len_in m j) (suc size)) (f (set j))),
      )

  pub sum_all : (f : OddSet → ℕ) (n : ℕ) → ((i : ℕ) → i < sets_in m → len_in m i ≤ n) → sum_sets f (sets_below odd m (n + 1)) ≡ total (sets_in m) (λ j. f (set j))
  sum_all f n few =
      all_below f (n + 1)
      ∙ total-same (sets_in m) (λ j. part (nat_lt (len_in m j) (n + 1)) (f (set j))) (λ j. f (set j))
      (λ j below. ap (λ b. part b (f (set j))) (lt-ltb (len_in m j) (n + 1) (omega (arith, few j below))))

  -- a set that stands in a list
  pub record IsOf (size i : ℕ) (r : OddSet) : Type 0 where
    pub number : ℕ
    pub below : number < sets_in m
    pub same : r ≡ set number
    pub before : (len_in m number < size) ⊎ ((len_in m number ≡ size) × (number < i))

  all_map : (P Q : OddSet → Type 0) (xs : List OddSet) → ((x : OddSet) → P x → Q x) → AllByRecursion P xs → AllByRecursion Q xs
  all_map P Q [] turn all = tt
  all_map P Q (x ∷ xs) turn all = (turn x all.0, all_map P Q xs turn all.1)

  later : (size i : ℕ) (r : OddSet) → IsOf size i r → IsOf size (suc i) r
  later size i r is = record {
    number = is.number;
    below = is.below;
    same = is.same;
    before = elim is.before [ inl less ↦ inl less | inr here ↦ inr (here.0, omega (arith, here.1)) ];
  }

  larger : (size i : ℕ) (r : OddSet) → IsOf size i r → IsOf (suc size) 0 r
  larger size i r is = record {
    number = is.number;
    below = is.below;
    same = is.same;
    before = elim is.before [ inl less ↦ inl (omega (arith, less)) | inr here ↦ inl (omega (arith, here.0)) ];
  }

  of_size : (size : ℕ) (others : List OddSet) (i : ℕ) → i ≤ sets_in m → AllByRecursion (IsOf size 0) others → AllByRecursion (IsOf size i) (sets_of_size odd m size others i)
  of_size size others zero most all = all
  of_size size others (suc i) most all =
      let rest = all_map (IsOf size i) (IsOf size (suc i)) (sets_of_size odd m size others i) (later size i) (of_size size others i (omega (arith, most)) all) in
      one (len_in m i == size) refl rest
    where
      one : (b : Bool) → (len_in m i == size) ≡ b → AllByRecursion (IsOf size (suc i)) (sets_of_size odd m size others i) →
          AllByRecursion (IsOf size (suc i)) (if b then set i ∷ sets_of_size odd m size others i else sets_of_size odd m size others i)
      one true is rest = (record { number = i; below = omega (arith, most); same = refl; before = inr (eqb-true (len_in m i) size is, omega arith) }, rest)
      one false is rest = rest

  of_below : (size : ℕ) → AllByRecursion (IsOf size 0) (sets_below odd m size)
  of_below zero = tt
  of_below (suc size) =
      all_map (IsOf size (sets_in m)) (IsOf (suc size) 0) (sets_below odd m (suc size)) (larger size (sets_in m))
      (of_size size (sets_below odd m size) (sets_in m) (omega arith) (of_below size))

  pub of_to : (size i : ℕ) → i ≤ sets_in m → AllByRecursion (IsOf size i) (sets_to odd m size i)
  of_to size i most = of_size size (sets_below odd m size) i most (of_below size)

  -- a property of all sets is one of each list
  pub each_has : (P : OddSet → Type 0) (size i : ℕ) → i ≤ sets_in m → ((j : ℕ) → j < sets_in m → P (set j)) → AllByRecursion P (sets_to odd m size i)
  each_has P size i most has =
      all_map (IsOf size i) P (sets_to odd m size i) (λ r is. subst P (sym is.same) (has is.number is.below)) (of_to size i most)

  -- any two of the sets are nested or disjoint
  module _ (laminar : (i j : ℕ) → i < sets_in m → j < sets_in m → i ≢ j → IsAnyway (set i) (set j)) where
    first_to : (size i : ℕ) → i < sets_in m → len_in m i ≡ size → AllByRecursion (λ r. (length r.members ≤ length (set i).members) × IsAnyway (set i) r) (sets_to odd m size i)
    first_to size i below len =
        all_map (IsOf size i) (λ r. (length r.members ≤ length (set i).members) × IsAnyway (set i) r) (sets_to odd m size i)
        (λ r is.
        let lengths = length-members i (len_in m i) in
        let own = length-members is.number (len_in m is.number) in (
          omega (arith, lengths, own, ap (λ (s : OddSet). length s.members) is.same, len, shorter r is),
          subst (IsAnyway (set i)) (sym is.same) (laminar i is.number below is.below (λ same. apart r is same)),
        ))
        (of_to size i (omega (arith, below)))
      where
        shorter : (r : OddSet) (is : IsOf size i r) → len_in m is.number ≤ size
        shorter r is = elim is.before [ inl less ↦ omega (arith, less) | inr here ↦ omega (arith, here.0) ]

        apart : (r : OddSet) (is : IsOf size i r) → i ≡ is.number → ⊥
        apart r is same = elim is.before [ inl less ↦ omega (arith, less, len, ap (len_in m) same) | inr here ↦ omega (arith, here.1, same) ]

    sorted_size : (size i : ℕ) → i ≤ sets_in m → AreSorted (sets_below odd m size) → AreSorted (sets_to odd m size i)
    sorted_size size zero most below = below
    sorted_size size (suc i) most below = one (len_in m i == size) refl (sorted_size size i (omega (arith, most)) below)
      where
        one : (b : Bool) → (len_in m i == size) ≡ b → AreSorted (sets_to odd m size i) → AreSorted (if b then set i ∷ sets_to odd m size i else sets_to odd m size i)
        one true is rest = (first_to size i (omega (arith, most)) (eqb-true (len_in m i) size is), rest)
        one false is rest = rest

    sorted_below : (size : ℕ) → AreSorted (sets_below odd m size)
    sorted_below zero = tt
    sorted_below (suc size) = sorted_size size (sets_in m) (omega arith) (sorted_below size)

    pub sorted_to : (size i : ℕ) → i ≤ sets_in m → AreSorted (sets_to odd m size i)
    sorted_to size i most = sorted_size size i most (sorted_below size)
