-- A table of surcharges, to which one weight after another is added.
use Rattle.std.proofs.Common.{◌≡◌, ◌≢◌, ℕ, zero, suc, ◌+◌, ◌-◌, ◌*◌, ◌/◌, ◌%◌, ◌≤◌, ◌<◌, ◌==◌, Bool, true, false, ◌&&◌, ◌||◌, cond, List, [], ◌∷◌, length, take, get_or, set, refl, sym, ap, ◌∙◌, subst, add-one, arith, inl, inr, ℤ, pos, ◌+ℤ◌, ◌*ℤ◌}
use Rattle.std.specs.Prelude.{if◌then◌else◌}
use Rattle.std.specs.List.{All}
use Rattle.std.specs.List.Sorted.{IsStrictlyIncreasing}
use Rattle.std.proofs.lemmas.Bool.{cases_eq, eq-eqb, ne_eqb}
use Rattle.std.proofs.lemmas.Int.{ints}
use Rattle.std.proofs.lemmas.List.{get_or-set_same, get_or-set_other, length-set}
use Rattle.std.proofs.lemmas.List.Kept.{AllPairs-from_increasing}
use Rattle.std.proofs.lemmas.Nat.{div-add-mod', div_below, div-mul-add, mod-mul-add, mul-add-lt}
use Rattle.branch_rules.specs.Bonds.{GroupWeight, is_of, bond, entry, surcharge}
use Rattle.branch_rules.specs.Limits.{IsPriceNumber, IsSurcharge}
use Rattle.branch_rules.specs.Sums.{signed_sum}
use Rattle.branch_rules.specs.Tables.{ArePlaced, IsAdded, pair_amount, row_amount, group_amount}
use Rattle.branch_rules.proofs.Places.{all_at}
use Rattle.branch_rules.proofs.Signed.{signed_sum_item, signed_sum_more, signed_sum-none}

-- sums of which at most one term counts
none_yet : (g : ℕ → ℤ) (xs : List ℕ) (i : ℕ) → i ≤ length xs → ((k : ℕ) → k < i → g (get_or xs k 0) ≡ pos 0) → signed_sum g (take i xs) ≡ pos 0
none_yet g xs zero short none = refl
none_yet g xs (suc i) short none =
    let more = rw add-one at (signed_sum_more g xs i 0 (omega (arith, short))) in
    omega (arith, ints, more, none i (omega arith), none_yet g xs i (omega (arith, short)) (λ k less. none k (omega (arith, less))))

rising_less : (xs : List ℕ) (k i : ℕ) → IsStrictlyIncreasing xs → k < i → i < length xs → get_or xs k 0 < get_or xs i 0
rising_less xs k i rising less within = AllPairs-from_increasing xs rising k i 0 less within

tail_rises : (x : ℕ) (xs : List ℕ) → IsStrictlyIncreasing (x ∷ xs) → IsStrictlyIncreasing xs
tail_rises x xs rising = λ k within. rising_less (x ∷ xs) (suc k) (suc (k + 1)) rising (omega arith) (omega (arith, within))

not_of : (xs : List ℕ) (x : ℕ) → ((k : ℕ) → k < length xs → get_or xs k 0 ≢ x) → is_of xs x ≡ false
not_of [] x apart = refl
not_of (y ∷ xs) x apart = ap (λ b. b || is_of xs x) (ne_eqb y x (apart 0 (omega arith))) ∙ not_of xs x (λ k within. apart (suc k) (omega (arith, within)))

head_apart : (x : ℕ) (xs : List ℕ) → IsStrictlyIncreasing (x ∷ xs) → is_of xs x ≡ false
head_apart x xs rising = not_of xs x (λ k within same. omega (arith, same, rising_less (x ∷ xs) 0 (suc k) rising (omega arith) (omega (arith, within))))

abbrev chosen : Bool → ℤ → ℤ
chosen b z = if b then z else pos 0

sum_once : (g : ℕ → ℤ) (xs : List ℕ) (y : ℕ) → IsStrictlyIncreasing xs → ((x : ℕ) → x ≢ y → g x ≡ pos 0) → signed_sum g xs ≡ chosen (is_of xs y) (g y)
sum_once g [] y rising others = refl
sum_once g (x ∷ xs) y rising others = elim (cases_eq x y) [
  | inl is ↦
      let rest : signed_sum g xs ≡ pos 0 =
      sum_once g xs y (tail_rises x xs rising) others ∙ ap (λ b. chosen b (g y)) (ap (is_of xs) (sym is) ∙ head_apart x xs rising) in
      let here : chosen (is_of (x ∷ xs) y) (g y) ≡ g y = ap (λ b. chosen (b || is_of xs y) (g y)) (eq-eqb x y is) in
      omega (arith, ints, rest, here, ap g is)
  | inr other ↦
      let rest = sum_once g xs y (tail_rises x xs rising) others in
      let here : chosen (is_of (x ∷ xs) y) (g y) ≡ chosen (is_of xs y) (g y) = ap (λ b. chosen (b || is_of xs y) (g y)) (ne_eqb x y other) in
      omega (arith, ints, rest, here, others x other)
]

-- what one pair, one row and one group add
pair_none : (w : ℤ) (e f x y : ℕ) → f ≢ y → pair_amount w e f x y ≡ pos 0
pair_none w e f x y other = ap (λ b. chosen ((e == x) && b) w) (ne_eqb f y other) ∙ and_no (e == x)
  where
    and_no : (b : Bool) → chosen (b && false) w ≡ pos 0
    and_no true = refl
    and_no false = refl

row_none : (w : ℤ) (es : List ℕ) (e x y : ℕ) → e ≢ x → row_amount w es e x y ≡ pos 0
row_none w es e x y other =
    signed_sum-none (λ f. pair_amount w e f x y) es (λ f. ap (λ b. chosen (b && (f == y)) w) (ne_eqb e x other))

group_once : (w : ℤ) (es : List ℕ) (x y : ℕ) → IsStrictlyIncreasing es → group_amount w es es x y ≡ w *ℤ pos (bond es x y)
group_once w es x y rising =
    sum_once (λ e. row_amount w es e x y) es x rising (λ e other. row_none w es e x y other)
    ∙ ap (chosen (is_of es x)) (sum_once (λ f. pair_amount w x f x y) es y rising (λ f other. pair_none w x f x y other))
    ∙ ap (λ b. chosen (is_of es x) (chosen (is_of es y) (chosen (b && (y == y)) w))) (eq-eqb x x refl)
    ∙ ap (λ b. chosen (is_of es x) (chosen (is_of es y) (chosen b w))) (eq-eqb y y refl)
    ∙ both (is_of es x) (is_of es y)
  where
    both : (a b : Bool) → chosen a (chosen b w) ≡ w *ℤ pos (cond (a && b) 1 0)
    both true true = omega (arith, ints)
    both true false = omega (arith, ints)
    both false b = omega (arith, ints)

-- places of a table
row_of : (m e f x y : ℕ) → ArePlaced m e f → ArePlaced m x y → (x - 1) * m + (y - 1) ≡ (e - 1) * m + (f - 1) → e ≡ x
row_of m e f x y here there same =
    let one = div-mul-add (e - 1) m (f - 1) (omega (arith, here.f_from, here.f_in)) in
    let two = div-mul-add (x - 1) m (y - 1) (omega (arith, there.f_from, there.f_in)) in
    omega (arith, one, two, ap (λ n. n / m) same, here.e_from, there.e_from)

column_of : (m e f x y : ℕ) → ArePlaced m e f → ArePlaced m x y → (x - 1) * m + (y - 1) ≡ (e - 1) * m + (f - 1) → f ≡ y
column_of m e f x y here there same =
    let one = mod-mul-add (e - 1) m (f - 1) (omega (arith, here.f_from, here.f_in)) in
    let two = mod-mul-add (x - 1) m (y - 1) (omega (arith, there.f_from, there.f_in)) in
    omega (arith, one, two, ap (λ n. n % m) same, here.f_from, there.f_from)

pub place_in : (m e f : ℕ) → ArePlaced m e f → (e - 1) * m + (f - 1) < m * m
place_in m e f here =
    mul-add-lt (e - 1) m (f - 1) m (omega (arith, here.e_from, here.e_in)) (omega (arith, here.f_from, here.f_in))

-- a weight is written at one pair
pub pair_added : (m e f : ℕ) (old new : List ℤ) (w : ℤ) → ArePlaced m e f → length old ≡ m * m → new ≡ set old ((e - 1) * m + (f - 1)) (entry m old e f +ℤ w) → IsAdded m old new (pair_amount w e f)
pair_added m e f old new w here long written = record {
  long = ap length written ∙ length-set old ((e - 1) * m + (f - 1)) (entry m old e f +ℤ w);
  each = λ x y there. elim (cases_eq e x) [
    | inl same_row ↦ elim (cases_eq f y) [
      | inl same_column ↦ at_pair x y same_row same_column
      | inr other ↦ elsewhere x y there (λ same. other (column_of m e f x y here there same)) (pair_none w e f x y other)
    ]
    | inr other ↦ elsewhere x y there (λ same. other (row_of m e f x y here there same)) (ap (λ b. chosen (b && (f == y)) w) (ne_eqb e x other))
  ];
}
  where
    at_pair : (x y : ℕ) → e ≡ x → f ≡ y → entry m new x y ≡ entry m old x y +ℤ pair_amount w e f x y
    at_pair x y row column =
        rw (← row, ← column)
        (ap (λ l. get_or l ((e - 1) * m + (f - 1)) (pos 0)) written
        ∙ get_or-set_same old ((e - 1) * m + (f - 1)) (entry m old e f +ℤ w) (pos 0) (omega (arith, place_in m e f here, long))
        ∙ ap (λ z. entry m old e f +ℤ z) (sym (ap (λ b. chosen (b && (f == f)) w) (eq-eqb e e refl) ∙ ap (λ b. chosen b w) (eq-eqb f f refl))))

    elsewhere : (x y : ℕ) → ArePlaced m x y → (x - 1) * m + (y - 1) ≢ (e - 1) * m + (f - 1) → pair_amount w e f x y ≡ pos 0 → entry m new x y ≡ entry m old x y +ℤ pair_amount w e f x y
    elsewhere x y there other none =
        ap (λ l. get_or l ((x - 1) * m + (y - 1)) (pos 0)) written
        ∙ get_or-set_other old ((e - 1) * m + (f - 1)) ((x - 1) * m + (y - 1)) (entry m old e f +ℤ w) (pos 0) other
        ∙ omega (arith, ints, none)

-- nothing is written at a pair that the table has no number for
pub pair_outside : (m e f : ℕ) (old : List ℤ) (w : ℤ) → ¬ (ArePlaced m e f) → IsAdded m old old (pair_amount w e f)
pair_outside m e f old w outside = record {
  long = refl;
  each = λ x y there. elim (cases_eq e x) [
    | inl same_row ↦ elim (cases_eq f y) [
      | inl same_column ↦ absurd (outside (rw (same_row, same_column) there))
      | inr other ↦ omega (arith, ints, pair_none w e f x y other)
    ]
    | inr other ↦ omega (arith, ints, ap (λ b. chosen (b && (f == y)) w) (ne_eqb e x other))
  ];
}

-- nothing, and one amount after another
pub none_added : (m : ℕ) (old : List ℤ) → IsAdded m old old (λ x y. pos 0)
none_added m old = record { long = refl; each = λ x y there. omega (arith, ints) }

pub row_more : (m e i : ℕ) (es : List ℕ) (w : ℤ) (old now next : List ℤ) → i < length es → IsAdded m old now (row_amount w (take i es) e) →
    IsAdded m now next (pair_amount w e (get_or es i 0)) → IsAdded m old next (row_amount w (take (i + 1) es) e)
row_more m e i es w old now next within before here = record {
  long = here.long ∙ before.long;
  each = λ x y there. omega (arith, ints, before.each x y there, here.each x y there, signed_sum_more (λ f. pair_amount w e f x y) es i 0 within);
}

pub group_more : (m i : ℕ) (es : List ℕ) (w : ℤ) (old now next : List ℤ) → i < length es → IsAdded m old now (group_amount w es (take i es)) →
    IsAdded m now next (row_amount w es (get_or es i 0)) → IsAdded m old next (group_amount w es (take (i + 1) es))
group_more m i es w old now next within before here = record {
  long = here.long ∙ before.long;
  each = λ x y there. omega (arith, ints, before.each x y there, here.each x y there, signed_sum_more (λ e. row_amount w es e x y) es i 0 within);
}

-- the pair and the row that come next have their old numbers
pub pair_untouched : (m e i : ℕ) (es : List ℕ) (w : ℤ) (old now : List ℤ) → IsStrictlyIncreasing es → i < length es → IsAdded m old now (row_amount w (take i es) e) →
    ArePlaced m e (get_or es i 0) → entry m now e (get_or es i 0) ≡ entry m old e (get_or es i 0)
pair_untouched m e i es w old now rising within before there =
    let none = none_yet (λ f. pair_amount w e f e (get_or es i 0)) es i (omega (arith, within))
    (λ k less. pair_none w e (get_or es k 0) e (get_or es i 0) (λ same. omega (arith, same, rising_less es k i rising less within))) in
    omega (arith, ints, before.each e (get_or es i 0) there, none)

pub row_untouched : (m i f : ℕ) (es : List ℕ) (w : ℤ) (old now : List ℤ) → IsStrictlyIncreasing es → i < length es → IsAdded m old now (group_amount w es (take i es)) →
    ArePlaced m (get_or es i 0) f → entry m now (get_or es i 0) f ≡ entry m old (get_or es i 0) f
row_untouched m i f es w old now rising within before there =
    let none = none_yet (λ e. row_amount w es e (get_or es i 0) f) es i (omega (arith, within))
    (λ k less. row_none w es (get_or es k 0) (get_or es i 0) f (λ same. omega (arith, same, rising_less es k i rising less within))) in
    omega (arith, ints, before.each (get_or es i 0) f there, none)

pub still_within : (now old : ℤ) → now ≡ old → IsSurcharge old → IsSurcharge now
still_within now old same within = subst IsSurcharge (sym same) within

-- a group adds its weight to its bonds
pub bonds_added : (m : ℕ) (read es : List ℕ) (number w : ℤ) (old new : List ℤ) → read ≡ es → number ≡ w → IsStrictlyIncreasing es →
    IsAdded m old new (group_amount number read read) → IsAdded m old new (λ x y. w *ℤ pos (bond es x y))
bonds_added m read es number w old new same_edges same_weight rising added = record {
  long = added.long;
  each = λ x y there.
      added.each x y there
      ∙ ap (λ z. entry m old x y +ℤ z)
      (ap (λ (z : ℤ). group_amount z read read x y) same_weight ∙ ap (λ (l : List ℕ). group_amount w l l x y) same_edges ∙ group_once w es x y rising);
}

-- a weight on bonds is within what a weight is
pub bond_within : (w : ℤ) (es : List ℕ) (e f : ℕ) → IsPriceNumber w → IsPriceNumber (w *ℤ pos (bond es e f))
bond_within w es e f within = by_bool (is_of es e && is_of es f)
  where
    by_bool : (b : Bool) → IsPriceNumber (w *ℤ pos (cond b 1 0))
    by_bool true = record { low = omega (arith, ints, within.low); high = omega (arith, ints, within.high) }
    by_bool false = record { low = omega (arith, ints); high = omega (arith, ints) }

pub surcharge_more : (groups : List GroupWeight) (i : ℕ) (w : GroupWeight) (e f : ℕ) → i < length groups → w ≡ get_or groups i w →
    surcharge (take (i + 1) groups) e f ≡ surcharge (take i groups) e f +ℤ (w.weight *ℤ pos (bond w.edges e f))
surcharge_more groups i w e f within is = signed_sum_item (λ (x : GroupWeight). x.weight *ℤ pos (bond x.edges e f)) groups i w within is

-- each number of the table is one of a pair
pub all_placed : (P : ℤ → Type 0) (m : ℕ) (table : List ℤ) → length table ≡ m * m → ((e f : ℕ) → ArePlaced m e f → P (entry m table e f)) → All P table
all_placed P m table long each = all_at P table (pos 0) (λ i less. at i (omega (arith, less, long)))
  where
    at : (i : ℕ) → i < m * m → P (get_or table i (pos 0))
    at i less =
        let some = positive m less in
        let row = div_below i m m some less in
        let whole : (i / m + 1 - 1) * m + (i % m + 1 - 1) ≡ i = parts (i / m) (i % m) ∙ div-add-mod' i m in
        subst (λ k. P (get_or table k (pos 0))) whole
        (each (i / m + 1) (i % m + 1) (record { e_from = omega arith; e_in = omega (arith, row); f_from = omega arith; f_in = omega (arith, some) }))
      where
        positive : (n : ℕ) → i < n * n → 0 < n
        positive zero below = absurd (omega (arith, below))
        positive (suc n) below = omega arith

        parts : (q r : ℕ) → (q + 1 - 1) * m + (r + 1 - 1) ≡ q * m + r
        parts q r =
            let one : q + 1 - 1 ≡ q = omega arith in
            let two : r + 1 - 1 ≡ r = omega arith in
            ap (λ k. k * m + (r + 1 - 1)) one ∙ ap (λ k. q * m + k) two
