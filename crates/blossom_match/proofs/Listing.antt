-- The members of a set, listed.
use Rattle.std.proofs.Common.{◌≡◌, ℕ, zero, suc, ◌<◌, ◌≤◌, Bool, true, false, ◌||◌, cond, eqb, List, [], ◌∷◌, ◌++◌, length, get_or, refl, sym, subst, ap, ◌∙◌, arith, inl, inr}
use Rattle.std.proofs.lemmas.Bool.{cases_eq, cases_lt, cases_Bool, eq-eqb, ne_eqb}
use Rattle.std.proofs.lemmas.List.{get_or_append_left, get_or_at, length-append}
use Rattle.blossom_match.specs.Matching.{members}
use Rattle.blossom_match.specs.Unfolded.{listed}
use Rattle.blossom_match.specs.Answer.{is_among, IsListed}
use Rattle.blossom_match.proofs.Totals.{total-ext}

pub listed_on : (n : ℕ) (set : ℕ → Bool) → set n ≡ true → listed (suc n) set ≡ listed n set ++ (suc n ∷ [])
listed_on n set on = ap (λ b. cond b (listed n set ++ (suc n ∷ [])) (listed n set)) on

pub listed_off : (n : ℕ) (set : ℕ → Bool) → set n ≡ false → listed (suc n) set ≡ listed n set
listed_off n set off = ap (λ b. cond b (listed n set ++ (suc n ∷ [])) (listed n set)) off

pub listed_ext : (n : ℕ) (f g : ℕ → Bool) → ((v : ℕ) → v < n → f v ≡ g v) → listed n f ≡ listed n g
listed_ext zero f g same = refl
listed_ext (suc n) f g same =
    ap (λ b. cond b (listed n f ++ (suc n ∷ [])) (listed n f)) (same n (omega arith))
    ∙ ap (λ l. cond (g n) (l ++ (suc n ∷ [])) l) (listed_ext n f g (λ v below. same v (omega arith)))

pub len_push : (xs : List ℕ) (x : ℕ) → length (xs ++ (x ∷ [])) ≡ suc (length xs)
len_push xs x = omega (arith, length-append xs (x ∷ []))

pub listed_len : (n : ℕ) (set : ℕ → Bool) → length (listed n set) ≡ members n set
listed_len zero set = refl
listed_len (suc n) set = elim (cases_Bool (set n)) [
  | inl on ↦
      let one : cond {A = ℕ} (set n) 1 0 ≡ 1 = ap (λ b. cond {A = ℕ} b 1 0) on in
      omega (arith, ap length (listed_on n set on), len_push (listed n set) (suc n), listed_len n set, one)
  | inr off ↦
      let none : cond {A = ℕ} (set n) 1 0 ≡ 0 = ap (λ b. cond {A = ℕ} b 1 0) off in
      omega (arith, ap length (listed_off n set off), listed_len n set, none)
]

-- a property of the numbers at each place
pub listed_all : (n : ℕ) (set : ℕ → Bool) (j : ℕ) → j < length (listed n set) → (1 ≤ get_or (listed n set) j 0) × (get_or (listed n set) j 0 ≤ n)
listed_all zero set j below = absurd (omega (arith, below))
listed_all (suc n) set j below = elim (cases_Bool (set n)) [
  | inr off ↦
      let r = listed_all n set j (subst (λ l. j < length l) (listed_off n set off) below) in
      subst (λ l. (1 ≤ get_or l j 0) × (get_or l j 0 ≤ suc n)) (sym (listed_off n set off)) (r.0, omega (arith, r.1))
  | inl on ↦ subst (λ l. (1 ≤ get_or l j 0) × (get_or l j 0 ≤ suc n)) (sym (listed_on n set on)) (elim (cases_lt j (length (listed n set))) [
    | inl less ↦
        let r = listed_all n set j less in
        let same = get_or_append_left (listed n set) (suc n ∷ []) 0 j less in
        (omega (arith, r.0, same), omega (arith, r.1, same))
    | inr more ↦
        let long = len_push (listed n set) (suc n) in
        let here = subst (λ l. j < length l) (listed_on n set on) below in
        let last = get_or_at (listed n set) (suc n) [] 0 j (omega (arith, more, long, here)) in
        (omega (arith, last), omega (arith, last))
  ])
]

pub listed_rising : (n : ℕ) (set : ℕ → Bool) (i j : ℕ) → i < j → j < length (listed n set) → get_or (listed n set) i 0 < get_or (listed n set) j 0
listed_rising zero set i j less below = absurd (omega (arith, below))
listed_rising (suc n) set i j less below = elim (cases_Bool (set n)) [
  | inr off ↦ subst (λ l. get_or l i 0 < get_or l j 0) (sym (listed_off n set off)) (listed_rising n set i j less (subst (λ l. j < length l) (listed_off n set off) below))
  | inl on ↦ subst (λ l. get_or l i 0 < get_or l j 0) (sym (listed_on n set on)) (
      let long = len_push (listed n set) (suc n) in
      let here = subst (λ l. j < length l) (listed_on n set on) below in
      let i_in : i < length (listed n set) = omega (arith, less, long, here) in
      let at_i = get_or_append_left (listed n set) (suc n ∷ []) 0 i i_in in
      elim (cases_lt j (length (listed n set))) [
        | inl j_in ↦ omega (arith, at_i, get_or_append_left (listed n set) (suc n ∷ []) 0 j j_in, listed_rising n set i j less j_in)
        | inr more ↦ omega (arith, at_i, get_or_at (listed n set) (suc n) [] 0 j (omega (arith, more, long, here)), (listed_all n set i i_in).1)
      ])
]

pub among_ext : (k : ℕ) (f g : ℕ → ℕ) (v : ℕ) → ((j : ℕ) → j < k → f j ≡ g j) → is_among k f v ≡ is_among k g v
among_ext zero f g v same = refl
among_ext (suc k) f g v same =
    ap (λ x. eqb x (suc v) || is_among k f v) (same k (omega arith)) ∙ ap (λ b. eqb (g k) (suc v) || b) (among_ext k f g v (λ j below. same j (omega arith)))

among_none : (k : ℕ) (f : ℕ → ℕ) (v : ℕ) → ((j : ℕ) → j < k → f j ≡ suc v → ⊥) → is_among k f v ≡ false
among_none zero f v none = refl
among_none (suc k) f v none =
    ap (λ b. b || is_among k f v) (ne_eqb (f k) (suc v) (none k (omega arith))) ∙ among_none k f v (λ j below. none j (omega arith))

pub listed_among : (n : ℕ) (set : ℕ → Bool) (v : ℕ) → v < n → is_among (length (listed n set)) (λ j. get_or (listed n set) j 0) v ≡ set v
listed_among zero set v below = absurd (omega arith)
listed_among (suc n) set v below = elim (cases_Bool (set n)) [
  | inr off ↦ subst (λ l. is_among (length l) (λ j. get_or l j 0) v ≡ set v) (sym (listed_off n set off)) (elim (cases_eq v n) [
    | inl same ↦ among_none (length (listed n set)) (λ j. get_or (listed n set) j 0) v (λ j j_in is. omega (arith, (listed_all n set j j_in).1, is, same)) ∙ sym (ap set same ∙ off)
    | inr other ↦ listed_among n set v (omega (arith, other, below))
  ])
  | inl on ↦ subst (λ l. is_among (length l) (λ j. get_or l j 0) v ≡ set v) (sym (listed_on n set on)) (
      subst (λ k. is_among k (λ j. get_or (listed n set ++ (suc n ∷ [])) j 0) v ≡ set v) (sym (len_push (listed n set) (suc n))) (
      let last : get_or (listed n set ++ (suc n ∷ [])) (length (listed n set)) 0 ≡ suc n = get_or_at (listed n set) (suc n) [] 0 (length (listed n set)) refl in
      let rest : is_among (length (listed n set)) (λ j. get_or (listed n set ++ (suc n ∷ [])) j 0) v ≡ is_among (length (listed n set)) (λ j. get_or (listed n set) j 0) v =
      among_ext (length (listed n set)) (λ j. get_or (listed n set ++ (suc n ∷ [])) j 0) (λ j. get_or (listed n set) j 0) v (λ j j_in. get_or_append_left (listed n set) (suc n ∷ []) 0 j j_in) in
      ap (λ x. eqb x (suc v) || is_among (length (listed n set)) (λ j. get_or (listed n set ++ (suc n ∷ [])) j 0) v) last
      ∙ ap (λ b. eqb (suc n) (suc v) || b) rest
      ∙ elim (cases_eq v n) [
        | inl same ↦ ap (λ b. b || is_among (length (listed n set)) (λ j. get_or (listed n set) j 0) v) (eq-eqb (suc n) (suc v) (omega (arith, same))) ∙ sym (ap set same ∙ on)
        | inr other ↦ ap (λ b. b || is_among (length (listed n set)) (λ j. get_or (listed n set) j 0) v) (ne_eqb (suc n) (suc v) (λ e. other (omega (arith, e))))
            ∙ listed_among n set v (omega (arith, other, below))
      ]))
]

-- a list of these numbers names the members of the set
pub listed_is : (n k : ℕ) (set : ℕ → Bool) (list : ℕ → ℕ) → k ≡ length (listed n set) → ((j : ℕ) → j < k → list j ≡ get_or (listed n set) j 0) →
    ((v : ℕ) → v < n → is_among k list v ≡ set v) × IsListed n k list
listed_is n k set list long is =
    let same : (v : ℕ) → v < n → is_among k list v ≡ set v = λ v v_in.
    among_ext k list (λ j. get_or (listed n set) j 0) v is ∙ ap (λ x. is_among x (λ j. get_or (listed n set) j 0) v) long ∙ listed_among n set v v_in in (
      same,
      record {
        range = λ j below.
            let r = listed_all n set j (omega (arith, below, long)) in
            (omega (arith, r.0, is j below), omega (arith, r.1, is j below));
        rising = λ i j less below. omega (arith, listed_rising n set i j less (omega (arith, below, long)), is i (omega (arith, less, below)), is j below);
        count =
            total-ext n (λ v. cond (is_among k list v) 1 0) (λ v. cond (set v) 1 0) (λ v v_in. ap (λ b. cond b 1 0) (same v v_in))
            ∙ sym (listed_len n set) ∙ sym long;
      },
    )
