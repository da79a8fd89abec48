-- A level holds exactly its set's members among the odd vertices, and levels are nested or disjoint.
use Rattle.std.proofs.Common.{◌≡◌, ℕ, ◌*◌, ◌<◌, ◌≤◌, Bool, true, false, List, [], ◌∷◌, ◌++◌, drop, get_or, refl, sym, ap, ◌∙◌, subst, arith, inl, inr, ◌⊎◌}
use Rattle.std.specs.List.{AllByRecursion}
use Rattle.std.proofs.lemmas.Bool.{cases_lt, cases_Bool, le-leb, lt-leb, leb-true, false≢true}
use Rattle.carp_base.specs.Problem.{Problem, IsVertex}
use Rattle.matching_duals.specs.OddSets.{OddSet, holds, enclosing_weight, LiesIn, LiesOutside, IsFamily, StandsIn, is_odd, depth, level}
use Rattle.matching_duals.proofs.Deep.{depth-least, depth-reached, enclosing-in, between}
use Rattle.matching_duals.proofs.Packing.{family_rest, near_member}

-- one set of vertices lies in the other, or they share none
pub data AreNestedOrApart (p : Problem) (f g : ℕ → Bool) : Type 0 where
  first_in : ((v : ℕ) → IsVertex p v → f v ≡ true → g v ≡ true) → AreNestedOrApart p f g
  second_in : ((v : ℕ) → IsVertex p v → g v ≡ true → f v ≡ true) → AreNestedOrApart p f g
  apart : ((v : ℕ) → IsVertex p v → f v ≡ true → g v ≡ false) → AreNestedOrApart p f g

pub all_after : {X : Type 0} (P : X → Type 0) (before rest : List X) (x : X) → AllByRecursion P (before ++ (x ∷ rest)) → P x
all_after P [] rest x all = all.0
all_after P (y ∷ before) rest x all = all_after P before rest x all.1

enclosing_after : (before rest : List OddSet) (v : ℕ) → enclosing_weight rest v ≤ enclosing_weight (before ++ rest) v
enclosing_after [] rest v = omega arith
enclosing_after (s ∷ before) rest v = omega (arith, enclosing_after before rest v)

cons_tail : {X : Type 0} (x y : X) (xs ys : List X) → x ∷ xs ≡ y ∷ ys → xs ≡ ys
cons_tail x y xs ys same = ap (drop 1) same

cons_head : {X : Type 0} (x y : X) (xs ys : List X) → x ∷ xs ≡ y ∷ ys → x ≡ y
cons_head x y xs ys same = ap (λ zs. get_or zs 0 x) same

module _ (p : Problem) (d : ℕ → ℕ → ℕ) where
  family_after : (before rest : List OddSet) → IsFamily p d (before ++ rest) → IsFamily p d rest
  family_after [] rest family = family
  family_after (s ∷ before) rest family = family_after before rest (family_rest p d s (before ++ rest) family)

  pub family_at : (sets : List OddSet) (s : OddSet) (smaller : List OddSet) → IsFamily p d sets → StandsIn sets s smaller → IsFamily p d (s ∷ smaller)
  family_at sets s smaller family stands = family_after stands.before (s ∷ smaller) (subst (IsFamily p d) stands.split family)

  level_holds : (s : OddSet) (smaller : List OddSet) (t v : ℕ) → IsFamily p d (s ∷ smaller) → t < s.halves → IsVertex p v → is_odd p v ≡ true →
      (holds s v ≡ true) ⊎ (holds s v ≡ false) → level d s smaller t v ≡ holds s v
  level_holds s smaller t v family below v_in odd (inl there) =
      rw there (le-leb (depth d s smaller v) t (omega (arith, depth-least d s smaller v v there, family.distances.same v odd)))
  level_holds s smaller t v family below v_in odd (inr out) =
      rw out (elim (cases_lt t (depth d s smaller v)) [
        | inl above ↦ lt-leb (depth d s smaller v) t above
        | inr within ↦
            let found = depth-reached d s smaller v (omega (arith, within, below)) in
            let u_odd = family.odd.0.each found.0 found.1 in
            absurd (omega (
              arith,
              within,
              below,
              found.2,
              between s smaller v found.0 family.nested out found.1,
              family.packs.pair v found.0 odd u_odd,
              family.distances.meet v found.0 v odd u_odd v_in,
              family.distances.same v odd,
            ))
      ])

  pub levels_hold_members_law : (sets smaller : List OddSet) (s : OddSet) (t v : ℕ) → IsFamily p d sets → StandsIn sets s smaller →
      t < s.halves → IsVertex p v → is_odd p v ≡ true → level d s smaller t v ≡ holds s v
  levels_hold_members_law sets smaller s t v family stands below v_in odd =
      level_holds s smaller t v (family_at sets s smaller family stands) below v_in odd (cases_Bool (holds s v))

  -- a vertex in a level of a later set lies near one of that set's members, by the weights of the sets up to it
  inner : (s r : OddSet) (before others : List OddSet) (q x : ℕ) → IsFamily p d (s ∷ (before ++ (r ∷ others))) → q < r.halves → level d r others q x ≡ true →
      (v : ℕ) × (holds r v ≡ true) × (is_odd p v ≡ true) × (2 * d v x ≤ enclosing_weight (before ++ (r ∷ others)) v)
  inner s r before others q x family below within =
      let low = leb-true (depth d r others x) q within in
      let found = depth-reached d r others x (omega (arith, low, below)) in
      let own = family_after (s ∷ before) (r ∷ others) family in (
        found.0,
        found.1,
        own.odd.0.each found.0 found.1,
        omega (arith, low, below, found.2, enclosing_after before (r ∷ others) found.0, enclosing-in r others found.0 found.1),
      )

  lies_within : (s r : OddSet) (before others : List OddSet) (t q x : ℕ) → IsFamily p d (s ∷ (before ++ (r ∷ others))) → LiesIn s r →
      q < r.halves → level d r others q x ≡ true → level d s (before ++ (r ∷ others)) t x ≡ true
  lies_within s r before others t q x family in_ below within =
      let found = inner s r before others q x family below within in
      le-leb (depth d s (before ++ (r ∷ others)) x) t (omega (arith, found.3, depth-least d s (before ++ (r ∷ others)) x found.0 (in_.inside found.0 found.1)))

  lies_without : (s r : OddSet) (before others : List OddSet) (t q x : ℕ) → IsVertex p x → IsFamily p d (s ∷ (before ++ (r ∷ others))) → LiesOutside s r →
      t < s.halves → q < r.halves → level d r others q x ≡ true → level d s (before ++ (r ∷ others)) t x ≡ false
  lies_without s r before others t q x x_in family out_ room below within =
      let sets : List OddSet = before ++ (r ∷ others) in
      let found = inner s r before others q x family below within in
      elim (cases_lt t (depth d s sets x)) [
        | inl above ↦ lt-leb (depth d s sets x) t above
        | inr low ↦ absurd (false≢true (sym (out_.outside found.0 found.1) ∙ near_member p d s sets x found.0 x_in family found.2 found.3 (omega (arith, low, room))))
      ]

  turned : (b c : Bool) → (c ≡ true → b ≡ false) → b ≡ true → c ≡ false
  turned b true none has = absurd (false≢true (sym (none refl) ∙ has))
  turned b false none has = refl

  first_and_later : (s r : OddSet) (before others : List OddSet) (t q : ℕ) → IsFamily p d (s ∷ (before ++ (r ∷ others))) →
      t < s.halves → q < r.halves → LiesIn s r ⊎ LiesOutside s r → AreNestedOrApart p (level d s (before ++ (r ∷ others)) t) (level d r others q)
  first_and_later s r before others t q family room below (inl in_) =
      second_in (λ x x_in within. lies_within s r before others t q x family in_ below within)
  first_and_later s r before others t q family room below (inr out_) =
      apart (λ x x_in has. turned (level d s (before ++ (r ∷ others)) t x) (level d r others q x) (λ within. lies_without s r before others t q x x_in family out_ room below within) has)

  same_set : (s : OddSet) (smaller : List OddSet) (t q : ℕ) → AreNestedOrApart p (level d s smaller t) (level d s smaller q)
  same_set s smaller t q = elim (cases_lt t q) [
    | inl less ↦ first_in (λ x _ within. le-leb (depth d s smaller x) q (omega (arith, less, leb-true (depth d s smaller x) t within)))
    | inr most ↦ second_in (λ x _ within. le-leb (depth d s smaller x) t (omega (arith, most, leb-true (depth d s smaller x) q within)))
  ]

  swapped : (f g : ℕ → Bool) → AreNestedOrApart p f g → AreNestedOrApart p g f
  swapped f g (first_in h) = second_in h
  swapped f g (second_in h) = first_in h
  swapped f g (apart h) = apart (λ v v_in has. turned (g v) (f v) (h v v_in) has)

  later : (s r : OddSet) (before others smaller : List OddSet) (t q : ℕ) → IsFamily p d (s ∷ smaller) → smaller ≡ before ++ (r ∷ others) →
      t < s.halves → q < r.halves → AreNestedOrApart p (level d s smaller t) (level d r others q)
  later s r before others smaller t q family split room below =
      let family' = subst (λ sets. IsFamily p d (s ∷ sets)) split family in
      subst (λ sets. AreNestedOrApart p (level d s sets t) (level d r others q)) (sym split)
      (first_and_later s r before others t q family' room below (all_after (λ x. LiesIn s x ⊎ LiesOutside s x) before others r family'.nested.0))

  nested_at : (b c : List OddSet) (s r : OddSet) (smaller others : List OddSet) (t q : ℕ) → IsFamily p d (b ++ (s ∷ smaller)) →
      b ++ (s ∷ smaller) ≡ c ++ (r ∷ others) → t < s.halves → q < r.halves → AreNestedOrApart p (level d s smaller t) (level d r others q)
  nested_at [] [] s r smaller others t q family same room below =
      let one = cons_head s r smaller others same in
      let rest = cons_tail s r smaller others same in
      subst (λ x. AreNestedOrApart p (level d s smaller t) (level d x others q)) one
      (subst (λ xs. AreNestedOrApart p (level d s smaller t) (level d s xs q)) rest (same_set s smaller t q))
  nested_at [] (y ∷ c) s r smaller others t q family same room below =
      later s r c others smaller t q family (cons_tail s y smaller (c ++ (r ∷ others)) same) room below
  nested_at (x ∷ b) [] s r smaller others t q family same room below =
      let rest = cons_tail x r (b ++ (s ∷ smaller)) others same in
      let one = cons_head x r (b ++ (s ∷ smaller)) others same in
      let family' = subst (λ y. IsFamily p d (y ∷ (b ++ (s ∷ smaller)))) one family in
      let family'' = subst (λ xs. IsFamily p d (r ∷ xs)) rest family' in
      swapped (level d r others q) (level d s smaller t) (later r s b smaller others q t family'' (sym rest) below room)
  nested_at (x ∷ b) (y ∷ c) s r smaller others t q family same room below =
      nested_at b c s r smaller others t q (family_rest p d x (b ++ (s ∷ smaller)) family)
      (cons_tail x y (b ++ (s ∷ smaller)) (c ++ (r ∷ others)) same) room below

  pub levels_are_nested_law : (sets smaller others : List OddSet) (s r : OddSet) (t q : ℕ) → IsFamily p d sets →
      StandsIn sets s smaller → StandsIn sets r others → t < s.halves → q < r.halves →
      AreNestedOrApart p (level d s smaller t) (level d r others q)
  levels_are_nested_law sets smaller others s r t q family first second room below =
      nested_at first.before second.before s r smaller others t q (subst (IsFamily p d) first.split family) (sym first.split ∙ second.split) room below
