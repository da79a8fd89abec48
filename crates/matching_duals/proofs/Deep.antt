-- The depth of a vertex for a set, and the weights round and between members.
use Rattle.std.proofs.Common.{◌≡◌, ℕ, zero, suc, ◌+◌, ◌-◌, ◌*◌, ◌<◌, ◌≤◌, ◌==◌, Bool, true, false, not, min, leb, List, [], ◌∷◌, refl, sym, ◌∙◌, arith, inl, inr, ◌⊎◌}
use Rattle.std.specs.Prelude.{if◌then◌else◌}
use Rattle.std.specs.List.{list_any, AllByRecursion}
use Rattle.std.proofs.lemmas.Bool.{cases_lt, or_cases, or_left, or_right, eqb-true, eq-eqb, le-leb, lt-leb, false≢true}
use Rattle.std.proofs.Math.Nat.{min-le_left, min-le_right, min-eq_left, min-eq_right}
use Rattle.matching_duals.specs.OddSets.{OddSet, holds, enclosing_weight, weight_between, LiesIn, LiesOutside, AreNested, least_depth, depth, count_below}

module _ (d : ℕ → ℕ → ℕ) (smaller : List OddSet) (x : ℕ) where
  least_depth-most : (most : ℕ) (members : List ℕ) → least_depth d smaller x most members ≤ most
  least_depth-most most [] = omega arith
  least_depth-most most (v ∷ vs) = omega (arith, min-le_right (2 * d v x - enclosing_weight smaller v) (least_depth d smaller x most vs), least_depth-most most vs)

  least_depth-least : (most v : ℕ) (members : List ℕ) → list_any (λ w. w == v) members ≡ true →
      least_depth d smaller x most members ≤ 2 * d v x - enclosing_weight smaller v
  least_depth-least most v [] there = absurd (false≢true there)
  least_depth-least most v (w ∷ ws) there =
      elim (or_cases (w == v) (list_any (λ w. w == v) ws) there) [
        | inl here ↦ let same : w ≡ v = eqb-true w v here in
            rw (← same) (min-le_left (2 * d w x - enclosing_weight smaller w) (least_depth d smaller x most ws))
        | inr later ↦ omega (arith, min-le_right (2 * d w x - enclosing_weight smaller w) (least_depth d smaller x most ws), least_depth-least most v ws later)
      ]

  -- a depth below the weight is that of some member
  least_depth-reached : (most : ℕ) (members : List ℕ) → least_depth d smaller x most members < most →
      (v : ℕ) × (list_any (λ w. w == v) members ≡ true) × (2 * d v x - enclosing_weight smaller v ≤ least_depth d smaller x most members)
  least_depth-reached most [] less = absurd (omega (arith, less))
  least_depth-reached most (w ∷ ws) less =
      let own : ℕ = 2 * d w x - enclosing_weight smaller w in
      let rest : ℕ = least_depth d smaller x most ws in
      elim (cases_lt rest own) [
        | inl below ↦
            let same : min own rest ≡ rest = min-eq_right (omega (arith, below)) in
            let found = least_depth-reached most ws (omega (arith, less, same)) in
            (found.0, or_right (w == found.0) _ found.1, omega (arith, found.2, same))
        | inr above ↦
            let same : min own rest ≡ own = min-eq_left above in
            (w, or_left (w == w) _ (eq-eqb w w refl), omega (arith, same))
      ]

module _ (d : ℕ → ℕ → ℕ) (s : OddSet) (smaller : List OddSet) (x : ℕ) where
  pub depth-most : depth d s smaller x ≤ s.halves
  depth-most = least_depth-most d smaller x s.halves s.members

  pub depth-least : (v : ℕ) → holds s v ≡ true → depth d s smaller x ≤ 2 * d v x - enclosing_weight smaller v
  depth-least v there = least_depth-least d smaller x s.halves v s.members there

  pub depth-reached : depth d s smaller x < s.halves → (v : ℕ) × (holds s v ≡ true) × (2 * d v x - enclosing_weight smaller v ≤ depth d s smaller x)
  depth-reached less = least_depth-reached d smaller x s.halves s.members less

-- the weights round a member, where a set comes before the others
pub enclosing-in : (s : OddSet) (sets : List OddSet) (v : ℕ) → holds s v ≡ true → enclosing_weight (s ∷ sets) v ≡ s.halves + enclosing_weight sets v
enclosing-in s sets v there = rw there refl

pub enclosing-more : (s : OddSet) (sets : List OddSet) (v : ℕ) → enclosing_weight sets v ≤ enclosing_weight (s ∷ sets) v
enclosing-more s sets v = omega arith

-- a set of which u is no member separates it from each member
one_in : (b c : Bool) (n : ℕ) → (b ≡ true → c ≡ true → ⊥) → (if (if b then not c else c) then n else 0) ≡ (if b then n else 0) + (if c then n else 0)
one_in true true n apart = absurd (apart refl refl)
one_in true false n apart = omega arith
one_in false true n apart = omega arith
one_in false false n apart = omega arith

-- where no set holds both, the weights between are those round the two
apart_weights : (sets : List OddSet) (u v : ℕ) → AllByRecursion (λ r. holds r u ≡ true → holds r v ≡ true → ⊥) sets →
    weight_between sets u v ≡ enclosing_weight sets u + enclosing_weight sets v
apart_weights [] u v none = refl
apart_weights (s ∷ sets) u v none = omega (arith, one_in (holds s u) (holds s v) s.halves none.0, apart_weights sets u v none.1)

none_holds_both : (s : OddSet) (sets : List OddSet) (u v : ℕ) → AllByRecursion (λ r. LiesIn s r ⊎ LiesOutside s r) sets →
    holds s u ≡ false → holds s v ≡ true → AllByRecursion (λ r. holds r u ≡ true → holds r v ≡ true → ⊥) sets
none_holds_both s [] u v lie out there = tt
none_holds_both s (r ∷ sets) u v lie out there = (one lie.0, none_holds_both s sets u v lie.1 out there)
  where
    one : LiesIn s r ⊎ LiesOutside s r → holds r u ≡ true → holds r v ≡ true → ⊥
    one (inl in_) has_u has_v = false≢true (sym out ∙ in_.inside u has_u)
    one (inr out_) has_u has_v = false≢true (sym (out_.outside v has_v) ∙ there)

split_apart : (b c : Bool) (n : ℕ) → b ≡ false → c ≡ true → (if (if b then not c else c) then n else 0) ≡ n
split_apart true c n out there = cc
split_apart false true n out there = refl
split_apart false false n out there = cc

-- between a member of the first set and another vertex stand the weight of the set and the weights round the two
pub between : (s : OddSet) (sets : List OddSet) (u v : ℕ) → AreNested (s ∷ sets) → holds s u ≡ false → holds s v ≡ true →
    weight_between (s ∷ sets) u v ≡ s.halves + (enclosing_weight sets u + enclosing_weight sets v)
between s sets u v nested out there =
    omega (arith, split_apart (holds s u) (holds s v) s.halves out there, apart_weights sets u v (none_holds_both s sets u v nested.0 out there))

pub between-more : (s : OddSet) (sets : List OddSet) (u v : ℕ) → weight_between sets u v ≤ weight_between (s ∷ sets) u v
between-more s sets u v = omega arith

-- how many levels an edge between depths m and n crosses
pub crossed_levels : (w a b : ℕ) → count_below w (λ t. if leb a t then not (leb b t) else leb b t) ≡ (min a w - min b w) + (min b w - min a w)
crossed_levels zero a b = omega arith
crossed_levels (suc w) a b =
    elim (cases_lt w a) [
      | inl a_out ↦ elim (cases_lt w b) [
        | inl b_out ↦ rw (lt-leb a w a_out, lt-leb b w b_out) (omega (arith, crossed_levels w a b, a_out, b_out))
        | inr b_in ↦ rw (lt-leb a w a_out, le-leb b w b_in) (omega (arith, crossed_levels w a b, a_out, b_in))
      ]
      | inr a_in ↦ elim (cases_lt w b) [
        | inl b_out ↦ rw (le-leb a w a_in, lt-leb b w b_out) (omega (arith, crossed_levels w a b, a_in, b_out))
        | inr b_in ↦ rw (le-leb a w a_in, le-leb b w b_in) (omega (arith, crossed_levels w a b, a_in, b_in))
      ]
    ]
