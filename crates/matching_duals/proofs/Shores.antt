-- Levels of odd sets are odd, also on the side without the depot.
use Rattle.std.proofs.Common.{◌≡◌, ℕ, ◌+◌, ◌%◌, ◌<◌, ◌==◌, Bool, true, false, not, ◌||◌, cond, eqb, List, [], ◌∷◌, length, refl, sym, ap, ◌∙◌, subst, arith, inl, inr, ◌⊎◌}
use Rattle.std.specs.Prelude.{if◌then◌else◌}
use Rattle.std.specs.List.{list_any, count_by, AllByRecursion}
use Rattle.std.proofs.lemmas.Bool.{cases_Bool, eqb-true, eqb-false, false≢true}
use Rattle.std.proofs.lemmas.List.Sums.{sum_by-cons}
use Rattle.carp_base.specs.declared.edge.Edge.{Edge}
use Rattle.carp_base.specs.Problem.{Problem, IsValid, IsVertex, required_edges}
use Rattle.plan_model.specs.Plans.{crosses}
use Rattle.plan_model.specs.Sums.{sum_to}
use Rattle.cut_pool.specs.Shores.{is_in, required_crossings}
use Rattle.edge_components.specs.Laws.{VerticesAreListed}
use Rattle.matching_duals.specs.OddSets.{OddSet, holds, degree, is_odd, level, side_of, AreDistinct, IsFamily, IsOddSized, StandsIn}
use Rattle.matching_duals.specs.Levels.{IsLevel}
use Rattle.matching_duals.proofs.Sums.{sum_to-zero, sum_to-add, sum_to-same, sum_to-single, sum_to-parity}
use Rattle.matching_duals.proofs.Levels.{family_at, levels_hold_members_law, all_after}
use Rattle.matching_duals.proofs.Parity.{part, HasEnds, all_ends, all_take, degrees_sum}

one_more : (b c : Bool) → (b ≡ true → c ≡ true → ⊥) → part (b || c) 1 ≡ cond b 1 0 + part c 1
one_more true true apart = absurd (apart refl refl)
one_more true false apart = refl
one_more false true apart = refl
one_more false false apart = refl

-- different vertices are as many as the list is long
pub members_count : (p : Problem) (members : List ℕ) → AreDistinct members → AllByRecursion (IsVertex p) members →
    sum_to p.vertices (λ v. part (list_any (λ x. x == v) members) 1) ≡ length members
members_count p [] distinct vertices = sum_to-zero p.vertices
members_count p (m ∷ ms) distinct vertices =
    omega (
      arith,
      sum_to-same p.vertices (λ v. part (list_any (λ x. x == v) (m ∷ ms)) 1) (λ v. cond (eqb m v) 1 0 + part (list_any (λ x. x == v) ms) 1)
          (λ v _ _. one_more (eqb m v) (list_any (λ x. x == v) ms)
          (λ is there. false≢true (sym distinct.0 ∙ subst (λ w. list_any (λ x. x == w) ms ≡ true) (sym (eqb-true m v is)) there))),
      sum_to-add p.vertices (λ v. cond (eqb m v) 1 0) (λ v. part (list_any (λ x. x == v) ms) 1),
      sum_to-single p.vertices m (λ _. 1) vertices.0.from_one vertices.0.in_range,
      members_count p ms distinct.1 vertices.1,
    )

odd_part : (inside member : Bool) (n : ℕ) → (n % 2 == 1) ≡ true → inside ≡ member → part inside n % 2 ≡ part member 1 % 2
odd_part true true n odd same = eqb-true (n % 2) 1 odd
odd_part true false n odd same = absurd (false≢true (sym same))
odd_part false true n odd same = absurd (false≢true same)
odd_part false false n odd same = refl

even_part : (inside member : Bool) (n : ℕ) → (n % 2 == 1) ≡ false → (member ≡ true → (n % 2 == 1) ≡ true) → part inside n % 2 ≡ part member 1 % 2
even_part inside true n even odd = absurd (false≢true (sym even ∙ odd refl))
even_part true false n even odd = omega (arith, eqb-false (n % 2) 1 even)
even_part false false n even odd = refl

pub levels_are_odd_law : (p : Problem) (d : ℕ → ℕ → ℕ) (sets smaller : List OddSet) (s : OddSet) (t : ℕ) → IsValid p → IsFamily p d sets →
    StandsIn sets s smaller → IsOddSized p s → t < s.halves → required_crossings p (level d s smaller t) % 2 ≡ 1
levels_are_odd_law p d sets smaller s t valid family stands sized below =
    let inside = level d s smaller t in
    omega (
      arith,
      degrees_sum p inside valid,
      sum_to-parity p.vertices (λ v. part (inside v) (degree p v)) (λ v. part (holds s v) 1) (λ v lo hi. one v (record { from_one = lo; in_range = hi }) (cases_Bool (is_odd p v))),
      members_count p s.members sized.distinct sized.vertices,
      sized.odd,
    )
  where
    one : (v : ℕ) → IsVertex p v → (is_odd p v ≡ true) ⊎ (is_odd p v ≡ false) → part (level d s smaller t v) (degree p v) % 2 ≡ part (holds s v) 1 % 2
    one v v_in (inl odd) = odd_part (level d s smaller t v) (holds s v) (degree p v) odd (levels_hold_members_law p d sets smaller s t v family stands below v_in odd)
    one v v_in (inr even) = even_part (level d s smaller t v) (holds s v) (degree p v) even ((family_at p d sets s smaller family stands).odd.0.each v)

-- an edge crosses a set and its other side alike
other_side : (depot b c : Bool) →
    (if (if depot then not b else b) then not (if depot then not c else c) else (if depot then not c else c)) ≡ (if b then not c else c)
other_side true true true = refl
other_side true true false = refl
other_side true false true = refl
other_side true false false = refl
other_side false b c = refl

pub same_crossing : (p : Problem) (f g : ℕ → Bool) (x : Edge) → HasEnds p.vertices x → ((v : ℕ) → IsVertex p v → f v ≡ side_of p g v) → crosses f x ≡ crosses g x
same_crossing p f g x ends same =
    rw (same x.u (record { from_one = ends.u_one; in_range = ends.u_in }), same x.v (record { from_one = ends.v_one; in_range = ends.v_in }))
    (other_side (g p.depot) (g x.u) (g x.v))

pub count_same : (p : Problem) (f g : ℕ → Bool) (edges : List Edge) → AllByRecursion (HasEnds p.vertices) edges → ((v : ℕ) → IsVertex p v → f v ≡ side_of p g v) →
    count_by (crosses f) edges ≡ count_by (crosses g) edges
count_same p f g [] ends same = refl
count_same p f g (x ∷ edges) ends same =
    omega (
      arith,
      sum_by-cons (λ y. cond (crosses f y) 1 0) x edges,
      sum_by-cons (λ y. cond (crosses g y) 1 0) x edges,
      ap (λ b. part b 1) (same_crossing p f g x ends.0 same),
      count_same p f g edges ends.1 same,
    )

set_at : (P : OddSet → Type 0) (sets : List OddSet) (s : OddSet) (smaller : List OddSet) → AllByRecursion P sets → StandsIn sets s smaller → P s
set_at P sets s smaller all stands = all_after P stands.before smaller s (subst (AllByRecursion P) stands.split all)

module _ (listed : VerticesAreListed) (p : Problem) (d : ℕ → ℕ → ℕ) (sets : List OddSet) where
  -- a vertex stands in the list where it lies on the side of the level
  pub level_test : (shore : List ℕ) (is : IsLevel p d sets shore) (v : ℕ) → IsVertex p v → is_in shore v ≡ side_of p (level d is.set is.smaller is.number) v
  level_test shore is v vertex = ap (λ (l : List ℕ). is_in l v) is.same ∙ (listed p (side_of p (level d is.set is.smaller is.number))).same v vertex

  module _ (valid : IsValid p) (family : IsFamily p d sets) (sized : AllByRecursion (IsOddSized p) sets) where
    pub odd_shore : (shore : List ℕ) → IsLevel p d sets shore → required_crossings p (is_in shore) % 2 ≡ 1
    odd_shore shore is =
        let same = count_same p (is_in shore) (level d is.set is.smaller is.number) (required_edges p)
        (all_take (HasEnds p.vertices) p.required p.edges (all_ends p valid)) (level_test shore is) in
        let odd = levels_are_odd_law p d sets is.smaller is.set is.number valid family is.stands
        (set_at (IsOddSized p) sets is.set is.smaller sized is.stands) is.below in
        omega (arith, same, odd)
