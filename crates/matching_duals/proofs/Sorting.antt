-- Sets that are nested or disjoint, the larger ones first, stand each before those that lie in it.
use Rattle.std.proofs.Common.{◌≡◌, ℕ, ◌≤◌, ◌==◌, Bool, true, false, List, [], ◌∷◌, length, refl, sym, arith, inl, inr, ◌⊎◌}
use Rattle.std.specs.List.{AllByRecursion, list_any}
use Rattle.std.proofs.lemmas.Bool.{cases_Bool, or_cases, eqb-true, false≢true}
use Rattle.carp_base.specs.Problem.{Problem, IsVertex}
use Rattle.matching_duals.specs.OddSets.{OddSet, holds, LiesIn, LiesOutside, IsOddSized, AreNested}
use Rattle.matching_duals.proofs.Sums.{sum_to-less}
use Rattle.matching_duals.proofs.Parity.{part}
use Rattle.matching_duals.proofs.Shores.{members_count}

-- a later set lies in the first, or the first in it, or they share no member
pub data IsAnyway (s r : OddSet) : Type 0 where
  later_in : LiesIn s r → IsAnyway s r
  first_in : LiesIn r s → IsAnyway s r
  outside : LiesOutside s r → IsAnyway s r

-- nested or disjoint, and each no smaller than those after it
abbrev pub AreSorted : List OddSet → Type 0
AreSorted [] = Unit {0}
AreSorted (s ∷ sets) = AllByRecursion (λ r. (length r.members ≤ length s.members) × IsAnyway s r) sets × AreSorted sets

member_vertex : (p : Problem) (members : List ℕ) (v : ℕ) → AllByRecursion (IsVertex p) members → list_any (λ x. x == v) members ≡ true → IsVertex p v
member_vertex p [] v all there = absurd (false≢true there)
member_vertex p (m ∷ ms) v all there = elim (or_cases (m == v) (list_any (λ x. x == v) ms) there) [
  | inl here ↦ rw (sym (eqb-true m v here)) all.0
  | inr later ↦ member_vertex p ms v all.1 later
]

bit_le : (b c : Bool) → (b ≡ true → c ≡ true) → part b 1 ≤ part c 1
bit_le true true turn = omega arith
bit_le true false turn = absurd (false≢true (turn refl))
bit_le false c turn = omega arith

-- a set in which another lies that is no smaller lies in that one
turned_in : (p : Problem) (s r : OddSet) → IsOddSized p s → IsOddSized p r → length r.members ≤ length s.members → LiesIn r s → LiesIn s r
turned_in p s r s_is r_is short lies = record {
  inside = λ v there. elim (cases_Bool (holds s v)) [
    | inl has ↦ has
    | inr lacks ↦
        let vertex = member_vertex p r.members v r_is.vertices there in
        absurd (omega (
          arith,
          short,
          members_count p s.members s_is.distinct s_is.vertices,
          members_count p r.members r_is.distinct r_is.vertices,
          sum_to-less p.vertices v (λ w. part (holds s w) 1) (λ w. part (holds r w) 1) (λ w _ _. bit_le (holds s w) (holds r w) (lies.inside w))
              vertex.from_one vertex.in_range (rw (lacks, there) (omega arith)),
        ))
  ];
}

one_sorted : (p : Problem) (s : OddSet) (sets : List OddSet) → IsOddSized p s → AllByRecursion (IsOddSized p) sets →
    AllByRecursion (λ r. (length r.members ≤ length s.members) × IsAnyway s r) sets → AllByRecursion (λ r. LiesIn s r ⊎ LiesOutside s r) sets
one_sorted p s [] s_is sized sorted = tt
one_sorted p s (r ∷ sets) s_is sized sorted = (one sorted.0.1, one_sorted p s sets s_is sized.1 sorted.1)
  where
    one : IsAnyway s r → LiesIn s r ⊎ LiesOutside s r
    one (later_in lies) = inl lies
    one (first_in lies) = inl (turned_in p s r s_is sized.0 sorted.0.0 lies)
    one (outside out) = inr out

pub sorted_law : (p : Problem) (sets : List OddSet) → AllByRecursion (IsOddSized p) sets → AreSorted sets → AreNested sets
sorted_law p [] sized sorted = tt
sorted_law p (s ∷ sets) sized sorted = (one_sorted p s sets sized.0 sized.1 sorted.0, sorted_law p sets sized.1 sorted.1)
