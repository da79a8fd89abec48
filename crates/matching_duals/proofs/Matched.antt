-- A least matching of the odd vertices: its sets are a family that packs, and weigh twice its cost.
use Rattle.std.proofs.Common.{◌≡◌, ◌≢◌, ℕ, zero, suc, ◌+◌, ◌-◌, ◌*◌, ◌<◌, ◌≤◌, ◌==◌, Bool, true, false, not, List, length, get_or, refl, sym, ap, ◌∙◌, subst, arith, inl, inr}
use Rattle.std.specs.Prelude.{if◌then◌else◌, nat_lt}
use Rattle.std.specs.List.{AllByRecursion, list_any}
use Rattle.std.proofs.lemmas.Bool.{cases_eq, false≢true, cases_Bool}
use Rattle.carp_base.specs.Problem.{Problem, IsValid, IsVertex}
use Rattle.blossom_match.specs.declared.costs.Costs.{Costs}
use Rattle.blossom_match.specs.declared.costs.TheConstants.{MAX_COST}
use Rattle.blossom_match.specs.declared.least.Matching.{Matching}
use Rattle.blossom_match.specs.Matching.{matching_cost, parts, AreLaminar}
use Rattle.blossom_match.specs.Answer.{IsLeastBy, IsListed, halves_in, is_among, len_in, mate_in, member_in, set_in, sets_in}
use Rattle.blossom_match.specs.Table.{cost}
use Rattle.matching_duals.specs.OddSets.{OddSet, AreDistances, AreDistinct, IsAmong, IsOddSized, holds, is_odd, separates, set_halves, weight_between}
use Rattle.matching_duals.specs.Paths.{reach}
use Rattle.matching_duals.specs.Sets.{AreCosts, AreSets, IsBounded, members_of, set_of, sets_below, sets_to}
use Rattle.matching_duals.proofs.Parity.{part}
use Rattle.matching_duals.proofs.Places.{OddPlaces, same_place}
use Rattle.matching_duals.proofs.Sorting.{IsAnyway, sorted_law}
use Rattle.matching_duals.proofs.Sorting.IsAnyway.{later_in, first_in, outside}
use Rattle.matching_duals.proofs.Totals.{total-same, total-le, total-const}
use Rattle.matching_duals.proofs.Families.{all_push, among_from, among_to, between_sum, bool_same, distinct_push, each_has, halves_sum, length-members, member_from, member_to, members_few, none_between, sorted_to, sum_all, sum_most}

module _ (p : Problem) (odd table : List ℕ) (costs : Costs) (m : Matching) (valid : IsValid p) (distances : AreDistances p (reach p table))
    (places : OddPlaces p odd) (are : AreCosts p odd table costs) (least : IsLeastBy costs m) where
  abbrev n : ℕ
  n = costs.size

  abbrev at : ℕ → ℕ
  at u = get_or odd u 0

  abbrev set : ℕ → OddSet
  set = set_of odd m

  -- the place of the vertex of a member
  abbrev spot : ℕ → ℕ → ℕ
  spot i j = member_in m i j - 1

  listed : (i : ℕ) → i < sets_in m → IsListed n (len_in m i) (member_in m i)
  listed i below = subst (λ k. IsListed k (len_in m i) (member_in m i)) least.size (least.listed i below)

  spot_is : (i j : ℕ) → i < sets_in m → j < len_in m i → (spot i j < n) × (member_in m i j ≡ suc (spot i j))
  spot_is i j below inside = let range = (listed i below).range j inside in (omega (arith, range.0, range.1), omega (arith, range.0))

  to_place : (k : ℕ) → k < n → k < length odd
  to_place k below = omega (arith, below, are.size)

  -- a set holds a vertex where the matching's set holds its place
  holds_is : (i u : ℕ) → i < sets_in m → u < n → holds (set i) (at u) ≡ set_in m i u
  holds_is i u below u_in =
      bool_same (holds (set i) (at u)) (set_in m i u)
      (λ there.
      let found = member_from odd m i (len_in m i) (at u) there in
      let spot = spot_is i found.0 below found.1 in
      let same = same_place p odd (member_in m i found.0 - 1) u places (to_place (member_in m i found.0 - 1) spot.0) (to_place u u_in) found.2 in
      among_to (len_in m i) (member_in m i) u found.0 found.1 (spot.1 ∙ ap (λ k. suc k) same))
      (λ there.
      let found = among_from (len_in m i) (member_in m i) u there in
      let same : member_in m i found.0 - 1 ≡ u = omega (arith, found.2) in
      member_to odd m i (len_in m i) found.0 (at u) found.1 (ap at same))

  -- each vertex of a set has a place
  place_of : (i v : ℕ) → i < sets_in m → holds (set i) v ≡ true → (u : ℕ) × (u < n) × (at u ≡ v)
  place_of i v below there =
      let found = member_from odd m i (len_in m i) v there in
      let spot = spot_is i found.0 below found.1 in
      (member_in m i found.0 - 1, spot.0, found.2)

  odd_members : (i : ℕ) → i < sets_in m → IsAmong (is_odd p) (set i)
  odd_members i below = record {
    each = λ v there.
        let found = place_of i v below there in
        subst (λ w. is_odd p w ≡ true) found.2 (places.odd_at found.0 (to_place found.0 found.1));
  }

  vertices_to : (i k : ℕ) → i < sets_in m → k ≤ len_in m i → AllByRecursion (IsVertex p) (members_of odd m i k)
  vertices_to i zero below most = tt
  vertices_to i (suc k) below most =
      all_push (IsVertex p) (members_of odd m i k) (at (spot i k)) (vertices_to i k below (omega (arith, most)))
      (places.vertex (spot i k) (to_place (spot i k) (spot_is i k below (omega (arith, most))).0))

  distinct_to : (i k : ℕ) → i < sets_in m → k ≤ len_in m i → AreDistinct (members_of odd m i k)
  distinct_to i zero below most = tt
  distinct_to i (suc k) below most =
      distinct_push (members_of odd m i k) (at (spot i k)) (distinct_to i k below (omega (arith, most)))
      (elim (cases_Bool (list_any (λ x. x == at (spot i k)) (members_of odd m i k))) [
        | inr none ↦ none
        | inl there ↦
            let found = member_from odd m i k (at (spot i k)) there in
            let one = spot_is i found.0 below (omega (arith, found.1, most)) in
            let two = spot_is i k below (omega (arith, most)) in
            let same = same_place p odd (spot i found.0) (spot i k) places (to_place (spot i found.0) one.0) (to_place (spot i k) two.0) found.2 in
            absurd (omega (arith, (listed i below).rising found.0 k found.1 (omega (arith, most)), one.1, two.1, same))
      ])

  odd_sized : (i : ℕ) → i < sets_in m → IsOddSized p (set i)
  odd_sized i below = record {
    distinct = distinct_to i (len_in m i) below (omega arith);
    vertices = vertices_to i (len_in m i) below (omega arith);
    odd = omega (arith, length-members odd m i (len_in m i), (listed i below).count, least.proved.family.odd i below);
  }

  anyway : (i j : ℕ) → i < sets_in m → j < sets_in m → i ≢ j → IsAnyway (set i) (set j)
  anyway i j i_in j_in other = by_laminar (least.proved.family.laminar i j i_in j_in other)
    where
      by_laminar : AreLaminar n (set_in m i) (set_in m j) → IsAnyway (set i) (set j)
      by_laminar (inl within) = first_in (record {
        inside = λ v there.
            let found = place_of i v i_in there in
            let here : set_in m i found.0 ≡ true = sym (holds_is i found.0 i_in found.1) ∙ ap (holds (set i)) found.2 ∙ there in
            ap (holds (set j)) (sym found.2) ∙ holds_is j found.0 j_in found.1 ∙ within found.0 found.1 here;
      })
      by_laminar (inr (inl within)) = later_in (record {
        inside = λ v there.
            let found = place_of j v j_in there in
            let here : set_in m j found.0 ≡ true = sym (holds_is j found.0 j_in found.1) ∙ ap (holds (set j)) found.2 ∙ there in
            ap (holds (set i)) (sym found.2) ∙ holds_is i found.0 i_in found.1 ∙ within found.0 found.1 here;
      })
      by_laminar (inr (inr apart)) = outside (record {
        outside = λ v there.
            let found = place_of j v j_in there in
            let here : set_in m j found.0 ≡ true = sym (holds_is j found.0 j_in found.1) ∙ ap (holds (set j)) found.2 ∙ there in
            ap (holds (set i)) (sym found.2) ∙ holds_is i found.0 i_in found.1 ∙ other_way (set_in m i found.0) (set_in m j found.0) (apart found.0 found.1) here;
      })
        where
          other_way : (b c : Bool) → (b ≡ true → c ≡ false) → c ≡ true → b ≡ false
          other_way true c none there = absurd (false≢true (sym (none refl) ∙ there))
          other_way false c none there = refl

  separates_is : (i a b : ℕ) → i < sets_in m → a < n → b < n → separates (set i) (at a) (at b) ≡ parts (set_in m i a) (set_in m i b)
  separates_is i a b below a_in b_in =
      rw (holds_is i a below a_in, holds_is i b below b_in) (same_parts (set_in m i a) (set_in m i b))
    where
      same_parts : (b c : Bool) → (if b then not c else c) ≡ parts b c
      same_parts true c = refl
      same_parts false c = refl

  pack_to : (size i u v : ℕ) → i ≤ sets_in m → is_odd p u ≡ true → is_odd p v ≡ true → IsVertex p u → IsVertex p v →
      weight_between (sets_to odd m size i) u v ≤ 2 * reach p table u v
  pack_to size i u v most u_odd v_odd u_in v_in =
      let a = places.found u u_in u_odd in
      let b = places.found v v_in v_odd in
      let a_in : a.0 < n = omega (arith, a.1, are.size) in
      let b_in : b.0 < n = omega (arith, b.1, are.size) in
      subst (λ w. weight_between (sets_to odd m size i) w v ≤ 2 * reach p table w v) a.2
      (subst (λ w. weight_between (sets_to odd m size i) (at a.0) w ≤ 2 * reach p table (at a.0) w) b.2 (both a.0 b.0 a_in b_in))
    where
      both : (a b : ℕ) → a < n → b < n → weight_between (sets_to odd m size i) (at a) (at b) ≤ 2 * reach p table (at a) (at b)
      both a b a_in b_in = elim (cases_eq a b) [
        | inl same ↦ omega (arith, ap (λ k. weight_between (sets_to odd m size i) (at a) (at k)) (sym same), none_between (sets_to odd m size i) (at a))
        | inr other ↦
            omega (
              arith,
              between_sum (sets_to odd m size i) (at a) (at b),
              sum_most odd m (λ s. part (separates s (at a) (at b)) s.halves) size i most,
              total-same (sets_in m) (λ j. part (separates (set j) (at a) (at b)) (halves_in m j)) (λ j. part (parts (set_in m j a) (set_in m j b)) (halves_in m j))
                  (λ j below. ap (λ t. part t (halves_in m j)) (separates_is j a b below a_in b_in)),
              least.proved.packing a b a_in b_in other,
              are.between a b (to_place a a_in) (to_place b b_in),
            )
      ]

  part_most : (b : Bool) (k : ℕ) → part b k ≤ k
  part_most true k = omega arith
  part_most false k = omega arith

  cost_small : matching_cost n (cost costs) (mate_in m) ≤ n * MAX_COST
  cost_small =
      omega (
        arith,
        total-le n (λ v. if nat_lt v (mate_in m v) then cost costs v (mate_in m v) else 0) (λ v. MAX_COST)
            (λ v _. omega (arith, part_most (nat_lt v (mate_in m v)) (cost costs v (mate_in m v)), are.is_table.small v (mate_in m v))),
        total-const n MAX_COST,
      )

  bounded : (size i : ℕ) → i ≤ sets_in m → ((v : ℕ) → is_odd p v ≡ true → IsVertex p v) → IsBounded p table (sets_to odd m size i)
  bounded size i most odd_in =
      let sized = each_has odd m (IsOddSized p) size i most odd_sized in
      record {
        family = record {
          distances = distances;
          nested = sorted_law p (sets_to odd m size i) sized (sorted_to odd m anyway size i most);
          odd = each_has odd m (IsAmong (is_odd p)) size i most odd_members;
          packs = record { pair = λ u v u_odd v_odd. pack_to size i u v most u_odd v_odd (odd_in u u_odd) (odd_in v v_odd) };
        };
        sized = sized;
        small = omega (
          arith,
          halves_sum (sets_to odd m size i),
          sum_most odd m (λ s. s.halves) size i most,
          least.proved.equal,
          cost_small,
          are.is_table.few,
        );
      }

  pub are_sets : ((v : ℕ) → is_odd p v ≡ true → IsVertex p v) → AreSets p odd table m
  are_sets odd_in = record {
    made = least.made;
    listed = λ i below. subst (λ k. IsListed k (len_in m i) (member_in m i)) are.size (listed i below);
    vertices = places.vertex;
    bounded = λ size i most. bounded size i most odd_in;
  }

  -- all sets together weigh twice the matching's cost
  pub all_weigh : set_halves (sets_below odd m (length odd + 1)) ≡ 2 * matching_cost n (cost costs) (mate_in m)
  all_weigh =
      halves_sum (sets_below odd m (length odd + 1))
      ∙ sum_all odd m (λ s. s.halves) (length odd) (λ i below. omega (arith, (listed i below).count, members_few n (is_among (len_in m i) (member_in m i)), are.size))
      ∙ least.proved.equal
