-- Over an edge the levels number at most twice its cost.
use Rattle.std.proofs.Common.{◌≡◌, ℕ, ◌+◌, ◌-◌, ◌*◌, ◌<◌, ◌≤◌, true, false, List, [], ◌∷◌, refl, arith, inl, inr, ◌⊎◌}
use Rattle.std.proofs.lemmas.Bool.{cases_lt, cases_Bool}
use Rattle.std.proofs.Math.Nat.{min-eq_left}
use Rattle.carp_base.specs.Problem.{Problem, IsValid, IsVertex, IsEdgeNumber, edge_at}
use Rattle.matching_duals.specs.OddSets.{OddSet, holds, enclosing_weight, PackSets, IsFamily, is_odd, depth, levels_over}
use Rattle.matching_duals.proofs.Deep.{depth-most, depth-least, depth-reached, enclosing-in, enclosing-more, between, between-more, crossed_levels}

-- how far inside the sets a vertex lies, over all sets
abbrev pub inward : (ℕ → ℕ → ℕ) → List OddSet → ℕ → ℕ
inward d [] x = 0
inward d (s ∷ sets) x = (s.halves - depth d s sets x) + inward d sets x

-- by how much the depths of two vertices differ, over all sets
abbrev pub apart : (ℕ → ℕ → ℕ) → List OddSet → ℕ → ℕ → ℕ
apart d [] a b = 0
apart d (s ∷ sets) a b = ((depth d s sets a - depth d s sets b) + (depth d s sets b - depth d s sets a)) + apart d sets a b

pub packs_rest : (p : Problem) (d : ℕ → ℕ → ℕ) (s : OddSet) (sets : List OddSet) → PackSets p d (s ∷ sets) → PackSets p d sets
packs_rest p d s sets packs = record { pair = λ u v u_odd v_odd. omega (arith, packs.pair u v u_odd v_odd, between-more s sets u v) }

pub family_rest : (p : Problem) (d : ℕ → ℕ → ℕ) (s : OddSet) (sets : List OddSet) → IsFamily p d (s ∷ sets) → IsFamily p d sets
family_rest p d s sets family = record {
  distances = family.distances;
  nested = family.nested.1;
  odd = family.odd.1;
  packs = packs_rest p d s sets family.packs;
}

module _ (p : Problem) (d : ℕ → ℕ → ℕ) where
  -- a member near which a vertex lies, near enough for the sets to hold the vertex
  pub record HasAnchor (sets : List OddSet) (x : ℕ) : Type 0 where
    pub member : ℕ
    pub is_odd : is_odd p member ≡ true
    pub near : inward d sets x + 2 * d member x ≤ enclosing_weight sets member

  -- where x lies within the first set, a member that is near to x by the smaller sets is one of the first set
  pub near_member : (s : OddSet) (sets : List OddSet) (x u : ℕ) → IsVertex p x → IsFamily p d (s ∷ sets) → is_odd p u ≡ true →
      2 * d u x ≤ enclosing_weight sets u → depth d s sets x < s.halves → holds s u ≡ true
  near_member s sets x u x_in family u_odd near less =
      elim (cases_Bool (holds s u)) [
        | inl there ↦ there
        | inr out ↦
            let found = depth-reached d s sets x less in
            let v : ℕ = found.0 in
            let v_odd = family.odd.0.each v found.1 in
            absurd (omega (
              arith,
              between s sets u v family.nested out found.1,
              family.packs.pair u v u_odd v_odd,
              family.distances.meet u v x u_odd v_odd x_in,
              found.2,
              near,
              less,
            ))
      ]

  -- a vertex lies within no set, or has such a member
  pub anchored : (sets : List OddSet) (x : ℕ) → IsVertex p x → IsFamily p d sets → (inward d sets x ≡ 0) ⊎ HasAnchor sets x
  anchored [] x x_in family = inl refl
  anchored (s ∷ sets) x x_in family =
      elim (cases_lt (depth d s sets x) s.halves) [
        | inl less ↦ within less (anchored sets x x_in (family_rest p d s sets family))
        | inr all ↦ without all (anchored sets x x_in (family_rest p d s sets family))
      ]
    where
      within : depth d s sets x < s.halves → (inward d sets x ≡ 0) ⊎ HasAnchor sets x → (inward d (s ∷ sets) x ≡ 0) ⊎ HasAnchor (s ∷ sets) x
      within less (inl none) =
          let found = depth-reached d s sets x less in
          inr record { member = found.0; is_odd = family.odd.0.each found.0 found.1; near = omega (arith, none, found.2, less, enclosing-in s sets found.0 found.1) }
      within less (inr anchor) =
          let there = near_member s sets x anchor.member x_in family anchor.is_odd (omega (arith, anchor.near)) less in
          inr record {
            member = anchor.member;
            is_odd = anchor.is_odd;
            near = omega (arith, anchor.near, enclosing-in s sets anchor.member there);
          }

      without : s.halves ≤ depth d s sets x → (inward d sets x ≡ 0) ⊎ HasAnchor sets x → (inward d (s ∷ sets) x ≡ 0) ⊎ HasAnchor (s ∷ sets) x
      without all (inl none) = inl (omega (arith, none, all))
      without all (inr anchor) = inr record { member = anchor.member; is_odd = anchor.is_odd; near = omega (arith, anchor.near, all, enclosing-more s sets anchor.member) }

  -- two vertices differ by no more than both lie inside
  pub apart-inward : (sets : List OddSet) (a b : ℕ) → apart d sets a b ≤ inward d sets a + inward d sets b
  apart-inward [] a b = omega arith
  apart-inward (s ∷ sets) a b = omega (arith, apart-inward sets a b, depth-most d s sets a, depth-most d s sets b)

  pub apart-turned : (sets : List OddSet) (a b : ℕ) → apart d sets a b ≡ apart d sets b a
  apart-turned [] a b = refl
  apart-turned (s ∷ sets) a b = omega (arith, apart-turned sets a b)

  -- the distance of two vertices from each member differs by at most this
  pub record AreNear (a b cost : ℕ) : Type 0 where
    pub a_in : IsVertex p a
    pub b_in : IsVertex p b
    pub forth : (v : ℕ) → is_odd p v ≡ true → d v b ≤ d v a + cost
    pub back : (v : ℕ) → is_odd p v ≡ true → d v a ≤ d v b + cost

  -- a member that is near to a vertex by the smaller sets is none of the first set, where the vertex has some depth for that
  outer : (s : OddSet) (sets : List OddSet) (x : ℕ) (anchor : HasAnchor sets x) → 0 < depth d s sets x → holds s anchor.member ≡ false
  outer s sets x anchor some =
      elim (cases_Bool (holds s anchor.member)) [
        | inl there ↦ absurd (omega (arith, some, depth-least d s sets x anchor.member there, anchor.near))
        | inr out ↦ out
      ]

  -- b lies deeper in the first set than a
  deeper : (s : OddSet) (sets : List OddSet) (a b cost : ℕ) → IsFamily p d (s ∷ sets) → AreNear a b cost → depth d s sets b < depth d s sets a →
      (inward d sets a ≡ 0) ⊎ HasAnchor sets a → (inward d sets b ≡ 0) ⊎ HasAnchor sets b →
      (depth d s sets a - depth d s sets b) + apart d sets a b ≤ 2 * cost
  deeper s sets a b cost family near less (inl none_a) (inl none_b) =
      let found = depth-reached d s sets b (omega (arith, less, depth-most d s sets a)) in
      omega (
        arith,
        found.2,
        depth-least d s sets a found.0 found.1,
        near.back found.0 (family.odd.0.each found.0 found.1),
        apart-inward sets a b,
        none_a,
        none_b,
      )
  deeper s sets a b cost family near less (inr anchor) (inl none_b) =
      let found = depth-reached d s sets b (omega (arith, less, depth-most d s sets a)) in
      let v_odd = family.odd.0.each found.0 found.1 in
      omega (
        arith,
        found.2,
        depth-most d s sets a,
        anchor.near,
        between s sets anchor.member found.0 family.nested (outer s sets a anchor (omega (arith, less))) found.1,
        family.packs.pair anchor.member found.0 anchor.is_odd v_odd,
        family.distances.meet anchor.member found.0 a anchor.is_odd v_odd near.a_in,
        near.back found.0 v_odd,
        apart-inward sets a b,
        none_b,
      )
  deeper s sets a b cost family near less (inl none_a) (inr anchor) =
      let there = near_member s sets b anchor.member near.b_in family anchor.is_odd (omega (arith, anchor.near)) (omega (arith, less, depth-most d s sets a)) in
      omega (
        arith,
        less,
        anchor.near,
        depth-least d s sets a anchor.member there,
        near.back anchor.member anchor.is_odd,
        apart-inward sets a b,
        none_a,
      )
  deeper s sets a b cost family near less (inr at_a) (inr at_b) =
      let there = near_member s sets b at_b.member near.b_in family at_b.is_odd (omega (arith, at_b.near)) (omega (arith, less, depth-most d s sets a)) in
      omega (
        arith,
        depth-most d s sets a,
        at_a.near,
        at_b.near,
        between s sets at_a.member at_b.member family.nested (outer s sets a at_a (omega (arith, less))) there,
        family.packs.pair at_a.member at_b.member at_a.is_odd at_b.is_odd,
        family.distances.meet at_a.member at_b.member a at_a.is_odd at_b.is_odd near.a_in,
        near.back at_b.member at_b.is_odd,
        apart-inward sets a b,
      )

  pub apart-least : (sets : List OddSet) (a b cost : ℕ) → IsFamily p d sets → AreNear a b cost → apart d sets a b ≤ 2 * cost
  apart-least [] a b cost family near = omega arith
  apart-least (s ∷ sets) a b cost family near =
      let rest = family_rest p d s sets family in
      elim (cases_lt (depth d s sets b) (depth d s sets a)) [
        | inl less ↦ omega (arith, less, deeper s sets a b cost family near less (anchored sets a near.a_in rest) (anchored sets b near.b_in rest))
        | inr other ↦ elim (cases_lt (depth d s sets a) (depth d s sets b)) [
          | inl less ↦ omega (
            arith,
            less,
            apart-turned sets a b,
            deeper s sets b a cost family (record { a_in = near.b_in; b_in = near.a_in; forth = near.back; back = near.forth }) less (anchored sets b near.b_in rest) (anchored sets a near.a_in rest),
          )
          | inr same ↦ omega (arith, same, other, apart-least sets a b cost rest near)
        ]
      ]

  pub levels-apart : (sets : List OddSet) (e : ℕ) → levels_over d sets (edge_at p e) ≡ apart d sets (edge_at p e).u (edge_at p e).v
  levels-apart [] e = refl
  levels-apart (s ∷ sets) e =
      let a = (edge_at p e).u in
      let b = (edge_at p e).v in
      omega (
        arith,
        crossed_levels s.halves (depth d s sets a) (depth d s sets b),
        min-eq_left (depth-most d s sets a),
        min-eq_left (depth-most d s sets b),
        levels-apart sets e,
      )

  pub levels_pack_law : (sets : List OddSet) → IsValid p → IsFamily p d sets → (e : ℕ) → IsEdgeNumber p e → levels_over d sets (edge_at p e) ≤ 2 * (edge_at p e).cost
  levels_pack_law sets valid family e number =
      let near : AreNear (edge_at p e).u (edge_at p e).v (edge_at p e).cost = record {
        a_in = (valid.edges e number).u_in;
        b_in = (valid.edges e number).v_in;
        forth = λ v v_odd. family.distances.forth v e v_odd number;
        back = λ v v_odd. family.distances.back v e v_odd number;
      } in
      omega (arith, levels-apart sets e, apart-least sets (edge_at p e).u (edge_at p e).v (edge_at p e).cost family near)
