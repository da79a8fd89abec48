-- The edges of a description, and the ends that are no vertices.
use Rattle.std.proofs.Common.{◌≡◌, ℕ, ◌+◌, ◌-◌, ◌^◌, ◌<◌, ◌≤◌, ◌==◌, nat_lt, Bool, true, false, ◌||◌, List, length, map, get_or, Some, None, position, inl, inr, refl, arith, sym, ◌∙◌, ap}
use Rattle.std.proofs.lemmas.Bool.{cases_lt}
use Rattle.std.proofs.lemmas.Bool.Decides.{nat_tests}
use Rattle.std.proofs.lemmas.List.{get_or_append_left, get_or-append_right, get_or-map, get_or_default, length-map, length-append}
use Rattle.std.proofs.lemmas.List.Quantifiers.{position-Some}
use Rattle.carp_base.specs.declared.edge.Edge.{Edge}
use Rattle.carp_base.specs.declared.edge.RawEdge.{RawEdge}
use Rattle.carp_base.specs.declared.fault.InstanceFault.TheVariants.{EndOutOfRange}
use Rattle.carp_base.specs.Problem.{Problem, described, required_edge, other_edge, edge_at, no_edge, IsVertex, IsEdgeNumber}
use Rattle.carp_base.specs.Faults.{IsFirstFault}
use Rattle.carp_base.specs.Checks.{IsClear, is_outside, has_end_outside}
use Rattle.carp_base.proofs.Ranks.{only_ends}
use Rattle.carp_base.proofs.EdgeFaults.{EdgeFault, edge_clear, edge_first, position-None}
use Rattle.carp_base.proofs.Bounds.{few_vertices}
use Rattle.carp_base.proofs.Numbers.{edge_after, edge_before}
use Rattle.carp_base.proofs.Disjunctions.{or_left, or_right, or_either}

abbrev no_raw : RawEdge
no_raw = record { u = 0; v = 0; cost = 0; demand = 0; service = 0 }

abbrev is_astray : ℕ → Edge → Bool
is_astray n x = is_outside n x.u || is_outside n x.v

outside_from : (p : Problem) (v : ℕ) → ¬ (IsVertex p v) → is_outside p.vertices v ≡ true
outside_from p v none =
    elim (cases_lt p.vertices v) [
      | inl above ↦ grind (arith, nat_tests)
      | inr fits ↦ elim (cases_lt 0 v) [
        | inl positive ↦ absurd (none (record { from_one = positive; in_range = fits }))
        | inr none_at_all ↦ grind (arith, nat_tests)
      ]
    ]

outside_means : (p : Problem) (v : ℕ) → is_outside p.vertices v ≡ true → ¬ (IsVertex p v)
outside_means p v outside vertex =
    let low : 1 ≤ v = vertex.from_one in
    let high : v ≤ p.vertices = vertex.in_range in
    elim (or_either (v == 0) (nat_lt p.vertices v) outside) [
      | inl zero_is ↦ grind (arith, nat_tests)
      | inr above ↦ grind (arith, nat_tests)
    ]

ends : (p : Problem) → EdgeFault p EndOutOfRange 3 (length p.edges) (λ e. is_astray p.vertices (edge_at p e))
ends p = record {
  only = only_ends;
  ranked = λ _. refl;
  named = λ _. refl;
  shown = λ e fault. (
    fault.0.from_one,
    fault.0.in_range,
    elim fault.1 [
      | inl no_u ↦ or_left (is_outside p.vertices (edge_at p e).u) (is_outside p.vertices (edge_at p e).v) (outside_from p (edge_at p e).u no_u)
      | inr no_v ↦ or_right (is_outside p.vertices (edge_at p e).u) (is_outside p.vertices (edge_at p e).v) (outside_from p (edge_at p e).v no_v)
    ],
  );
  holds = λ e from_one below here. (
    record { from_one = from_one; in_range = below },
    elim (or_either (is_outside p.vertices (edge_at p e).u) (is_outside p.vertices (edge_at p e).v) here) [
      | inl no_u ↦ inl (outside_means p (edge_at p e).u no_u)
      | inr no_v ↦ inr (outside_means p (edge_at p e).v no_v)
    ],
  );
}

module _ (n d q : ℕ) (rs os : List RawEdge) where
  abbrev p : Problem
  p = described n d q rs os

  pub long : length p.edges ≡ length rs + length os
  long = length-append (map required_edge rs) (map other_edge os) ∙ (let a = length-map rs required_edge in let b = length-map os other_edge in omega arith)

  pub at_required : (k : ℕ) → k < length rs → get_or p.edges k no_edge ≡ required_edge (get_or rs k no_raw)
  at_required k below =
      get_or_append_left (map required_edge rs) (map other_edge os) no_edge k (let a = length-map rs required_edge in omega arith)
      ∙ get_or-map required_edge rs k no_raw no_edge below

  pub at_others : (k : ℕ) → length rs ≤ k → k < length p.edges → get_or p.edges k no_edge ≡ other_edge (get_or os (k - length rs) no_raw)
  at_others k past below =
      get_or-append_right (map required_edge rs) (map other_edge os) (length rs) k no_edge (length-map rs required_edge) past
      ∙ get_or-map other_edge os (k - length rs) no_raw no_edge (omega (arith, long, past, below))

  required_astray : (e : ℕ) → 1 ≤ e → e ≤ length rs → is_astray n (edge_at p e) ≡ has_end_outside n (get_or rs (e - 1) no_raw)
  required_astray e from_one below = ap (is_astray n) (edge_before p e from_one ∙ at_required (e - 1) (omega (arith, from_one, below)))

  others_astray : (e : ℕ) → length rs < e → e ≤ length p.edges → is_astray n (edge_at p e) ≡ has_end_outside n (get_or os (e - 1 - length rs) no_raw)
  others_astray e past below = ap (is_astray n) (edge_before p e (omega (arith, past)) ∙ at_others (e - 1) (omega (arith, past)) (omega (arith, past, below)))

  required_fine : None ≡ position (has_end_outside n) rs → (e : ℕ) → 1 ≤ e → e ≤ length rs → is_astray n (edge_at p e) ≡ false
  required_fine none e from_one below =
      required_astray e from_one below ∙ position-None (has_end_outside n) rs (e - 1) no_raw none (omega (arith, from_one, below))

  pub ends_clear : IsClear p 3 → None ≡ position (has_end_outside n) rs → None ≡ position (has_end_outside n) os → IsClear p 4
  ends_clear clear none_required none_others =
      edge_clear p EndOutOfRange 3 (length p.edges) (λ e. is_astray n (edge_at p e)) (ends p) clear (λ e from_one below.
      elim (cases_lt (length rs) e) [
        | inl past ↦ others_astray e past below ∙ position-None (has_end_outside n) os (e - 1 - length rs) no_raw none_others (omega (arith, long, past, below))
        | inr front ↦ required_fine none_required e from_one front
      ])

  pub ends_first_required : (i : ℕ) → IsClear p 3 → Some i ≡ position (has_end_outside n) rs → IsFirstFault p (EndOutOfRange (i + 1))
  ends_first_required i clear found =
      let at = position-Some (has_end_outside n) rs i no_raw (sym found) in
      let back : i + 1 - 1 ≡ i = omega arith in
      let here : has_end_outside n (get_or rs (i + 1 - 1) no_raw) ≡ true = rw back at.1 in
      edge_first p EndOutOfRange 3 (length p.edges) (λ e. is_astray n (edge_at p e)) (ends p) (i + 1) clear (omega arith) (omega (arith, long, at.0))
      (required_astray (i + 1) (omega arith) (omega (arith, at.0)) ∙ here)
      (λ e from_one below. required_astray e from_one (omega (arith, below, at.0)) ∙ at.2 (e - 1) (omega (arith, from_one, below)))

  pub ends_first_others : (i : ℕ) → IsClear p 3 → None ≡ position (has_end_outside n) rs → Some i ≡ position (has_end_outside n) os → IsFirstFault p (EndOutOfRange (length rs + i + 1))
  ends_first_others i clear none found =
      let at = position-Some (has_end_outside n) os i no_raw (sym found) in
      let back : length rs + i + 1 - 1 - length rs ≡ i = omega arith in
      let here : has_end_outside n (get_or os (length rs + i + 1 - 1 - length rs) no_raw) ≡ true = rw back at.1 in
      edge_first p EndOutOfRange 3 (length p.edges) (λ e. is_astray n (edge_at p e)) (ends p) (length rs + i + 1) clear (omega arith) (omega (arith, long, at.0))
      (others_astray (length rs + i + 1) (omega arith) (omega (arith, long, at.0)) ∙ here)
      (λ e from_one below. elim (cases_lt (length rs) e) [
        | inl past ↦ others_astray e past (omega (arith, below, long, at.0)) ∙ at.2 (e - 1 - length rs) (omega (arith, past, below))
        | inr front ↦ required_fine none e from_one front
      ])

-- where the ends of an edge are vertices, they are small numbers
pub small_ends : (p : Problem) (e : ℕ) → IsClear p 4 → IsEdgeNumber p e → ((edge_at p e).u ≤ p.vertices) × ((edge_at p e).v ≤ p.vertices)
small_ends p e clear number = (
  elim (cases_lt p.vertices (edge_at p e).u) [
    | inl above ↦ absurd (let low = clear.above (EndOutOfRange e) (number, inl (λ vertex. omega (arith, vertex.in_range, above))) in omega arith)
    | inr fine ↦ fine
  ],
  elim (cases_lt p.vertices (edge_at p e).v) [
    | inl above ↦ absurd (let low = clear.above (EndOutOfRange e) (number, inr (λ vertex. omega (arith, vertex.in_range, above))) in omega arith)
    | inr fine ↦ fine
  ],
)

module _ (n d q : ℕ) (rs os : List RawEdge) (clear : IsClear (described n d q rs os) 4) where
  few : n ≤ 1000
  few = few_vertices (described n d q rs os) 4 clear (omega arith)

  pub required_fit : (k : ℕ) (x : RawEdge) → k < length rs → ((get_or rs k x).u < 2 ^ 32) × ((get_or rs k x).v < 2 ^ 32)
  required_fit k x below =
      let number : IsEdgeNumber (described n d q rs os) (k + 1) = record { from_one = omega arith; in_range = omega (arith, long n d q rs os, below) } in
      let small = small_ends (described n d q rs os) (k + 1) clear number in
      let is = edge_after (described n d q rs os) k ∙ at_required n d q rs os k below in
      let same = get_or_default rs k x no_raw below in
      rw same (omega (arith, few, ap (λ y. y.u) is, small.0), omega (arith, few, ap (λ y. y.v) is, small.1))

  pub others_fit : (k : ℕ) (x : RawEdge) → k < length os → ((get_or os k x).u < 2 ^ 32) × ((get_or os k x).v < 2 ^ 32)
  others_fit k x below =
      let number : IsEdgeNumber (described n d q rs os) (length rs + k + 1) = record { from_one = omega arith; in_range = omega (arith, long n d q rs os, below) } in
      let small = small_ends (described n d q rs os) (length rs + k + 1) clear number in
      let is = edge_after (described n d q rs os) (length rs + k) ∙ at_others n d q rs os (length rs + k) (omega arith) (omega (arith, long n d q rs os, below)) in
      let index : length rs + k - length rs ≡ k = omega arith in
      let same = get_or_default os k x no_raw below in
      rw (same, ← index) (omega (arith, few, ap (λ y. y.u) is, small.0), omega (arith, few, ap (λ y. y.v) is, small.1))
