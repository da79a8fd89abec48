-- One shell between a level and the next length, and shells one after another.
use Rattle.std.proofs.Common.{◌≡◌, ℕ, zero, suc, ◌+◌, ◌-◌, ◌<◌, ◌≤◌, true, false, ltb, pos, List, length, get_or, sym, ap, ◌∙◌, subst, arith, inl, inr, ◌⊎◌}
use Rattle.std.specs.List.Sorted.{IsPermutation, IsSorted}
use Rattle.std.specs.Ordering.{nat_cmp}
use Rattle.std.proofs.lemmas.Bool.{cases_lt, lt-ltb, ltb-true, le-ltb, false≢true}
use Rattle.std.proofs.lemmas.List.{get_or_default}
use Rattle.std.proofs.lemmas.List.Elements.{Contains-get_or}
use Rattle.std.proofs.lemmas.List.Sorted.{Contains-permutation, IsPermutation-sym, IsNonDecreasingBy-from_sort}
use Rattle.carp_base.specs.Problem.{Problem, IsValid, IsVertex}
use Rattle.cut_pool.specs.declared.shore.Weighted.{Weighted}
use Rattle.cut_pool.specs.Shores.{is_in, IsShore}
use Rattle.edge_components.specs.Listing.{vertices_where}
use Rattle.edge_components.specs.Laws.{VerticesAreListed}
use Rattle.capacity_cuts.specs.Levels.{IsBeyond, IsShell}
use Rattle.capacity_cuts.specs.Lengths.{AreLengths, AreEnds, IsGap, is_past}
use Rattle.capacity_cuts.proofs.Distancing.{beyond_from, beyond_to, depot_length}

module _ (listed : VerticesAreListed) (p : Problem) (lengths : List ℕ) (level end : ℕ) (valid : IsValid p) (are : AreLengths p lengths) (gap : IsGap p lengths level end) where
  in_list : (v : ℕ) → IsVertex p v → is_in (vertices_where (is_past lengths level) p.vertices) v ≡ ltb level (get_or lengths v 0)
  in_list v vertex = (listed p (is_past lengths level)).same v vertex

  place_in : is_in (vertices_where (is_past lengths level) p.vertices) gap.place ≡ true
  place_in = in_list gap.place gap.vertex ∙ lt-ltb level (get_or lengths gap.place 0) (omega (arith, gap.at, gap.less))

  pub past_shore : IsShore (vertices_where (is_past lengths level) p.vertices)
  past_shore = record {
    some = λ none. false≢true (ap (λ l. is_in l gap.place) (sym none) ∙ place_in);
    rising = (listed p (is_past lengths level)).rising;
  }

  depot_out : is_in (vertices_where (is_past lengths level) p.vertices) p.depot ≡ false
  depot_out = in_list p.depot valid.depot_in ∙ le-ltb level (get_or lengths p.depot 0) (omega (arith, depot_length p (get_or lengths p.depot 0) (are.each p.depot valid.depot_in)))

  pub is_shell : (shell : Weighted) → shell.shore ≡ vertices_where (is_past lengths level) p.vertices → shell.weight ≡ pos (end - level) → IsShell p level (end - level) shell
  is_shell shell shore_is weight_is = record {
    is_shore = subst (λ (l : List ℕ). IsShore l) (sym shore_is) past_shore;
    belongs = record {
      vertices = subst (λ (l : List ℕ). (k d : ℕ) → k < length l → IsVertex p (get_or l k d)) (sym shore_is) (listed p (is_past lengths level)).within;
      no_depot = ap (λ (l : List ℕ). is_in l p.depot) shore_is ∙ depot_out;
    };
    weight = weight_is;
    some = omega (arith, gap.less);
    level = λ s low high v vertex. (
      λ there.
          let above : level < get_or lengths v 0 = ltb-true level (get_or lengths v 0) (sym (here v vertex) ∙ there) in
          beyond_from p s v (get_or lengths v 0) (are.each v vertex) (far s v vertex high above (gap.none v vertex)),
      λ beyond.
          let above = beyond_to p s v (get_or lengths v 0) (are.each v vertex) beyond in
          here v vertex ∙ lt-ltb level (get_or lengths v 0) (omega (arith, above, low)),
    );
    ends = λ still.
        let beyond = (still gap.place gap.vertex).0 (here gap.place gap.vertex ∙ lt-ltb level (get_or lengths gap.place 0) (omega (arith, gap.at, gap.less))) in
        let above = beyond_to p (level + (end - level)) gap.place (get_or lengths gap.place 0) (are.each gap.place gap.vertex) beyond in
        omega (arith, above, gap.at, gap.less);
  }
    where
      here : (v : ℕ) → IsVertex p v → is_in shell.shore v ≡ ltb level (get_or lengths v 0)
      here v vertex = ap (λ (l : List ℕ). is_in l v) shore_is ∙ in_list v vertex

      far : (s v : ℕ) → IsVertex p v → s < level + (end - level) → level < get_or lengths v 0 → (get_or lengths v 0 ≤ level) ⊎ (end ≤ get_or lengths v 0) → s < get_or lengths v 0
      far s v vertex high above (inl below) = absurd (omega (arith, above, below))
      far s v vertex high above (inr past) = omega (arith, high, past, gap.less)

-- before the next length in order, each length is at most the level or at least this
pub next_gap : (p : Problem) (lengths ends : List ℕ) (level i : ℕ) → AreLengths p lengths → AreEnds lengths ends → i < length ends →
    ((k : ℕ) → k < i → get_or ends k 0 ≤ level) → level < get_or ends i 0 → IsGap p lengths level (get_or ends i 0)
next_gap p lengths ends level i are ordered in_range below less =
    let at = ordered.real i in_range in
    let value : get_or lengths at.0 0 ≡ get_or ends i 0 = get_or_default lengths at.0 0 (get_or ends i 0) at.1 ∙ at.2 in
    record {
      less = less;
      place = at.0;
      vertex = record { from_one = not_zero at.0 value; in_range = omega (arith, at.1, are.long) };
      at = value;
      none = λ v vertex.
          let there = ordered.held v (omega (arith, vertex.in_range, are.long)) in
          let found : get_or ends there.0 0 ≡ get_or lengths v 0 = get_or_default ends there.0 0 (get_or lengths v 0) there.1 ∙ there.2 in
          elim (cases_lt there.0 i) [
            | inl before ↦ inl (omega (arith, found, below there.0 before))
            | inr after ↦ inr (omega (arith, found, ordered.ordered i there.0 0 after there.1))
          ];
    }
  where
    not_zero : (v : ℕ) → get_or lengths v 0 ≡ get_or ends i 0 → 1 ≤ v
    not_zero zero value = absurd (omega (arith, value, are.zero, less))
    not_zero (suc v) value = omega arith

-- at the end no vertex is left
pub none_left : (p : Problem) (lengths ends : List ℕ) (level : ℕ) → AreLengths p lengths → AreEnds lengths ends → ((k : ℕ) → k < length ends → get_or ends k 0 ≤ level) →
    (v : ℕ) → IsVertex p v → IsBeyond p level v → ⊥
none_left p lengths ends level are ordered below v vertex beyond =
    let there = ordered.held v (omega (arith, vertex.in_range, are.long)) in
    let found : get_or ends there.0 0 ≡ get_or lengths v 0 = get_or_default ends there.0 0 (get_or lengths v 0) there.1 ∙ there.2 in
    omega (arith, found, below there.0 there.1, beyond_to p level v (get_or lengths v 0) (are.each v vertex) beyond)

pub sorted_ends : (lengths ends : List ℕ) → IsPermutation lengths ends → IsSorted nat_cmp ends → AreEnds lengths ends
sorted_ends lengths ends moved sorted = record {
  ordered = IsNonDecreasingBy-from_sort (λ n. n) ends sorted;
  held = λ v below. Contains-permutation lengths ends (get_or lengths v 0) moved (Contains-get_or lengths v 0 below);
  real = λ k below. Contains-permutation ends lengths (get_or ends k 0) (IsPermutation-sym lengths ends moved) (Contains-get_or ends k 0 below);
}

-- an end is small
pub end_small : (p : Problem) (lengths ends : List ℕ) (i : ℕ) → AreLengths p lengths → AreEnds lengths ends → i < length ends → get_or ends i 0 ≤ 1000000000
end_small p lengths ends i are ordered below =
    let at = ordered.real i below in
    omega (arith, get_or_default lengths at.0 0 (get_or ends i 0) at.1, at.2, are.small at.0)
