-- Chains of arcs, one arc after another.
use Rattle.std.proofs.Common.{◌≡◌, ◌≢◌, ℕ, ◌+◌, ◌-◌, ◌<◌, ◌≤◌, List, [], ◌∷◌, ◌++◌, length, replicate, get_or, set, inl, inr, refl, arith, sym, subst, ◌∙◌, ap, get_or-set_same, get_or-set_other}
use Rattle.std.proofs.lemmas.Bool.{cases_lt, cases_eq}
use Rattle.std.proofs.lemmas.List.{length-set, length-replicate, get_or-replicate, length_push, get_or_push, get_or_append_left}
use Rattle.carp_base.specs.declared.edge.Edge.{Edge}
use Rattle.carp_base.specs.Search.{arc_tail, IsLink, AreChains}

link_at : (edges : List Edge) (v end link other : ℕ) → other ≡ link → IsLink edges v end link → IsLink edges v end other
link_at edges v end link other same is = let P : ℕ → Type 0 = IsLink edges v end in subst P (sym same) is

-- with no arc, no vertex has a link
pub chains_none : (edges : List Edge) (vertices : ℕ) → AreChains edges vertices 0 (replicate (vertices + 1) 0) []
chains_none edges vertices = record {
  starts = length-replicate (vertices + 1) 0;
  arcs = refl;
  at_vertex = λ v within.
      link_at edges v 0 0 (get_or (replicate (vertices + 1) 0) v 0) (get_or-replicate (vertices + 1) v 0 0 (omega (arith, within)))
      (record { within = omega arith; leaves = λ some. absurd (omega (arith, some)); last = λ arc from below. absurd (omega (arith, below)) });
  at_arc = λ arc below. absurd (omega (arith, below));
}

link_here : (edges : List Edge) (v arc : ℕ) → arc_tail edges arc ≡ v → IsLink edges v (arc + 1) (arc + 1)
link_here edges v arc leaves = record {
  within = omega arith;
  leaves = λ _. let back : arc + 1 - 1 ≡ arc = omega arith in rw back leaves;
  last = λ other from below. absurd (omega (arith, from, below));
}

link_before : (edges : List Edge) (v arc link : ℕ) → arc_tail edges arc ≢ v → IsLink edges v arc link → IsLink edges v (arc + 1) link
link_before edges v arc link elsewhere is = record {
  within = omega (arith, is.within);
  leaves = is.leaves;
  last = λ other from below. elim (cases_lt other arc) [
    | inl earlier ↦ is.last other from earlier
    | inr most ↦ let same : other ≡ arc = omega (arith, most, below) in rw same elsewhere
  ];
}

-- one more arc
pub chains_more : (edges : List Edge) (vertices arc : ℕ) (first next : List ℕ) (tail link : ℕ) →
    AreChains edges vertices arc first next → tail ≡ arc_tail edges arc → tail ≤ vertices → link ≡ get_or first tail 0 →
    AreChains edges vertices (arc + 1) (set first tail (arc + 1)) (next ++ link ∷ [])
chains_more edges vertices arc first next tail link chains leaves within was =
    let long = chains.starts in
    let below_end : tail < length first = omega arith in
    let count = chains.arcs in
    record {
      starts = length-set first tail (arc + 1) ∙ chains.starts;
      arcs = length_push next link ∙ ap (λ n. n + 1) chains.arcs;
      at_vertex = λ v in_range. elim (cases_eq v tail) [
        | inl same ↦ link_at edges v (arc + 1) (arc + 1) (get_or (set first tail (arc + 1)) v 0) (rw same (get_or-set_same first tail (arc + 1) 0 below_end)) (link_here edges v arc (sym leaves ∙ sym same))
        | inr other ↦
            link_at edges v (arc + 1) (get_or first v 0) (get_or (set first tail (arc + 1)) v 0) (get_or-set_other first tail v (arc + 1) 0 other)
            (link_before edges v arc (get_or first v 0) (λ same. other (sym same ∙ sym leaves)) (chains.at_vertex v in_range))
      ];
      at_arc = λ other below. elim (cases_lt other arc) [
        | inl earlier ↦
            link_at edges (arc_tail edges other) other (get_or next other 0) (get_or (next ++ link ∷ []) other 0)
            (get_or_append_left next (link ∷ []) 0 other (omega (arith, earlier, count))) (chains.at_arc other earlier)
        | inr most ↦
            let same : other ≡ arc = omega (arith, most, below) in
            rw same
            (link_at edges (arc_tail edges arc) arc (get_or first tail 0) (get_or (next ++ link ∷ []) arc 0) (get_or_push next link 0 arc count ∙ was)
            (rw (← leaves) (chains.at_vertex tail within)))
      ];
    }
