-- An edge is crossed from the vertex at hand.
use Rattle.std.proofs.Common.{◌≡◌, ℕ, zero, suc, ◌+◌, ◌-◌, ◌%◌, ◌<◌, ◌≤◌, ◌==◌, ◌||◌, Bool, true, false, eqb, List, [], ◌∷◌, ◌++◌, length, get_or, set, sym, ap, ◌∙◌, arith, inl, inr, Some}
use Rattle.std.proofs.lemmas.Bool.{cases_eq, cases_lt, ne_eqb, eq-eqb, eqb-true, false≢true}
use Rattle.std.proofs.lemmas.List.{length-set, length_push, get_or-set_same, get_or-set_other}
use Rattle.std.proofs.lemmas.List.Sums.{sum_by_push}
use Rattle.carp_base.specs.declared.edge.Edge.{Edge}
use Rattle.carp_base.specs.Problem.{Problem, IsValid, IsEdgeNumber, IsVertex, edge_at, head_of, tail_of}
use Rattle.plan_model.specs.declared.step.Step.{Step}
use Rattle.road_network.specs.Incidence.{far_end, has_end, incident}
use Rattle.edge_components.specs.Parts.{parts_of}
use Rattle.postman.specs.Trails.{Advances, IsSpent, IsTrail, crossing, left_at, one_each, one_if, worth_left, worth_of}
use Rattle.postman.proofs.Walks.{all_map, ends_count, leads_more}
use Rattle.postman.proofs.Worth.{at_less, none_stays, ones, parts_read, spent_stays, worth_less}

second_end : (b c : Bool) → b ≡ false → (b || c) ≡ true → c ≡ true
second_end true c not_first has = absurd (false≢true (sym not_first))
second_end false c not_first has = has

pub tail_is : (x : Edge) (v : ℕ) → has_end v x ≡ true → tail_of x (x.u == v) ≡ v
tail_is x v has = elim (cases_eq x.u v) [
  | inl first ↦ rw (eq-eqb x.u v first) first
  | inr other ↦ rw (ne_eqb x.u v other) (eqb-true x.v v (second_end (eqb x.u v) (eqb x.v v) (ne_eqb x.u v other) has))
]

pub end_in : (p : Problem) (x : Edge) (forward : Bool) → IsVertex p x.u → IsVertex p x.v → IsVertex p (tail_of x forward) × IsVertex p (head_of x forward)
end_in p x true u_in v_in = (u_in, v_in)
end_in p x false u_in v_in = (v_in, u_in)

-- the places before i at the vertex at hand are gone, too
pub gone_more : (p : Problem) (left next : List ℕ) (v i : ℕ) → length next ≡ p.vertices + 1 → IsVertex p v →
    ((w k : ℕ) → IsVertex p w → k < get_or next w 0 → parts_of left (get_or (incident p w) k 0) ≡ 0) →
    ((k : ℕ) → get_or next v 0 ≤ k → k < i → parts_of left (get_or (incident p v) k 0) ≡ 0) →
    (w k : ℕ) → IsVertex p w → k < get_or (set next v i) w 0 → parts_of left (get_or (incident p w) k 0) ≡ 0
gone_more p left next v i wide vertex gone before w k w_in below = elim (cases_eq w v) [
  | inl is ↦
      let low : k < i = omega (arith, below, ap (λ j. get_or (set next v i) j 0) is, get_or-set_same next v i 0 (omega (arith, wide, vertex.in_range))) in
      elim (cases_lt k (get_or next v 0)) [
        | inl old ↦ ap (λ j. parts_of left (get_or (incident p j) k 0)) is ∙ gone v k vertex old
        | inr new ↦ ap (λ j. parts_of left (get_or (incident p j) k 0)) is ∙ before k new low
      ]
  | inr other ↦ gone w k w_in (omega (arith, below, get_or-set_other next v w i 0 other))
]

module _ (p : Problem) (valid : IsValid p) (left next : List ℕ) (stack walk : List Step) (v i e n : ℕ) (trail : IsTrail p left next stack walk v)
    (number : IsEdgeNumber p e) (there : has_end v (edge_at p e) ≡ true) (some : parts_of left e ≡ suc n)
    (before : (k : ℕ) → get_or next v 0 ≤ k → k < i → parts_of left (get_or (incident p v) k 0) ≡ 0) where
  abbrev x : Edge
  x = edge_at p e

  abbrev after : List ℕ
  after = set left (e - 1) n

  abbrev step : Step
  step = crossing p v e (suc n)

  even_after : (w : ℕ) → IsVertex p w → (left_at p after w + one_if (far_end v x == w) + one_if (trail.back == w)) % 2 ≡ 0
  even_after w w_in =
      omega (
        arith,
        trail.even w w_in,
        at_less p left e n number trail.long some w,
        ends_count x (x.u == v) w (valid.edges e number).no_loop,
        ap (λ u. one_if (u == w)) (tail_is x v there),
      )

  few_after : worth_of one_each (stack ++ step ∷ []) + worth_of one_each walk + worth_left p one_each after ≤ p.required + length p.edges
  few_after = omega (arith, trail.few, sum_by_push (λ s. one_each s.edge s.served) stack step, worth_less p left e n number trail.long some one_each)

  crossed_to : Advances p left stack walk v after (set next v i) (stack ++ step ∷ []) walk (Some (far_end v x))
  crossed_to = record {
    stands = record {
      long = length-set left (e - 1) n ∙ trail.long;
      wide = length-set next v i ∙ trail.wide;
      gone = λ w k w_in below. none_stays p left e n number trail.long some (get_or (incident p w) k 0) (gone_more p left next v i trail.wide trail.vertex trail.gone before w k w_in below);
      vertex = (end_in p x (x.u == v) (valid.edges e number).u_in (valid.edges e number).v_in).1;
      leads = leads_more p p.depot stack step v trail.leads number (tail_is x v there);
      back = trail.back;
      returns = trail.returns;
      even = even_after;
      passed = all_map (λ s. IsSpent p left (tail_of (edge_at p s.edge) s.forward)) (λ s. IsSpent p after (tail_of (edge_at p s.edge) s.forward)) walk
          (λ s spent. spent_stays p left e n number trail.long some (tail_of (edge_at p s.edge) s.forward) spent) trail.passed;
      few = few_after;
    };
    spends = λ f. omega (arith, sum_by_push (λ s. f s.edge s.served) stack step, worth_less p left e n number trail.long some f);
    less = omega (arith, few_after, ones (stack ++ step ∷ []), ones walk, length_push stack step);
  }

pub crossed : (p : Problem) (valid : IsValid p) (left next : List ℕ) (stack walk : List Step) (v i e m : ℕ) → IsTrail p left next stack walk v →
    IsEdgeNumber p e → has_end v (edge_at p e) ≡ true → m ≡ get_or left (e - 1) 0 → 1 ≤ m →
    ((k : ℕ) → get_or next v 0 ≤ k → k < i → parts_of left (get_or (incident p v) k 0) ≡ 0) →
    (left' : List ℕ) (stack' : List Step) (to : ℕ) → left' ≡ set left (e - 1) (m - 1) → stack' ≡ stack ++ crossing p v e m ∷ [] → to ≡ far_end v (edge_at p e) →
    Advances p left stack walk v left' (set next v i) stack' walk (Some to)
crossed p valid left next stack walk v i e zero trail number there is one before left' stack' to is_left is_stack is_to = absurd (omega (arith, one))
crossed p valid left next stack walk v i e (suc n) trail number there is one before left' stack' to is_left is_stack is_to =
    let n_is : suc n - 1 ≡ n = omega arith in
    let to_left : left' ≡ set left (e - 1) n = is_left ∙ ap (set left (e - 1)) n_is in
    rw (to_left, is_stack, is_to)
    (crossed_to p valid left next stack walk v i e n trail number there (parts_read left e number.from_one ∙ sym is) before)
