-- No crossing is left at the vertex at hand, so the last step goes to the walk.
use Rattle.std.proofs.Common.{◌≡◌, ℕ, ◌+◌, ◌<◌, ◌≤◌, ◌==◌, ◌||◌, Bool, true, false, not, cond, List, [], ◌∷◌, ◌++◌, length, get_or, set, refl, sym, ap, ◌∙◌, subst, arith, inl, inr, Option, None, Some}
use Rattle.std.specs.Prelude.{if◌then◌else◌}
use Rattle.std.specs.List.{Contains}
use Rattle.std.proofs.lemmas.Bool.{cases_eq, cases_lt, ne_eqb, eq-eqb}
use Rattle.std.proofs.lemmas.List.{length-set, length_push, get_or_default}
use Rattle.std.proofs.lemmas.List.Sums.{sum_by_push}
use Rattle.carp_base.specs.Problem.{Problem, IsValid, IsEdgeNumber, IsVertex, edge_at, tail_of}
use Rattle.plan_model.specs.declared.step.Step.{Step}
use Rattle.plan_model.specs.Plans.{IsWalk, Leads, crosses}
use Rattle.road_network.specs.Incidence.{has_end, incident}
use Rattle.edge_components.specs.Parts.{parts_of}
use Rattle.postman.specs.Trails.{Advances, IsSpent, IsTrail, IsTurned, IsUnmoved, left_at, one_each, one_if, turned, worth_left, worth_of}
use Rattle.postman.proofs.Sums.{sum_to-same, sum_to-zero}
use Rattle.postman.proofs.Walks.{IsLast, all_push, leads_last, leads_more, turned_head, turned_tail}
use Rattle.postman.proofs.Worth.{ones}
use Rattle.postman.proofs.Crossing.{end_in, gone_more}

-- an edge that crosses the border of a vertex ends there
no_more : (b c : Bool) (n : ℕ) → ((b || c) ≡ true → n ≡ 0) → (if (if b then not c else c) then n else 0) ≡ 0
no_more true true n none = refl
no_more true false n none = none refl
no_more false true n none = none refl
no_more false false n none = refl

module _ (p : Problem) (valid : IsValid p) (left next : List ℕ) (stack walk : List Step) (v i : ℕ) (trail : IsTrail p left next stack walk v)
    (complete : (e : ℕ) → IsEdgeNumber p e → has_end v (edge_at p e) ≡ true → Contains (incident p v) e) (all : length (incident p v) ≤ i)
    (before : (k : ℕ) → get_or next v 0 ≤ k → k < i → parts_of left (get_or (incident p v) k 0) ≡ 0) where
  gone : (w k : ℕ) → IsVertex p w → k < get_or (set next v i) w 0 → parts_of left (get_or (incident p w) k 0) ≡ 0
  gone = gone_more p left next v i trail.wide trail.vertex trail.gone before

  spent : IsSpent p left v
  spent e number there =
      let at = complete e number there in
      let here : get_or (incident p v) at.0 0 ≡ e = get_or_default (incident p v) at.0 0 e at.1 ∙ at.2 in
      ap (parts_of left) (sym here) ∙ none_at at.0 (omega (arith, at.1, all))
    where
      none_at : (k : ℕ) → k < i → parts_of left (get_or (incident p v) k 0) ≡ 0
      none_at k below = elim (cases_lt k (get_or next v 0)) [
        | inl old ↦ trail.gone v k trail.vertex old
        | inr new ↦ before k new below
      ]

  none_left : left_at p left v ≡ 0
  none_left =
      sum_to-same (length p.edges) (λ e. if crosses (λ w. w == v) (edge_at p e) then parts_of left e else 0) (λ _. 0)
      (λ e one below. no_more ((edge_at p e).u == v) ((edge_at p e).v == v) (parts_of left e) (spent e (record { from_one = one; in_range = below })))
      ∙ sum_to-zero (length p.edges)

  -- the walk leads there
  back_is : trail.back ≡ v
  back_is = elim (cases_eq trail.back v) [
    | inl same ↦ same
    | inr other ↦
        absurd (omega (
          arith,
          trail.even v trail.vertex,
          none_left,
          ap {B = ℕ} (λ b. cond b 1 0) (eq-eqb v v refl),
          ap {B = ℕ} (λ b. cond b 1 0) (ne_eqb trail.back v other),
        ))
  ]

  unmoved : (stack' walk' : List Step) → IsUnmoved stack walk stack' walk' → Advances p left stack walk v left (set next v i) stack' walk' None
  unmoved stack' walk' same =
      let depot_is : p.depot ≡ v = subst (λ (s : List Step). Leads p p.depot s v) same.was trail.leads in
      let closed : IsWalk p walk = subst (λ w. Leads p p.depot walk w) (back_is ∙ sym depot_is) trail.returns in
      let at_depot : IsSpent p left p.depot = subst (λ w. IsSpent p left w) (sym depot_is) spent in
      rw (same.now, same.still, same.was)
      (record {
        stands = record { empty = refl; closed = closed; passed = trail.passed; at_depot = at_depot };
        spends = λ f. refl;
        less = omega arith;
      })

  module _ (stack' : List Step) (step : Step) (was : stack ≡ stack' ++ step ∷ []) where
    abbrev to : ℕ
    to = tail_of (edge_at p step.edge) step.forward

    last : IsLast p p.depot stack' step v
    last = leads_last p p.depot stack' step v (subst (λ (s : List Step). Leads p p.depot s v) was trail.leads)

    tail_now : tail_of (edge_at p step.edge) (not step.forward) ≡ v
    tail_now = turned_tail (edge_at p step.edge) step.forward ∙ last.head

    few_now : worth_of one_each stack' + worth_of one_each (walk ++ turned step ∷ []) + worth_left p one_each left ≤ p.required + length p.edges
    few_now =
        omega (
          arith,
          trail.few,
          ap (worth_of one_each) was,
          sum_by_push (λ s. one_each s.edge s.served) stack' step,
          sum_by_push (λ s. one_each s.edge s.served) walk (turned step),
        )

    moved_to : Advances p left stack walk v left (set next v i) stack' (walk ++ turned step ∷ []) (Some to)
    moved_to = record {
      stands = record {
        long = trail.long;
        wide = length-set next v i ∙ trail.wide;
        gone = gone;
        vertex = (end_in p (edge_at p step.edge) step.forward (valid.edges step.edge last.number).u_in (valid.edges step.edge last.number).v_in).0;
        leads = last.leads;
        back = to;
        returns = subst (λ w. Leads p p.depot (walk ++ turned step ∷ []) w) (turned_head (edge_at p step.edge) step.forward)
            (leads_more p p.depot walk (turned step) trail.back trail.returns last.number (tail_now ∙ sym back_is));
        even = λ w w_in. omega (arith, trail.even w w_in, ap (λ u. one_if (u == w)) back_is);
        passed = all_push (λ s. IsSpent p left (tail_of (edge_at p s.edge) s.forward)) walk (turned step) trail.passed (subst (λ w. IsSpent p left w) (sym tail_now) spent);
        few = few_now;
      };
      spends = λ f. omega (
        arith,
        ap (worth_of f) was,
        sum_by_push (λ s. f s.edge s.served) stack' step,
        sum_by_push (λ s. f s.edge s.served) walk (turned step),
      );
      less = omega (arith, few_now, ones stack', ones (walk ++ turned step ∷ []), ap (λ (s : List Step). length s) was, length_push stack' step, length_push walk (turned step));
    }

  pub gone_back : (stack' walk' : List Step) (to : Option ℕ) → IsTurned p stack walk stack' walk' to → Advances p left stack walk v left (set next v i) stack' walk' to
  gone_back stack' walk' None same = unmoved stack' walk' same
  gone_back stack' walk' (Some w) moved = rw (moved.now, moved.start) (moved_to stack' moved.step moved.was)
