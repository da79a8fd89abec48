-- The load of chains, by labels.
use Rattle.std.proofs.Common.{◌≡◌, ◌≢◌, ℕ, zero, suc, ◌+◌, ◌-◌, ◌*◌, ◌≤◌, ◌<◌, ◌==◌, Bool, true, false, ◌||◌, List, [], ◌∷◌, length, get_or, refl, sym, ap, ◌∙◌, arith, inl, inr, ◌⊎◌, ◌↔◌}
use Rattle.std.specs.Prelude.{if◌then◌else◌}
use Rattle.std.specs.List.{list_any, sum_by, AllByRecursion}
use Rattle.std.proofs.lemmas.List.Sums.{sum_by-cons}
use Rattle.std.proofs.lemmas.Bool.{or_cases, or_left, or_right, eq-eqb, eqb-true, ne_eqb, cases_eq, not_from_false, or_from}
use Rattle.carp_base.specs.Problem.{Problem, IsRequired, edge_at}
use Rattle.plan_model.specs.Sums.{sum_to}
use Rattle.decision_chains.specs.Exclusions.{AreJoined, AreDistinct, IsHeavy}
use Rattle.decision_chains.specs.declared.decision.Decision.{Decision}
use Rattle.decision_chains.specs.Neighbours.{times}
use Rattle.decision_chains.proofs.Times.{times-cons, times-same}
use Rattle.decision_chains.proofs.Covering.{covered}
use Rattle.decision_chains.specs.ChainTables.{IsLabelled, label_at}
use Rattle.std.proofs.Math.ListN.{set, length-set}
use Rattle.std.proofs.lemmas.List.{get_or-set_same, get_or-set_other}

module _ (is_member : ℕ → Bool) where
  -- the members among 1 to m
  abbrev pub members : ℕ → List ℕ
  members zero = []
  members (suc m) = if is_member (suc m) then suc m ∷ members m else members m

  member_step : (f : ℕ → ℕ) (b : Bool) (e n : ℕ) (es : List ℕ) → n ≡ sum_by f es → n + (if b then f e else 0) ≡ sum_by f (if b then e ∷ es else es)
  member_step f true e n es same = omega (arith, same, sum_by-cons f e es)
  member_step f false e n es same = omega (arith, same)

  pub members_sum : (f : ℕ → ℕ) (m : ℕ) → sum_to m (λ e. if is_member e then f e else 0) ≡ sum_by f (members m)
  members_sum f zero = refl
  members_sum f (suc m) = member_step f (is_member (suc m)) (suc m) _ (members m) (members_sum f m)

  pub in_members : (m e : ℕ) → 1 ≤ e → e ≤ m → is_member e ≡ true → 1 ≤ times e (members m)
  in_members zero e one most is = absurd (omega (arith, one, most))
  in_members (suc m) e one most is = elim (cases_eq e (suc m)) [
    | inl last ↦ rw (sym last, is) (omega (arith, times-same e (members m)))
    | inr other ↦ later (is_member (suc m)) (in_members m e one (omega (arith, most, other)) is)
  ]
    where
      later : (b : Bool) → 1 ≤ times e (members m) → 1 ≤ times e (if b then suc m ∷ members m else members m)
      later true h = omega (arith, h, times-cons e (suc m) (members m))
      later false h = h

  -- what holds of each member within 1 to m
  pub all_members : (P : ℕ → Type 0) (m : ℕ) → ((e : ℕ) → 1 ≤ e → e ≤ m → is_member e ≡ true → P e) → AllByRecursion P (members m)
  all_members P zero each = tt
  all_members P (suc m) each = one (is_member (suc m)) refl (all_members P m (λ e low high is. each e low (omega (arith, high)) is))
    where
      one : (b : Bool) → is_member (suc m) ≡ b → AllByRecursion P (members m) → AllByRecursion P (if b then suc m ∷ members m else members m)
      one true is rest = (each (suc m) (omega arith) (omega arith) is, rest)
      one false is rest = rest

  none_equal : (n : ℕ) (es : List ℕ) → AllByRecursion (λ e. e < n) es → list_any (λ x. x == n) es ≡ false
  none_equal n [] all = refl
  none_equal n (e ∷ es) all = or_from (e == n) (list_any (λ x. x == n) es) (ne_eqb e n (λ same. omega (arith, all.0, same))) (none_equal n es all.1)

  pub members_distinct : (m : ℕ) → AreDistinct (members m)
  members_distinct zero = tt
  members_distinct (suc m) = one (is_member (suc m)) (members_distinct m)
    where
      one : (b : Bool) → AreDistinct (members m) → AreDistinct (if b then suc m ∷ members m else members m)
      one true rest = (not_from_false _ (none_equal (suc m) (members m) (all_members (λ e. e < suc m) m (λ e low high is. omega (arith, high)))), rest)
      one false rest = rest

module _ (p : Problem) (branch : List Decision) (label : ℕ → ℕ) (labelled : IsLabelled branch label) (a b : ℕ) where
  abbrev pub in_either : ℕ → Bool
  in_either e = (label a == label e) || (label b == label e)

  abbrev pub load_of_both : ℕ
  load_of_both = sum_to p.required (λ e. if in_either e then (edge_at p e).demand else 0)

  either_from : (e : ℕ) → in_either e ≡ true → AreJoined branch a e ⊎ AreJoined branch b e
  either_from e is = elim (or_cases (label a == label e) (label b == label e) is) [
    | inl of_a ↦ inl ((labelled a e).0 (eqb-true _ _ of_a))
    | inr of_b ↦ inr ((labelled b e).0 (eqb-true _ _ of_b))
  ]

  either_to : (e : ℕ) → AreJoined branch a e ⊎ AreJoined branch b e → in_either e ≡ true
  either_to e (inl joined) = or_left (label a == label e) (label b == label e) (eq-eqb _ _ ((labelled a e).1 joined))
  either_to e (inr joined) = or_right (label a == label e) (label b == label e) (eq-eqb _ _ ((labelled b e).1 joined))

  all_in : (es : List ℕ) → AllByRecursion (λ e. IsRequired p e × (AreJoined branch a e ⊎ AreJoined branch b e)) es → AllByRecursion (λ e. 1 ≤ times e (members in_either p.required)) es
  all_in [] all = tt
  all_in (e ∷ es) all = (in_members in_either p.required e all.0.0.from_one all.0.0.in_range (either_to e all.0.1), all_in es all.1)

  -- two chains weigh too much exactly where the sum by labels does
  pub heavy_by_sum : IsHeavy p branch a b ↔ (p.capacity < load_of_both)
  heavy_by_sum = (
    (λ heavy. omega (
      arith,
      heavy.over,
      covered (λ e. (edge_at p e).demand) heavy.edges (members in_either p.required) heavy.distinct (all_in heavy.edges heavy.joined),
      members_sum in_either (λ e. (edge_at p e).demand) p.required,
    )),
    (λ over. record {
      edges = members in_either p.required;
      distinct = members_distinct in_either p.required;
      joined = all_members in_either (λ e. IsRequired p e × (AreJoined branch a e ⊎ AreJoined branch b e)) p.required
          (λ e low high is. (record { from_one = low; in_range = high }, either_from e is));
      over = omega (arith, over, members_sum in_either (λ e. (edge_at p e).demand) p.required);
    }),
  )

-- one edge more in the loads
module _ (p : Problem) (labels : List ℕ) where
  abbrev pub counted_as : ℕ → ℕ → ℕ
  counted_as l e = if label_at labels e == l then (edge_at p e).demand else 0

  counts : (l e : ℕ) → label_at labels e ≡ l → counted_as l e ≡ (edge_at p e).demand
  counts l e same = ap (λ b. if b then (edge_at p e).demand else 0) (eq-eqb (label_at labels e) l same)

  counts_not : (l e : ℕ) → label_at labels e ≢ l → counted_as l e ≡ 0
  counts_not l e other = ap (λ b. if b then (edge_at p e).demand else 0) (ne_eqb (label_at labels e) l other)

  pub add_step : (loads : List ℕ) (edge lab demand : ℕ) → 1 ≤ edge → 1 ≤ lab → lab ≤ length loads → lab ≡ label_at labels edge → demand ≡ (edge_at p edge).demand →
      ((k : ℕ) → k < length loads → get_or loads k 0 ≡ sum_to (edge - 1) (counted_as (k + 1))) →
      (k : ℕ) → k < length (set loads (lab - 1) (get_or loads (lab - 1) 0 + demand)) → get_or (set loads (lab - 1) (get_or loads (lab - 1) 0 + demand)) k 0 ≡ sum_to (edge + 1 - 1) (counted_as (k + 1))
  add_step loads zero lab demand from_one lab_from lab_in lab_is demand_is before k less = absurd (omega arith)
  add_step loads (suc j) lab demand from_one lab_from lab_in lab_is demand_is before k less =
      let e : suc j + 1 - 1 ≡ suc j = omega arith in
      let e' : suc j - 1 ≡ j = omega arith in
      let less' : k < length loads = omega (arith, less, length-set loads (lab - 1) (get_or loads (lab - 1) 0 + demand)) in
      let old : get_or loads k 0 ≡ sum_to j (counted_as (k + 1)) = before k less' ∙ ap (λ n. sum_to n (counted_as (k + 1))) e' in
      elim (cases_eq k (lab - 1)) [
        | inl here ↦
            let k_is : label_at labels (suc j) ≡ k + 1 = omega (arith, here, lab_is, lab_from) in
            let now : get_or (set loads (lab - 1) (get_or loads (lab - 1) 0 + demand)) k 0 ≡ get_or loads k 0 + demand = ap (λ i. get_or (set loads (lab - 1) (get_or loads (lab - 1) 0 + demand)) i 0) here ∙ get_or-set_same loads (lab - 1) (get_or loads (lab - 1) 0 + demand) 0 (omega (arith, lab_from, lab_in)) ∙ ap (λ i. get_or loads i 0 + demand) (sym here) in
            now ∙ omega (arith, old, demand_is, counts (k + 1) (suc j) k_is)
        | inr there ↦
            get_or-set_other loads (lab - 1) k (get_or loads (lab - 1) 0 + demand) 0 there
            ∙ omega (arith, old, counts_not (k + 1) (suc j) (λ same. there (omega (arith, same, lab_is))))
      ]
      ∙ ap (λ n. sum_to n (counted_as (k + 1))) (sym e)

  pub small_step : (loads : List ℕ) (edge place demand : ℕ) → 1 ≤ edge → place < length loads → demand ≤ 30000 →
      ((k : ℕ) → k < length loads → get_or loads k 0 ≤ 30000 * (edge - 1)) →
      (k : ℕ) → k < length (set loads place (get_or loads place 0 + demand)) → get_or (set loads place (get_or loads place 0 + demand)) k 0 ≤ 30000 * (edge + 1 - 1)
  small_step loads edge place demand from_one in_range few before k less =
      let less' : k < length loads = omega (arith, less, length-set loads place (get_or loads place 0 + demand)) in
      elim (cases_eq k place) [
        | inl here ↦ rw here (omega (arith, get_or-set_same loads place (get_or loads place 0 + demand) 0 in_range, before place in_range, few, from_one))
        | inr there ↦ omega (arith, get_or-set_other loads place k (get_or loads place 0 + demand) 0 there, before k less', from_one)
      ]
