-- What the first pass that finds something finds is the verdict, and there is one verdict of a plan.
use Rattle.std.proofs.Common.{◌≡◌, ℕ, zero, suc, ◌+◌, ◌-◌, ◌<◌, ◌≤◌, ◌==◌, ◌⊎◌, List, length, get_or, min, refl, sym, ap, ◌∙◌, arith, inl, inr, add-one}
use Rattle.std.specs.Prelude.{if◌then◌else◌}
use Rattle.std.proofs.lemmas.Bool.{cases_lt}
use Rattle.carp_base.specs.Problem.{Problem}
use Rattle.plan_model.specs.declared.step.Step.{Step}
use Rattle.plan_model.specs.declared.verdict.Verdict.{Verdict}
use Rattle.plan_model.specs.declared.verdict.Verdict.TheVariants.{Lawful, Broken, NotAtDepot, ServesOther, ServedTwice, NotServed, Overload}
use Rattle.plan_model.specs.Plans.{IsLawful, plan_cost, services_of, steps_of, walk_at, walk_load}
use Rattle.plan_model.specs.Verdicts.{IsVerdict, VerdictApplies, VerdictNoLater, IsBroken, IsFailing, verdict_rank, verdict_number, verdict_step, tour_at}
use Rattle.plan_model.specs.Passes.{IsFirstNot, ContinuesAt, Continues, IsAtDepot, ServesOtherIn}
use Rattle.plan_model.proofs.Chains.{back, broken_step, not_broken, continues_unless_broken, away_walk, not_away, at_depot_unless_away}
use Rattle.plan_model.proofs.Clear.{IsClear, lawful_where_clear, clear_where_lawful}

-- a number from 1 at whose place P does not hold is no less than that of the first place
first_number : (n : ℕ) (P : ℕ → Type 0) (k : ℕ) → IsFirstNot n P k → (e : ℕ) → 1 ≤ e → ¬ (P (e - 1)) → suc k ≤ e
first_number n P k first e one fails = elim (cases_lt (e - 1) k) [
  | inl earlier ↦ absurd (fails (first.before (e - 1) earlier))
  | inr later ↦ omega (arith, later)
]

-- a place is no later where it is named by a lower number, or by the same number and no later step
no_later : (n m s r : ℕ) → n ≤ m → (n ≡ m → s ≤ r) → (n < m) ⊎ ((n ≡ m) × (s ≤ r))
no_later n m s r most steps = elim (cases_lt n m) [
  | inl less ↦ inl less
  | inr least ↦ let same : n ≡ m = omega arith in inr (same, steps same)
]

-- two places of which neither stands before the other are one
abbrev PlaceBefore : ℕ → ℕ → ℕ → ℕ → ℕ → ℕ → Type 0
PlaceBefore r r' n n' s s' = (r < r') ⊎ ((r ≡ r') × ((n < n') ⊎ ((n ≡ n') × (s ≤ s'))))

same_place : (r r' n n' s s' : ℕ) → PlaceBefore r r' n n' s s' → PlaceBefore r' r n' n s' s → (r ≡ r') × (n ≡ n') × (s ≡ s')
same_place r r' n n' s s' there back = elim there [
  | inl less ↦ absurd (elim back [ inl more ↦ omega arith | inr even ↦ omega (arith, even.0) ])
  | inr even ↦ elim even.1 [
    | inl less ↦ absurd (elim back [ inl more ↦ omega (arith, even.0) | inr odd ↦ elim odd.1 [ inl more ↦ omega arith | inr more ↦ omega (arith, more.0) ] ])
    | inr steps ↦ elim back [
      | inl more ↦ absurd (omega (arith, even.0))
      | inr odd ↦ elim odd.1 [
        | inl more ↦ absurd (omega (arith, steps.0))
        | inr more ↦ (even.0, steps.0, omega (arith, steps.1, more.1))
      ]
    ]
  ]
]

module _ (p : Problem) (plan : List (List Step)) where
  broken_within : (walk : List Step) (step : ℕ) → 1 ≤ step → ContinuesAt p walk (step - 1) → ¬ (IsBroken p walk step)
  broken_within walk zero one continues = absurd (omega arith)
  broken_within walk (suc i) one continues = not_broken p walk i (rw (back i) at continues)

  breaks_tour : (walk : List Step) (step : ℕ) → 1 ≤ step → step ≤ length walk → IsBroken p walk step → ¬ (Continues p walk)
  breaks_tour walk step one within broken continues = broken_within walk step one (continues (step - 1) (omega arith)) broken

  none_broken : ((k : ℕ) → k < length plan → Continues p (walk_at plan k)) → (tour step : ℕ) → ¬ (VerdictApplies p plan (Broken tour step))
  none_broken continues tour step found =
      breaks_tour (tour_at plan tour) step found.1.from_one found.1.in_range found.2 (continues (tour - 1) (omega (arith, found.0.from_one, found.0.in_range)))

  none_away : ((k : ℕ) → k < length plan → IsAtDepot p (walk_at plan k)) → (tour : ℕ) → ¬ (VerdictApplies p plan (NotAtDepot tour))
  none_away depot tour found = not_away p (tour_at plan tour) (depot (tour - 1) (omega (arith, found.0.from_one, found.0.in_range))) found.1

  none_twice : ((k : ℕ) → k < p.required → services_of (suc k) plan ≤ 1) → (e : ℕ) → ¬ (VerdictApplies p plan (ServedTwice e))
  none_twice most e found =
      let place : suc (e - 1) ≡ e = omega (arith, found.0.from_one) in
      let once = rw place at (most (e - 1) (omega (arith, found.0.from_one, found.0.in_range))) in
      absurd (omega (arith, once, found.1))

  none_unserved : ((k : ℕ) → k < p.required → 1 ≤ services_of (suc k) plan) → (e : ℕ) → ¬ (VerdictApplies p plan (NotServed e))
  none_unserved least e found =
      let place : suc (e - 1) ≡ e = omega (arith, found.0.from_one) in
      let once = rw place at (least (e - 1) (omega (arith, found.0.from_one, found.0.in_range))) in
      absurd (omega (arith, once, found.1))

  none_overload : ((k : ℕ) → k < length plan → walk_load p (walk_at plan k) ≤ p.capacity) → (tour load : ℕ) → ¬ (VerdictApplies p plan (Overload tour load))
  none_overload loads tour load found =
      absurd (omega (arith, loads (tour - 1) (omega (arith, found.0.from_one, found.0.in_range)), found.1, found.2))

  pub broken_first : (t i : ℕ) → IsFirstNot (length plan) (λ k. Continues p (walk_at plan k)) t →
      IsFirstNot (length (walk_at plan t)) (ContinuesAt p (walk_at plan t)) i → IsVerdict p plan (Broken (t + 1) (i + 1))
  broken_first t i tours steps = rw (add-one t, add-one i) (record { applies = applies; first = first }) where
    applies : VerdictApplies p plan (Broken (suc t) (suc i))
    applies = rw (back t) (
      record { from_one = omega arith; in_range = omega (arith, tours.in_range) },
      record { from_one = omega arith; in_range = omega (arith, steps.in_range) },
      broken_step p (walk_at plan t) i steps.fails,
    )

    first : (w : Verdict) → VerdictApplies p plan w → VerdictNoLater (Broken (suc t) (suc i)) w
    first (Broken tour step) h = inr (
      refl,
      no_later (suc t) tour (suc i) step
          (first_number _ (λ k. Continues p (walk_at plan k)) t tours tour h.0.from_one (breaks_tour (tour_at plan tour) step h.1.from_one h.1.in_range h.2))
          (λ same. let place : tour - 1 ≡ t = omega arith in
          let broken = rw place at h.2 in
          first_number _ (ContinuesAt p (walk_at plan t)) i steps step h.1.from_one (λ continues. broken_within (walk_at plan t) step h.1.from_one continues broken)),
    )
    first (NotAtDepot tour) h = inl (omega arith)
    first (ServesOther e) h = inl (omega arith)
    first (ServedTwice e) h = inl (omega arith)
    first (NotServed e) h = inl (omega arith)
    first (Overload tour load) h = inl (omega arith)
    first (Lawful cost) h = inl (omega arith)

  module _ (continues : (k : ℕ) → k < length plan → Continues p (walk_at plan k)) where
    pub away_first : (t : ℕ) → IsFirstNot (length plan) (λ k. IsAtDepot p (walk_at plan k)) t → IsVerdict p plan (NotAtDepot (t + 1))
    away_first t tours = rw (add-one t) (record { applies = applies; first = first }) where
      applies : VerdictApplies p plan (NotAtDepot (suc t))
      applies = rw (back t) (record { from_one = omega arith; in_range = omega (arith, tours.in_range) }, away_walk p (walk_at plan t) tours.fails)

      first : (w : Verdict) → VerdictApplies p plan w → VerdictNoLater (NotAtDepot (suc t)) w
      first (Broken tour step) h = absurd (none_broken continues tour step h)
      first (NotAtDepot tour) h = inr (
        refl,
        no_later (suc t) tour 0 0
            (first_number _ (λ k. IsAtDepot p (walk_at plan k)) t tours tour h.0.from_one (λ depot. not_away p (tour_at plan tour) depot h.1)) (λ _. omega arith),
      )
      first (ServesOther e) h = inl (omega arith)
      first (ServedTwice e) h = inl (omega arith)
      first (NotServed e) h = inl (omega arith)
      first (Overload tour load) h = inl (omega arith)
      first (Lawful cost) h = inl (omega arith)

    module _ (depot : (k : ℕ) → k < length plan → IsAtDepot p (walk_at plan k)) where
      pub other_first : (e : ℕ) → ServesOtherIn p (steps_of plan) e → ((d : ℕ) → ServesOtherIn p (steps_of plan) d → e ≤ d) → IsVerdict p plan (ServesOther e)
      other_first e other least = record { applies = other; first = first } where
        first : (w : Verdict) → VerdictApplies p plan w → VerdictNoLater (ServesOther e) w
        first (Broken tour step) h = absurd (none_broken continues tour step h)
        first (NotAtDepot tour) h = absurd (none_away depot tour h)
        first (ServesOther d) h = inr (refl, no_later e d 0 0 (least d h) (λ _. omega arith))
        first (ServedTwice d) h = inl (omega arith)
        first (NotServed d) h = inl (omega arith)
        first (Overload tour load) h = inl (omega arith)
        first (Lawful cost) h = inl (omega arith)

      module _ (no_other : (e : ℕ) → ¬ (ServesOtherIn p (steps_of plan) e)) where
        pub twice_first : (k : ℕ) → IsFirstNot p.required (λ k. services_of (suc k) plan ≤ 1) k → IsVerdict p plan (ServedTwice (k + 1))
        twice_first k edges = rw (add-one k) (record { applies = applies; first = first }) where
          applies : VerdictApplies p plan (ServedTwice (suc k))
          applies = (
            record { from_one = omega arith; in_range = omega (arith, edges.in_range) },
            elim (cases_lt 1 (services_of (suc k) plan)) [ inl more ↦ omega arith | inr most ↦ absurd (edges.fails most) ],
          )

          first : (w : Verdict) → VerdictApplies p plan w → VerdictNoLater (ServedTwice (suc k)) w
          first (Broken tour step) h = absurd (none_broken continues tour step h)
          first (NotAtDepot tour) h = absurd (none_away depot tour h)
          first (ServesOther d) h = absurd (no_other d h)
          first (ServedTwice d) h = inr (
            refl,
            no_later (suc k) d 0 0
                (first_number _ (λ k. services_of (suc k) plan ≤ 1) k edges d h.0.from_one
                (λ most. let place : suc (d - 1) ≡ d = omega (arith, h.0.from_one) in let once = rw place at most in absurd (omega (arith, once, h.1)))) (λ _. omega arith),
          )
          first (NotServed d) h = inl (omega arith)
          first (Overload tour load) h = inl (omega arith)
          first (Lawful cost) h = inl (omega arith)

        module _ (most : (k : ℕ) → k < p.required → services_of (suc k) plan ≤ 1) where
          pub unserved_first : (k : ℕ) → IsFirstNot p.required (λ k. 1 ≤ services_of (suc k) plan) k → IsVerdict p plan (NotServed (k + 1))
          unserved_first k edges = rw (add-one k) (record { applies = applies; first = first }) where
            applies : VerdictApplies p plan (NotServed (suc k))
            applies = (
              record { from_one = omega arith; in_range = omega (arith, edges.in_range) },
              elim (cases_lt 0 (services_of (suc k) plan)) [ inl some ↦ absurd (edges.fails (omega arith)) | inr none ↦ omega arith ],
            )

            first : (w : Verdict) → VerdictApplies p plan w → VerdictNoLater (NotServed (suc k)) w
            first (Broken tour step) h = absurd (none_broken continues tour step h)
            first (NotAtDepot tour) h = absurd (none_away depot tour h)
            first (ServesOther d) h = absurd (no_other d h)
            first (ServedTwice d) h = absurd (none_twice most d h)
            first (NotServed d) h = inr (
              refl,
              no_later (suc k) d 0 0
                  (first_number _ (λ k. 1 ≤ services_of (suc k) plan) k edges d h.0.from_one
                  (λ some. let place : suc (d - 1) ≡ d = omega (arith, h.0.from_one) in let once = rw place at some in absurd (omega (arith, once, h.1)))) (λ _. omega arith),
            )
            first (Overload tour load) h = inl (omega arith)
            first (Lawful cost) h = inl (omega arith)

          module _ (least : (k : ℕ) → k < p.required → 1 ≤ services_of (suc k) plan) where
            pub overload_first : (t load : ℕ) → IsFirstNot (length plan) (λ k. walk_load p (walk_at plan k) ≤ p.capacity) t →
                load ≡ walk_load p (walk_at plan t) → IsVerdict p plan (Overload (t + 1) load)
            overload_first t load tours load_is = rw (add-one t) (record { applies = applies; first = first }) where
              applies : VerdictApplies p plan (Overload (suc t) load)
              applies = rw (back t) (
                record { from_one = omega arith; in_range = omega (arith, tours.in_range) },
                load_is,
                elim (cases_lt p.capacity load) [ inl above ↦ above | inr within ↦ absurd (tours.fails (omega (arith, within, load_is))) ],
              )

              first : (w : Verdict) → VerdictApplies p plan w → VerdictNoLater (Overload (suc t) load) w
              first (Broken tour step) h = absurd (none_broken continues tour step h)
              first (NotAtDepot tour) h = absurd (none_away depot tour h)
              first (ServesOther d) h = absurd (no_other d h)
              first (ServedTwice d) h = absurd (none_twice most d h)
              first (NotServed d) h = absurd (none_unserved least d h)
              first (Overload tour other) h = inr (
                refl,
                no_later (suc t) tour 0 0
                    (first_number _ (λ k. walk_load p (walk_at plan k) ≤ p.capacity) t tours tour h.0.from_one (λ within. absurd (omega (arith, within, h.1, h.2)))) (λ _. omega arith),
              )
              first (Lawful cost) h = inl (omega arith)

  pub nothing_fails : IsClear p plan → (v : Verdict) → IsFailing v → ¬ (VerdictApplies p plan v)
  nothing_fails clear (Broken tour step) fails h = none_broken clear.continues tour step h
  nothing_fails clear (NotAtDepot tour) fails h = none_away clear.depot tour h
  nothing_fails clear (ServesOther e) fails h = clear.no_other e h
  nothing_fails clear (ServedTwice e) fails h = none_twice clear.at_most_once e h
  nothing_fails clear (NotServed e) fails h = none_unserved clear.at_least_once e h
  nothing_fails clear (Overload tour load) fails h = none_overload clear.loads tour load h
  nothing_fails clear (Lawful cost) fails h = absurd (omega (arith, fails))

  pub lawful_first : (cost : ℕ) → IsClear p plan → cost ≡ plan_cost p plan → IsVerdict p plan (Lawful cost)
  lawful_first cost clear cost_is = record { applies = (lawful_where_clear p plan clear, cost_is); first = first } where
    first : (w : Verdict) → VerdictApplies p plan w → VerdictNoLater (Lawful cost) w
    first (Broken tour step) h = absurd (none_broken clear.continues tour step h)
    first (NotAtDepot tour) h = absurd (none_away clear.depot tour h)
    first (ServesOther d) h = absurd (clear.no_other d h)
    first (ServedTwice d) h = absurd (none_twice clear.at_most_once d h)
    first (NotServed d) h = absurd (none_unserved clear.at_least_once d h)
    first (Overload tour load) h = absurd (none_overload clear.loads tour load h)
    first (Lawful other) h = inr (refl, inr (refl, omega arith))

  clear_where_nothing_fails : ((v : Verdict) → IsFailing v → ¬ (VerdictApplies p plan v)) → IsClear p plan
  clear_where_nothing_fails none = record {
    continues = λ t in_plan i in_walk. continues_unless_broken p (walk_at plan t) i (λ broken. none (Broken (suc t) (suc i)) (omega arith) (rw (back t) (
      record { from_one = omega arith; in_range = omega arith },
      record { from_one = omega arith; in_range = omega arith },
      broken,
    )));
    depot = λ t in_plan. at_depot_unless_away p (walk_at plan t) (λ away.
        none (NotAtDepot (suc t)) (omega arith) (rw (back t) (record { from_one = omega arith; in_range = omega arith }, away)));
    no_other = λ e other. none (ServesOther e) (omega arith) other;
    at_most_once = λ k below. elim (cases_lt 1 (services_of (suc k) plan)) [
      | inl more ↦ absurd (none (ServedTwice (suc k)) (omega arith) (record { from_one = omega arith; in_range = omega arith }, omega arith))
      | inr most ↦ most
    ];
    at_least_once = λ k below. elim (cases_lt 0 (services_of (suc k) plan)) [
      | inl some ↦ omega arith
      | inr never ↦ absurd (none (NotServed (suc k)) (omega arith) (record { from_one = omega arith; in_range = omega arith }, omega arith))
    ];
    loads = λ t in_plan. elim (cases_lt p.capacity (walk_load p (walk_at plan t))) [
      | inl above ↦ absurd (none (Overload (suc t) (walk_load p (walk_at plan t))) (omega arith) (rw (back t) (record { from_one = omega arith; in_range = omega arith }, refl, above)))
      | inr within ↦ within
    ];
  }

  pub lawful_where_nothing_fails : ((v : Verdict) → IsFailing v → ¬ (VerdictApplies p plan v)) → IsLawful p plan
  lawful_where_nothing_fails none = lawful_where_clear p plan (clear_where_nothing_fails none)

  pub nothing_fails_where_lawful : IsLawful p plan → (v : Verdict) → IsFailing v → ¬ (VerdictApplies p plan v)
  nothing_fails_where_lawful lawful = nothing_fails (clear_where_lawful p plan lawful)

  pub lawful_verdict : (cost : ℕ) → IsLawful p plan → cost ≡ plan_cost p plan → IsVerdict p plan (Lawful cost)
  lawful_verdict cost lawful cost_is = lawful_first cost (clear_where_lawful p plan lawful) cost_is

  -- the verdict of a rank that names this tour or edge, and this step
  made : ℕ → ℕ → ℕ → Verdict
  made rank number step =
      if rank == 1 then Broken number step
      else if rank == 2 then NotAtDepot number
      else if rank == 3 then ServesOther number
      else if rank == 4 then ServedTwice number
      else if rank == 5 then NotServed number
      else if rank == 6 then Overload number (walk_load p (tour_at plan number))
      else Lawful (plan_cost p plan)

  is_made : (v : Verdict) → VerdictApplies p plan v → v ≡ made (verdict_rank v) (verdict_number v) (verdict_step v)
  unfolding made
  is_made (Broken tour step) h = refl
  is_made (NotAtDepot tour) h = refl
  is_made (ServesOther e) h = refl
  is_made (ServedTwice e) h = refl
  is_made (NotServed e) h = refl
  is_made (Overload tour load) h = ap (Overload tour) h.1
  is_made (Lawful cost) h = ap Lawful h.1

  pub one_verdict : (v w : Verdict) → IsVerdict p plan v → IsVerdict p plan w → v ≡ w
  one_verdict v w v_is w_is =
      let same = same_place (verdict_rank v) (verdict_rank w) (verdict_number v) (verdict_number w) (verdict_step v) (verdict_step w) (v_is.first w w_is.applies) (w_is.first v v_is.applies) in
      is_made v v_is.applies ∙ (rw (same.0, same.1, same.2) refl) ∙ sym (is_made w w_is.applies)

-- a first place is one of another property that says the same
first_place_same : (n m : ℕ) (P Q : ℕ → Type 0) (i : ℕ) → n ≡ m → ((k : ℕ) → k < n → P k → Q k) → ((k : ℕ) → k < n → Q k → P k) → IsFirstNot n P i → IsFirstNot m Q i
first_place_same n m P Q i same there here first = record {
  in_range = omega (arith, first.in_range);
  fails = λ q. first.fails (here i first.in_range q);
  before = λ k earlier. there k (omega (arith, first.in_range)) (first.before k earlier);
}

-- the counts, up to 2, of how often each edge is served
module _ (plan : List (List Step)) (counts : List ℕ) (counted : (k : ℕ) → k < length counts → get_or counts k 0 ≡ min 2 (services_of (k + 1) plan)) where
  most_once : (k : ℕ) → k < length counts → get_or counts k 0 ≤ 1 → services_of (suc k) plan ≤ 1
  most_once k below most = let count = rw (add-one k) at (counted k below) in omega (arith, count, most)

  counts_most : (k : ℕ) → k < length counts → services_of (suc k) plan ≤ 1 → get_or counts k 0 ≤ 1
  counts_most k below most = let count = rw (add-one k) at (counted k below) in omega (arith, count, most)

  some_service : (k : ℕ) → k < length counts → 1 ≤ get_or counts k 0 → 1 ≤ services_of (suc k) plan
  some_service k below some = let count = rw (add-one k) at (counted k below) in omega (arith, count, some)

  counts_some : (k : ℕ) → k < length counts → 1 ≤ services_of (suc k) plan → 1 ≤ get_or counts k 0
  counts_some k below some = let count = rw (add-one k) at (counted k below) in omega (arith, count, some)

  module _ (n : ℕ) (same : length counts ≡ n) where
    pub none_more : ((k : ℕ) → k < length counts → get_or counts k 0 ≤ 1) → (k : ℕ) → k < n → services_of (suc k) plan ≤ 1
    none_more most k below = most_once k (omega arith) (most k (omega arith))

    pub none_missed : ((k : ℕ) → k < length counts → 1 ≤ get_or counts k 0) → (k : ℕ) → k < n → 1 ≤ services_of (suc k) plan
    none_missed some k below = some_service k (omega arith) (some k (omega arith))

    pub first_more : (i : ℕ) → IsFirstNot (length counts) (λ k. get_or counts k 0 ≤ 1) i → IsFirstNot n (λ k. services_of (suc k) plan ≤ 1) i
    first_more i first = first_place_same _ _ (λ k. get_or counts k 0 ≤ 1) _ i same most_once counts_most first

    pub first_missed : (i : ℕ) → IsFirstNot (length counts) (λ k. 1 ≤ get_or counts k 0) i → IsFirstNot n (λ k. 1 ≤ services_of (suc k) plan) i
    first_missed i first = first_place_same _ _ (λ k. 1 ≤ get_or counts k 0) _ i same some_service counts_some first
