-- A least price is found among the lists of few steps, where there is one.
use Rattle.std.proofs.Common.{◌≡◌, ℕ, zero, suc, ◌<◌, ◌≤◌, Bool, true, false, List, [], ◌∷◌, length, refl, sym, ap, ◌∙◌, arith, inl, inr, ◌⊎◌, subst}
use Rattle.std.specs.List.{sum_by}
use Rattle.std.proofs.lemmas.Bool.{cases_eq, cases_lt}
use Rattle.std.proofs.lemmas.List.Sums.{sum_by-cons}
use Rattle.carp_base.specs.Problem.{Problem, IsValid, IsEdgeNumber, edge_at, tail_of, head_of}
use Rattle.plan_model.specs.Plans.{Leads}
use Rattle.plan_model.specs.declared.step.Step.{Step}
use Rattle.deadhead_paths.specs.Prices.{NoneServed, Deadheads, IsLeastPrice, NoneLead}
use Rattle.deadhead_paths.proofs.Shortening.{shortened}

-- of the lists with P one for which f is least
record HasLeast (P : List Step → Type 0) (f : List Step → ℕ) : Type 0 where
  pub steps : List Step
  pub is : P steps
  pub least : (other : List Step) → P other → f steps ≤ f other

-- no list has P, or one of those that do is least
abbrev Found : (List Step → Type 0) → (List Step → ℕ) → Type 0
Found P f = ((steps : List Step) → P steps → ⊥) ⊎ HasLeast P f

found_as : (P Q : List Step → Type 0) (f : List Step → ℕ) → ((s : List Step) → P s → Q s) → ((s : List Step) → Q s → P s) → Found P f → Found Q f
found_as P Q f there back (inl none) = inl (λ s is. none s (back s is))
found_as P Q f there back (inr one) = inr (record { steps = one.steps; is = there one.steps one.is; least = λ s is. one.least s (back s is) })

found_either : (P Q : List Step → Type 0) (f : List Step → ℕ) → Found P f → Found Q f → Found (λ s. P s ⊎ Q s) f
found_either P Q f (inl none) (inl no_other) = inl (λ s is. elim is [ inl p ↦ none s p | inr q ↦ no_other s q ])
found_either P Q f (inl none) (inr other) =
    inr (record { steps = other.steps; is = inr other.is; least = λ s is. elim is [ inl p ↦ absurd (none s p) | inr q ↦ other.least s q ] })
found_either P Q f (inr one) (inl no_other) =
    inr (record { steps = one.steps; is = inl one.is; least = λ s is. elim is [ inl p ↦ one.least s p | inr q ↦ absurd (no_other s q) ] })
found_either P Q f (inr one) (inr other) = elim (cases_lt (f one.steps) (f other.steps)) [
  | inl less ↦ inr (record { steps = one.steps; is = inl one.is; least = λ s is. elim is [ inl p ↦ one.least s p | inr q ↦ omega (arith, less, other.least s q) ] })
  | inr more ↦ inr (record { steps = other.steps; is = inr other.is; least = λ s is. elim is [ inl p ↦ omega (arith, more, one.least s p) | inr q ↦ other.least s q ] })
]

-- a step without service, by its edge and direction
abbrev crossing : ℕ → Bool → Step
crossing e forward = record { edge = e; forward = forward; served = false }

crossing_is : (s : Step) (e : ℕ) (forward : Bool) → s.edge ≡ e → s.forward ≡ forward → s.served ≡ false → s ≡ crossing e forward
crossing_is s e forward edge way free =
    ap (λ (n : ℕ). let t : Step = record { edge = n; forward = s.forward; served = s.served } in t) edge
    ∙ ap (λ (f : Bool). let t : Step = record { edge = e; forward = f; served = s.served } in t) way
    ∙ ap (λ (f : Bool). let t : Step = record { edge = e; forward = forward; served = f } in t) free

module _ (p : Problem) (q : ℕ → ℕ) (b : ℕ) where
  abbrev price : List Step → ℕ
  price steps = sum_by (λ s. q s.edge) steps

  -- at most k steps from a to b without service
  record Within (k a : ℕ) (steps : List Step) : Type 0 where
    pub unserved : NoneServed steps
    pub leads : Leads p a steps b
    pub few : length steps ≤ k

  -- such steps of which the first is on an edge of a number up to m, and such steps of which the first is known
  record Starts (k a m : ℕ) (steps : List Step) : Type 0 where
    pub step : Step
    pub rest : List Step
    pub steps_are : steps ≡ step ∷ rest
    pub free : step.served ≡ false
    pub number : IsEdgeNumber p step.edge
    pub up_to : step.edge ≤ m
    pub tail : tail_of (edge_at p step.edge) step.forward ≡ a
    pub onward : Within k (head_of (edge_at p step.edge) step.forward) rest

  record StartsBy (k a e : ℕ) (forward : Bool) (steps : List Step) : Type 0 where
    pub rest : List Step
    pub steps_are : steps ≡ crossing e forward ∷ rest
    pub number : IsEdgeNumber p e
    pub tail : tail_of (edge_at p e) forward ≡ a
    pub onward : Within k (head_of (edge_at p e) forward) rest

  found_by : (k a e : ℕ) (forward : Bool) → Found (Within k (head_of (edge_at p e) forward)) price → IsEdgeNumber p e → Found (StartsBy k a e forward) price
  found_by k a e forward onward number = elim (cases_eq (tail_of (edge_at p e) forward) a) [
    | inr other ↦ inl (λ s is. other is.tail)
    | inl same ↦ elim onward [
      | inl none ↦ inl (λ s is. none is.rest is.onward)
      | inr one ↦ inr (record {
        steps = crossing e forward ∷ one.steps;
        is = record { rest = one.steps; steps_are = refl; number = number; tail = same; onward = one.is };
        least = λ s is.
            omega (
              arith,
              one.least is.rest is.onward,
              ap price is.steps_are,
              sum_by-cons (λ x. q x.edge) (crossing e forward) one.steps,
              sum_by-cons (λ x. q x.edge) (crossing e forward) is.rest,
            );
      })
    ]
  ]

  starts_by : (k a m : ℕ) (forward : Bool) (steps : List Step) → StartsBy k a (suc m) forward steps → Starts k a (suc m) steps
  starts_by k a m forward steps is = record {
    step = crossing (suc m) forward;
    rest = is.rest;
    steps_are = is.steps_are;
    free = refl;
    number = is.number;
    up_to = omega arith;
    tail = is.tail;
    onward = is.onward;
  }

  starts_cases : (k a m : ℕ) (steps : List Step) → Starts k a (suc m) steps → (Starts k a m steps ⊎ StartsBy k a (suc m) true steps) ⊎ StartsBy k a (suc m) false steps
  starts_cases k a m steps is = elim (cases_eq is.step.edge (suc m)) [
    | inr other ↦ inl (inl (record {
      step = is.step;
      rest = is.rest;
      steps_are = is.steps_are;
      free = is.free;
      number = is.number;
      up_to = omega (arith, is.up_to, other);
      tail = is.tail;
      onward = is.onward;
    }))
    | inl same ↦ last is.step.forward refl same
  ]
    where
      step_is : (forward : Bool) → is.step.forward ≡ forward → is.step.edge ≡ suc m → is.step ≡ crossing (suc m) forward
      step_is forward way same = crossing_is is.step (suc m) forward same way is.free

      by : (forward : Bool) → is.step.forward ≡ forward → is.step.edge ≡ suc m → StartsBy k a (suc m) forward steps
      by forward way same =
          let s_is = step_is forward way same in
          record {
            rest = is.rest;
            steps_are = is.steps_are ∙ ap (λ s. s ∷ is.rest) s_is;
            number = subst (λ (s : Step). IsEdgeNumber p s.edge) s_is is.number;
            tail = subst (λ (s : Step). tail_of (edge_at p s.edge) s.forward ≡ a) s_is is.tail;
            onward = subst (λ (s : Step). Within k (head_of (edge_at p s.edge) s.forward) is.rest) s_is is.onward;
          }

      last : (forward : Bool) → is.step.forward ≡ forward → is.step.edge ≡ suc m → (Starts k a m steps ⊎ StartsBy k a (suc m) true steps) ⊎ StartsBy k a (suc m) false steps
      last true way same = inl (inr (by true way same))
      last false way same = inr (by false way same)

  found_starts : (k a : ℕ) → ((v : ℕ) → Found (Within k v) price) → (m : ℕ) → m ≤ length p.edges → Found (Starts k a m) price
  found_starts k a onward zero within = inl (λ s is. omega (arith, is.up_to, is.number.from_one))
  found_starts k a onward (suc m) within =
      let number : IsEdgeNumber p (suc m) = record { from_one = omega arith; in_range = within } in
      found_as (λ s. (Starts k a m s ⊎ StartsBy k a (suc m) true s) ⊎ StartsBy k a (suc m) false s) (Starts k a (suc m)) price
      (λ s is. elim is [
        | inl first ↦ elim first [
          | inl before ↦ record {
            step = before.step;
            rest = before.rest;
            steps_are = before.steps_are;
            free = before.free;
            number = before.number;
            up_to = omega (arith, before.up_to);
            tail = before.tail;
            onward = before.onward;
          }
          | inr forth ↦ starts_by k a m true s forth
        ]
        | inr back ↦ starts_by k a m false s back
      ])
      (starts_cases k a m)
      (found_either (λ s. Starts k a m s ⊎ StartsBy k a (suc m) true s) (StartsBy k a (suc m) false) price
      (found_either (Starts k a m) (StartsBy k a (suc m) true) price (found_starts k a onward m (omega (arith, within)))
      (found_by k a (suc m) true (onward (head_of (edge_at p (suc m)) true)) number))
      (found_by k a (suc m) false (onward (head_of (edge_at p (suc m)) false)) number))

  no_steps : (s : Step) (steps : List Step) → length (s ∷ steps) ≤ 0 → ⊥
  no_steps s steps few = omega (arith, few)

  within_cases : (k a : ℕ) (steps : List Step) → Within (suc k) a steps → Within 0 a steps ⊎ Starts k a (length p.edges) steps
  within_cases k a [] is = inl (record { unserved = tt; leads = is.leads; few = omega arith })
  within_cases k a (s ∷ steps) is = inr (record {
    step = s;
    rest = steps;
    steps_are = refl;
    free = is.unserved.0;
    number = is.leads.0;
    up_to = is.leads.0.in_range;
    tail = is.leads.1;
    onward = record { unserved = is.unserved.1; leads = is.leads.2; few = omega (arith, is.few) };
  })

  within_more : (k a : ℕ) (steps : List Step) → Within 0 a steps ⊎ Starts k a (length p.edges) steps → Within (suc k) a steps
  within_more k a steps (inl none) = record { unserved = none.unserved; leads = none.leads; few = omega (arith, none.few) }
  within_more k a steps (inr starts) =
      subst (Within (suc k) a) (sym starts.steps_are) (record {
        unserved = (starts.free, starts.onward.unserved);
        leads = (starts.number, starts.tail, starts.onward.leads);
        few = omega (arith, starts.onward.few);
      })

  found_none : (a : ℕ) → Found (Within 0 a) price
  found_none a = elim (cases_eq a b) [
    | inl same ↦ inr (record { steps = []; is = record { unserved = tt; leads = same; few = omega arith }; least = λ s is. omega arith })
    | inr other ↦ inl (λ s is. none s other is.leads is.few)
  ]
    where
      none : (s : List Step) → (a ≡ b → ⊥) → Leads p a s b → length s ≤ 0 → ⊥
      none [] other leads few = other leads
      none (x ∷ s) other leads few = omega (arith, few)

  found_within : (k a : ℕ) → Found (Within k a) price
  found_within zero a = found_none a
  found_within (suc k) a =
      found_as (λ s. Within 0 a s ⊎ Starts k a (length p.edges) s) (Within (suc k) a) price (within_more k a) (within_cases k a)
      (found_either (Within 0 a) (Starts k a (length p.edges)) price (found_none a) (found_starts k a (found_within k) (length p.edges) (omega arith)))

-- the same steps without their services
abbrev idle : List Step → List Step
idle [] = []
idle (s ∷ steps) = record { edge = s.edge; forward = s.forward; served = false } ∷ idle steps

idle_leads : (p : Problem) (a : ℕ) (steps : List Step) (b : ℕ) → Leads p a steps b → Leads p a (idle steps) b
idle_leads p a [] b leads = leads
idle_leads p a (s ∷ steps) b leads = (leads.0, leads.1, idle_leads p (head_of (edge_at p s.edge) s.forward) steps b leads.2)

idle_unserved : (steps : List Step) → NoneServed (idle steps)
idle_unserved [] = tt
idle_unserved (s ∷ steps) = (refl, idle_unserved steps)

-- from a to b no steps lead, or there is a least price
pub least_or_none : (p : Problem) → IsValid p → (q : ℕ → ℕ) (a b : ℕ) → NoneLead p a b ⊎ ((n : ℕ) × IsLeastPrice p q a b n)
least_or_none p valid q a b = elim (found_within p q b p.vertices a) [
  | inl none ↦ inl (λ steps leads.
      let there : Deadheads p q a b (sum_by (λ s. q s.edge) (idle steps)) (idle steps) =
      record { unserved = idle_unserved steps; leads = idle_leads p a steps b leads; costs = refl } in
      let short = shortened p valid q a b (sum_by (λ s. q s.edge) (idle steps)) (idle steps) there in
      none short.1 (record { unserved = short.2.unserved; leads = short.2.leads; few = omega (arith, short.4) }))
  | inr one ↦ inr (
    sum_by (λ s. q s.edge) one.steps,
    record {
      steps = one.steps;
      reached = record { unserved = one.is.unserved; leads = one.is.leads; costs = refl };
      least = λ n other there.
          let short = shortened p valid q a b n other there in
          omega (arith, one.least short.1 (record { unserved = short.2.unserved; leads = short.2.leads; few = omega (arith, short.4) }), short.2.costs, short.3);
    },
  )
]

-- few steps have a least price
pub short_least : (p : Problem) → IsValid p → (q : ℕ → ℕ) (a b n : ℕ) → IsLeastPrice p q a b n → (steps : List Step) × Deadheads p q a b n steps × (length steps < p.vertices)
short_least p valid q a b n least =
    let short = shortened p valid q a b n least.steps least.reached in
    let same : short.0 ≡ n = omega (arith, short.3, least.least short.0 short.1 short.2) in
    (short.1, subst (λ m. Deadheads p q a b m short.1) same short.2, short.4)
