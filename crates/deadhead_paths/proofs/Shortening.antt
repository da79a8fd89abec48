-- Each list of steps without service can be made shorter than there are vertices, at no higher price.
use Rattle.std.proofs.Common.{◌≡◌, ℕ, ◌+◌, ◌<◌, ◌≤◌, ◌==◌, Bool, true, false, cond, List, [], ◌∷◌, length, refl, sym, ap, arith, inl, inr, subst}
use Rattle.std.specs.List.{sum_by, count_by, All}
use Rattle.std.proofs.lemmas.Bool.{cases_eq, cases_lt, eq-eqb, ne_eqb}
use Rattle.std.proofs.lemmas.List.Elements.{All-cons, All-nil}
use Rattle.std.proofs.lemmas.List.Sums.{sum_by-cons}
use Rattle.carp_base.specs.Problem.{Problem, IsValid, IsVertex, IsEdgeNumber, edge_at, tail_of, head_of}
use Rattle.plan_model.specs.Plans.{Leads}
use Rattle.plan_model.specs.declared.step.Step.{Step}
use Rattle.deadhead_paths.specs.Prices.{NoneServed, Deadheads}
use Rattle.deadhead_paths.proofs.Counting.{at_most_once}

-- the vertices at which the steps start, and at the end b
abbrev stops : Problem → ℕ → List Step → List ℕ
stops p b [] = b ∷ []
stops p b (s ∷ steps) = tail_of (edge_at p s.edge) s.forward ∷ stops p b steps

-- how often a vertex stands in a list
abbrev times : ℕ → List ℕ → ℕ
times v vs = count_by (λ x. x == v) vs

times_same : (v x : ℕ) (vs : List ℕ) → x ≡ v → times v (x ∷ vs) ≡ 1 + times v vs
times_same v x vs same = omega (arith, sum_by-cons (λ y. cond (y == v) 1 0) x vs, ap {B = ℕ} (λ b. cond b 1 0) (eq-eqb x v same))

times_other : (v x : ℕ) (vs : List ℕ) → (x ≡ v → ⊥) → times v (x ∷ vs) ≡ times v vs
times_other v x vs other = omega (arith, sum_by-cons (λ y. cond (y == v) 1 0) x vs, ap {B = ℕ} (λ b. cond b 1 0) (ne_eqb x v other))

times_more : (v x : ℕ) (vs : List ℕ) → times v vs ≤ times v (x ∷ vs)
times_more v x vs = omega (arith, sum_by-cons (λ y. cond (y == v) 1 0) x vs)

-- steps from a to b of at most a price, with no vertex twice
record Simple (p : Problem) (q : ℕ → ℕ) (a b price : ℕ) : Type 0 where
  pub steps : List Step
  pub unserved : NoneServed steps
  pub leads : Leads p a steps b
  pub cheap : sum_by (λ s. q s.edge) steps ≤ price
  pub once : (v : ℕ) → times v (stops p b steps) ≤ 1

once_alone : (b v : ℕ) → times v (b ∷ []) ≤ 1
once_alone b v = elim (cases_eq b v) [
  | inl same ↦ omega (arith, times_same v b [] same)
  | inr other ↦ omega (arith, times_other v b [] other)
]

module _ (p : Problem) (q : ℕ → ℕ) (b : ℕ) where
  -- the steps from a vertex on at which they come by
  from_there : (v : ℕ) (steps : List Step) (c : ℕ) → NoneServed steps → Leads p c steps b → ((w : ℕ) → times w (stops p b steps) ≤ 1) → 1 ≤ times v (stops p b steps) →
      Simple p q v b (sum_by (λ s. q s.edge) steps)
  from_there v [] c unserved leads once there = elim (cases_eq b v) [
    | inl same ↦ record { steps = []; unserved = tt; leads = sym same; cheap = omega arith; once = once }
    | inr other ↦ absurd (omega (arith, there, times_other v b [] other))
  ]
  from_there v (s ∷ steps) c unserved leads once there = elim (cases_eq (tail_of (edge_at p s.edge) s.forward) v) [
    | inl same ↦ record { steps = s ∷ steps; unserved = unserved; leads = (leads.0, same, leads.2); cheap = omega arith; once = once }
    | inr other ↦
        let rest = from_there v steps (head_of (edge_at p s.edge) s.forward) unserved.1 leads.2
        (λ w. omega (arith, once w, times_more w (tail_of (edge_at p s.edge) s.forward) (stops p b steps)))
        (omega (arith, there, times_other v (tail_of (edge_at p s.edge) s.forward) (stops p b steps) other)) in
        record { steps = rest.steps; unserved = rest.unserved; leads = rest.leads; cheap = omega (arith, rest.cheap, sum_by-cons (λ x. q x.edge) s steps); once = rest.once }
  ]

  -- a step before simple ones
  step_before : (s : Step) → s.served ≡ false → IsEdgeNumber p s.edge → (price : ℕ) → Simple p q (head_of (edge_at p s.edge) s.forward) b price →
      Simple p q (tail_of (edge_at p s.edge) s.forward) b (q s.edge + price)
  step_before s free number price rest =
      let v = tail_of (edge_at p s.edge) s.forward in
      elim (cases_lt 0 (times v (stops p b rest.steps))) [
        | inl there ↦
            let cut = from_there v rest.steps (head_of (edge_at p s.edge) s.forward) rest.unserved rest.leads rest.once (omega (arith, there)) in
            record { steps = cut.steps; unserved = cut.unserved; leads = cut.leads; cheap = omega (arith, cut.cheap, rest.cheap); once = cut.once }
        | inr absent ↦ record {
          steps = s ∷ rest.steps;
          unserved = (free, rest.unserved);
          leads = (number, refl, rest.leads);
          cheap = omega (arith, rest.cheap, sum_by-cons (λ x. q x.edge) s rest.steps);
          once = λ w. elim (cases_eq v w) [
            | inl same ↦ omega (arith, times_same w v (stops p b rest.steps) same, absent, ap (λ x. times x (stops p b rest.steps)) same)
            | inr other ↦ omega (arith, times_other w v (stops p b rest.steps) other, rest.once w)
          ];
        }
      ]

  simple : (a : ℕ) (steps : List Step) → NoneServed steps → Leads p a steps b → Simple p q a b (sum_by (λ s. q s.edge) steps)
  simple a [] unserved leads = record { steps = []; unserved = tt; leads = leads; cheap = omega arith; once = once_alone b }
  simple a (s ∷ steps) unserved leads =
      let rest = simple (head_of (edge_at p s.edge) s.forward) steps unserved.1 leads.2 in
      let whole = step_before s unserved.0 leads.0 (sum_by (λ x. q x.edge) steps) rest in
      record {
        steps = whole.steps;
        unserved = whole.unserved;
        leads = subst (λ v. Leads p v whole.steps b) leads.1 whole.leads;
        cheap = omega (arith, whole.cheap, sum_by-cons (λ x. q x.edge) s steps);
        once = whole.once;
      }

module _ (p : Problem) (valid : IsValid p) where
  tail_in : (e : ℕ) (forward : Bool) → IsEdgeNumber p e → IsVertex p (tail_of (edge_at p e) forward)
  tail_in e true number = (valid.edges e number).u_in
  tail_in e false number = (valid.edges e number).v_in

  head_in : (e : ℕ) (forward : Bool) → IsEdgeNumber p e → IsVertex p (head_of (edge_at p e) forward)
  head_in e true number = (valid.edges e number).v_in
  head_in e false number = (valid.edges e number).u_in

  stops_in : (a b : ℕ) (steps : List Step) → Leads p a steps b → IsVertex p a → All (λ v. (1 ≤ v) × (v ≤ p.vertices)) (stops p b steps)
  stops_in a b [] leads a_in =
      All-cons (λ v. (1 ≤ v) × (v ≤ p.vertices)) b [] (omega (arith, leads, a_in.from_one), omega (arith, leads, a_in.in_range)) (All-nil (λ v. (1 ≤ v) × (v ≤ p.vertices)))
  stops_in a b (s ∷ steps) leads a_in =
      let here = tail_in s.edge s.forward leads.0 in
      All-cons (λ v. (1 ≤ v) × (v ≤ p.vertices)) (tail_of (edge_at p s.edge) s.forward) (stops p b steps) (here.from_one, here.in_range)
      (stops_in (head_of (edge_at p s.edge) s.forward) b steps leads.2 (head_in s.edge s.forward leads.0))

  stops_long : (b : ℕ) (steps : List Step) → length (stops p b steps) ≡ length steps + 1
  stops_long b [] = refl
  stops_long b (s ∷ steps) = omega (arith, stops_long b steps)

  few_stops : (a b : ℕ) (steps : List Step) → Leads p a steps b → ((v : ℕ) → times v (stops p b steps) ≤ 1) → length steps < p.vertices
  few_stops a b [] leads once = omega (arith, valid.depot_in.from_one, valid.depot_in.in_range)
  few_stops a b (s ∷ steps) leads once =
      let all = stops_in (tail_of (edge_at p s.edge) s.forward) b (s ∷ steps) (leads.0, refl, leads.2) (tail_in s.edge s.forward leads.0) in
      omega (arith, at_most_once (λ v. v) p.vertices (stops p b (s ∷ steps)) all (λ v _ _. once v), stops_long b (s ∷ steps))

  -- the same steps, fewer than the vertices and no dearer
  pub shortened : (q : ℕ → ℕ) (a b n : ℕ) (steps : List Step) → Deadheads p q a b n steps → (m : ℕ) × (less : List Step) × Deadheads p q a b m less × (m ≤ n) × (length less < p.vertices)
  shortened q a b n steps there =
      let short = simple p q b a steps there.unserved there.leads in (
        sum_by (λ s. q s.edge) short.steps,
        short.steps,
        record { unserved = short.unserved; leads = short.leads; costs = refl },
        omega (arith, short.cheap, there.costs),
        few_stops a b short.steps short.leads short.once,
      )
