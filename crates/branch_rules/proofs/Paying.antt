-- What each relaxed tour pays by least deadheads, each lawful walk pays.
use Rattle.std.proofs.Common.{◌≡◌, ℕ, zero, suc, ◌+◌, Bool, true, false, cond, List, [], ◌∷◌, map, refl, sym, ap, ◌∙◌, arith, inl, inr, ℤ, pos, negsuc, ◌+ℤ◌, ◌≤ℤ◌, nat_abs, subst}
use Rattle.std.specs.Prelude.{if◌then◌else◌, IsTrue}
use Rattle.std.proofs.lemmas.List.{get_or-map}
use Rattle.std.proofs.lemmas.List.Sums.{sum_by-cons}
use Rattle.std.proofs.lemmas.Bool.{cases_Bool, or_parts}
use Rattle.std.proofs.lemmas.Int.{ints}
use Rattle.carp_base.specs.Problem.{Problem, IsValid, IsEdgeNumber, edge_at, head_of, no_edge}
use Rattle.carp_base.specs.declared.edge.Edge.{Edge}
use Rattle.carp_base.specs.declared.edge.Task.{Task}
use Rattle.plan_model.specs.Plans.{IsLawfulWalk, Leads}
use Rattle.plan_model.specs.declared.step.Step.{Step}
use Rattle.deadhead_paths.specs.Laws.{WalkIsTaskTour, LeastDeadheadIsThere, LeastDeadheadIsLeast}
use Rattle.deadhead_paths.specs.Prices.{price_of}
use Rattle.deadhead_paths.specs.Tidy.{served_steps, serves_some}
use Rattle.deadhead_paths.specs.Tours.{IsFollowed, IsTaskTour, task_of, tasks_of, dead_price}
use Rattle.decision_chains.specs.Neighbours.{served_edges}
use Rattle.branch_rules.specs.Bonds.{bond_weight}
use Rattle.branch_rules.specs.Prices.{signed_sum, Prices, PaysAtLeast, task_adds, deadhead_price, crossing_prices}
use Rattle.branch_rules.proofs.Services.{map-cond}
use Rattle.branch_rules.proofs.Weighing.{no_bonds}
use Rattle.branch_rules.proofs.Bound.{tour_price, Pays}

-- the edges of the tasks of a walk are those that it serves
edges_of : (steps : List Step) → map (λ t. t.edge) (map task_of steps) ≡ map (λ s. s.edge) steps
edges_of [] = refl
edges_of (s ∷ steps) = ap (λ es. s.edge ∷ es) (edges_of steps)

-- a walk that serves nothing has no tasks
no_tasks : (walk : List Step) → serves_some walk ≡ false → tasks_of walk ≡ []
no_tasks [] none = refl
no_tasks (s ∷ walk) none = let parts = or_parts s.served (serves_some walk) none in idle s.served parts.0 (no_tasks walk parts.1)
  where
    idle : (b : Bool) → b ≡ false → tasks_of walk ≡ [] → map task_of (cond b (s ∷ served_steps walk) (served_steps walk)) ≡ []
    idle true is rest = cc
    idle false is rest = rest

natural : (z : ℤ) → pos 0 ≤ℤ z → z ≡ pos (nat_abs z)
natural (pos n) least = refl
natural (negsuc n) least = absurd (omega (arith, ints, least))

module _ (p : Problem) (pool : List (List ℕ)) (set : Prices) (least : (e : ℕ) → IsEdgeNumber p e → pos 0 ≤ℤ deadhead_price pool set (edge_at p e)) where
  abbrev pub crossing_price : ℕ → ℕ
  crossing_price e = price_of (crossing_prices p pool set) e

  crossing_is : (e : ℕ) → IsEdgeNumber p e → deadhead_price pool set (edge_at p e) ≡ pos (crossing_price e)
  crossing_is zero number = absurd (omega (arith, number.from_one))
  crossing_is (suc k) number =
      natural (deadhead_price pool set (edge_at p (suc k))) (least (suc k) number)
      ∙ ap pos (sym (get_or-map (λ (x : Edge). nat_abs (deadhead_price pool set x)) p.edges k no_edge 0 (omega (arith, number.in_range))))

  one_price : (b : Bool) (s : Step) (tasks : List Task) (n : ℕ) (rest d : ℤ) → rest ≡ signed_sum (λ t. task_adds p set t.edge) tasks +ℤ pos n → d ≡ pos (crossing_price s.edge) →
      (if b then task_adds p set s.edge else d) +ℤ rest ≡ signed_sum (λ t. task_adds p set t.edge) (cond b (task_of s ∷ tasks) tasks) +ℤ pos ((if b then 0 else crossing_price s.edge) + n)
  one_price true s tasks n rest d is d_is = omega (arith, ints, is)
  one_price false s tasks n rest d is d_is = omega (arith, ints, is, d_is)

  -- the price of a walk is what its services add, and the prices of its other steps
  price_splits : (a b : ℕ) (walk : List Step) → Leads p a walk b →
      tour_price p pool set walk ≡ signed_sum (λ t. task_adds p set t.edge) (tasks_of walk) +ℤ pos (dead_price crossing_price walk)
  price_splits a b [] leads = refl
  price_splits a b (s ∷ walk) leads =
      one_price s.served s (tasks_of walk) (dead_price crossing_price walk) (tour_price p pool set walk) (deadhead_price pool set (edge_at p s.edge))
      (price_splits (head_of (edge_at p s.edge) s.forward) b walk leads.2) (crossing_is s.edge leads.0)
      ∙ ap (λ ts. signed_sum (λ (t : Task). task_adds p set t.edge) ts +ℤ pos ((if s.served then 0 else crossing_price s.edge) + dead_price crossing_price walk)) (sym (map-cond task_of s.served s (served_steps walk)))
      ∙ ap (λ n. signed_sum (λ (t : Task). task_adds p set t.edge) (tasks_of (s ∷ walk)) +ℤ pos n) (sym (sum_by-cons (λ x. if x.served then 0 else crossing_price x.edge) s walk))

  -- a walk by itself is a tour where the edges that follow each other in it are allowed
  allowed_tour : WalkIsTaskTour → (allowed : ℕ → ℕ → Type 0) (walk : List Step) → IsLawfulWalk p walk → IsTrue (serves_some walk) →
      ((a b : ℕ) → IsFollowed (served_edges walk) a b → allowed a b) → IsTaskTour p allowed (tasks_of walk)
  allowed_tour is_tour allowed walk lawful serves follow =
      let tour = is_tour p walk lawful serves in
      record {
        some = tour.some;
        required = tour.required;
        load = tour.load;
        each_allowed = λ a b follows. follow a b (subst (λ es. IsFollowed es a b) (edges_of (served_steps walk)) follows);
      }

  pub each_pays : IsValid p → WalkIsTaskTour → LeastDeadheadIsThere → LeastDeadheadIsLeast → (allowed : ℕ → ℕ → Type 0) →
      PaysAtLeast p allowed (task_adds p set) crossing_price set.groups → Pays p pool set allowed
  each_pays valid is_tour there below allowed pays walk lawful follow = elim (cases_Bool (serves_some walk)) [
    | inl serves ↦
        let tour = allowed_tour is_tour allowed walk lawful serves follow in
        let deadhead = there p valid crossing_price (tasks_of walk) tour.required in
        omega (
          arith,
          ints,
          price_splits p.depot p.depot walk lawful.leads,
          pays (tasks_of walk) deadhead.0 tour deadhead.1,
          ap (bond_weight set.groups) (edges_of (served_steps walk)),
          below p crossing_price p.depot p.depot walk deadhead.0 lawful.leads deadhead.1,
        )
    | inr none ↦
        omega (
          arith,
          ints,
          price_splits p.depot p.depot walk lawful.leads,
          ap (signed_sum (λ (t : Task). task_adds p set t.edge)) (no_tasks walk none),
          ap (bond_weight set.groups) (sym (edges_of (served_steps walk)) ∙ ap (map (λ (t : Task). t.edge)) (no_tasks walk none)) ∙ no_bonds set.groups,
        )
  ]
