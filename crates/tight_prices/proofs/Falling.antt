-- Where deadhead prices fall and prices of services rise, tours pay no better.
use Rattle.std.proofs.Common.{◌≡◌, ℕ, zero, suc, ◌*◌, ◌≤◌, List, [], ◌∷◌, length, map, refl, sym, ap, ◌∙◌, arith, ℤ, pos, negsuc, ◌≤ℤ◌, nat_abs}
use Rattle.std.proofs.lemmas.Int.{ints}
use Rattle.std.proofs.lemmas.List.{get_or-map}
use Rattle.std.proofs.lemmas.List.Sums.{sum_by-cons}
use Rattle.std.specs.List.{sum_by}
use Rattle.carp_base.specs.declared.edge.Edge.{Edge}
use Rattle.carp_base.specs.declared.edge.Task.{Task}
use Rattle.carp_base.specs.Problem.{Problem, IsValid, IsEdgeNumber, edge_at, head_of, tail_of, no_edge}
use Rattle.plan_model.specs.Plans.{Leads}
use Rattle.plan_model.specs.declared.step.Step.{Step}
use Rattle.deadhead_paths.specs.Laws.{LeastDeadheadIsThere}
use Rattle.deadhead_paths.specs.Prices.{Deadheads, IsLeastPrice, price_of}
use Rattle.deadhead_paths.specs.Tours.{LeastDeadhead}
use Rattle.branch_rules.specs.Bonds.{bond_weight}
use Rattle.branch_rules.specs.Prices.{Prices, crossing_prices, deadhead_price, price_in, signed_sum, task_adds}
use Rattle.branch_rules.specs.Refusals.{NoneTooHeavy}
use Rattle.decision_chains.specs.declared.decision.Decision.{Decision}
use Rattle.tight_prices.specs.Probes.{IsPaying}

natural : (z : ℤ) → pos 0 ≤ℤ z → z ≡ pos (nat_abs z)
natural (pos n) least = refl
natural (negsuc n) least = absurd (omega (arith, ints, least))

-- the price of crossing an edge, where it is not negative
pub crossing_is : (p : Problem) (pool : List (List ℕ)) (set : Prices) (e : ℕ) → IsEdgeNumber p e → pos 0 ≤ℤ deadhead_price pool set (edge_at p e) →
    deadhead_price pool set (edge_at p e) ≡ pos (price_of (crossing_prices p pool set) e)
crossing_is p pool set zero number least = absurd (omega (arith, number.from_one))
crossing_is p pool set (suc k) number least =
    natural (deadhead_price pool set (edge_at p (suc k))) least
    ∙ ap pos (sym (get_or-map (λ (x : Edge). nat_abs (deadhead_price pool set x)) p.edges k no_edge 0 (omega (arith, number.in_range))))

-- Least deadheads.

module _ (p : Problem) (q r : ℕ → ℕ) (falls : (e : ℕ) → IsEdgeNumber p e → r e ≤ q e) where
  sum_falls : (a : ℕ) (steps : List Step) (b : ℕ) → Leads p a steps b → sum_by (λ s. r s.edge) steps ≤ sum_by (λ s. q s.edge) steps
  sum_falls a [] b leads = omega arith
  sum_falls a (s ∷ steps) b leads =
      omega (
        arith,
        sum_by-cons (λ (t : Step). r t.edge) s steps,
        sum_by-cons (λ (t : Step). q t.edge) s steps,
        falls s.edge leads.0,
        sum_falls (head_of (edge_at p s.edge) s.forward) steps b leads.2,
      )

  price_falls : (a b m n : ℕ) → IsLeastPrice p r a b m → IsLeastPrice p q a b n → m ≤ n
  price_falls a b m n less more =
      let steps = more.steps in
      let other : Deadheads p r a b (sum_by (λ s. r s.edge) steps) steps = record { unserved = more.reached.unserved; leads = more.reached.leads; costs = refl } in
      omega (arith, less.least (sum_by (λ s. r s.edge) steps) steps other, sum_falls a steps b more.reached.leads, more.reached.costs)

  pub deadhead_falls : (a : ℕ) (tasks : List Task) (b m n : ℕ) → LeastDeadhead p r a tasks b m → LeastDeadhead p q a tasks b n → m ≤ n
  deadhead_falls a [] b m n less more = price_falls a b m n less more
  deadhead_falls a (t ∷ tasks) b m n less more =
      let first = price_falls a (tail_of (edge_at p t.edge) t.forward) less.0 more.0 less.2 more.2 in
      let rest = deadhead_falls (head_of (edge_at p t.edge) t.forward) tasks b less.1 more.1 less.3 more.3 in
      omega (arith, first, rest, less.4, more.4)

-- no number of the first set is above that of the second, in what tours are priced by
pub record IsBelow (pool : List (List ℕ)) (set other : Prices) : Type 0 where
  pub unit : set.unit ≡ other.unit
  pub services : length set.services ≡ length other.services
  pub prices : (e : ℕ) → price_in set e ≤ℤ price_in other e
  pub deadheads : (x : Edge) → deadhead_price pool other x ≤ℤ deadhead_price pool set x
  pub groups : set.groups ≡ other.groups

module _ (there : LeastDeadheadIsThere) (p : Problem) (valid : IsValid p) (pool : List (List ℕ)) (set other : Prices) (below : IsBelow pool set other) where
  light_falls : NoneTooHeavy p pool other → NoneTooHeavy p pool set
  light_falls light e number = omega (arith, ints, light e number, below.deadheads (edge_at p e))

  crossing_falls : NoneTooHeavy p pool other → (e : ℕ) → IsEdgeNumber p e → price_of (crossing_prices p pool other) e ≤ price_of (crossing_prices p pool set) e
  crossing_falls light e number =
      omega (
        arith,
        ints,
        crossing_is p pool other e number (light e number),
        crossing_is p pool set e number (light_falls light e number),
        below.deadheads (edge_at p e),
      )

  one_more : (e : ℕ) → task_adds p other e ≤ℤ task_adds p set e
  one_more e = omega (arith, ints, below.prices e, ap (λ n. n * (edge_at p e).service) below.unit)

  services_more : (tasks : List Task) → signed_sum (λ t. task_adds p other t.edge) tasks ≤ℤ signed_sum (λ t. task_adds p set t.edge) tasks
  services_more [] = omega (arith, ints)
  services_more (t ∷ tasks) = omega (arith, ints, one_more t.edge, services_more tasks)

  pub paying_falls : (branch : List Decision) → IsPaying p pool branch other → IsPaying p pool branch set
  paying_falls branch pays = record {
    light = light_falls pays.light;
    tours = λ tasks n tour joined.
        let deadhead = there p valid (price_of (crossing_prices p pool other)) tasks tour.required in
        omega (
          arith,
          ints,
          pays.tours tasks deadhead.0 tour deadhead.1,
          services_more tasks,
          ap (λ groups. bond_weight groups (map (λ (t : Task). t.edge) tasks)) below.groups,
          deadhead_falls p (price_of (crossing_prices p pool set)) (price_of (crossing_prices p pool other)) (crossing_falls pays.light) p.depot tasks p.depot deadhead.0 n deadhead.1 joined,
        );
  }
