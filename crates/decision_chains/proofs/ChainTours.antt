-- What a tour along a chain costs, and that no other walk that serves the chain costs less.
use Rattle.std.proofs.Common.{◌≡◌, ℕ, zero, suc, ◌+◌, ◌*◌, ◌≤◌, Bool, true, false, not, cond, List, [], ◌∷◌, ◌++◌, length, map, refl, sym, ◌∙◌, ap, subst, arith, length-append, inl, inr, ◌⊎◌}
use Rattle.std.specs.Prelude.{if◌then◌else◌, filter}
use Rattle.std.specs.List.{AllByRecursion, sum_by}
use Rattle.std.proofs.lemmas.List.{get_or-map}
use Rattle.std.proofs.lemmas.List.Sums.{sum_by-cons}
use Rattle.carp_base.specs.declared.edge.Task.{Task}
use Rattle.carp_base.specs.Problem.{Problem, IsValid, IsRequired, IsEdgeNumber, edge_at, head_of, tail_of, no_edge}
use Rattle.plan_model.specs.Plans.{Leads, IsWalk, walk_cost, step_cost}
use Rattle.plan_model.specs.declared.step.Step.{Step}
use Rattle.deadhead_paths.specs.Prices.{IsLeastPrice, price_of, costs_of}
use Rattle.deadhead_paths.specs.Tidy.{GoByLeastPaths, served_steps}
use Rattle.deadhead_paths.specs.Tours.{LeastDeadhead, task_of, tasks_of, dead_price}
use Rattle.deadhead_paths.specs.Laws.{LeastPriceIsSymmetric, LeastDeadheadIsThere, LeastDeadheadIsLeast, LeastPathsCost}
use Rattle.task_tours.specs.Tours.{JoinsTasks}
use Rattle.decision_chains.specs.Directions.{Directs, IsCheapestDirected}
use Rattle.decision_chains.specs.Neighbours.{served_edges, times}
use Rattle.decision_chains.proofs.PlanTimes.{map-cond, times-cons, times-same}
use Rattle.decision_chains.proofs.Uniqueness.{turned_on, times-turned}

-- a walk serves what its tasks serve
edges_of_tasks : (steps : List Step) → map (λ t. t.edge) (map task_of steps) ≡ map (λ s. s.edge) steps
edges_of_tasks [] = refl
edges_of_tasks (s ∷ steps) = ap (λ es. s.edge ∷ es) (edges_of_tasks steps)

pub tasks_serve : (walk : List Step) → map (λ t. t.edge) (tasks_of walk) ≡ served_edges walk
tasks_serve walk = edges_of_tasks (served_steps walk)

served_all : (walk : List Step) → AllByRecursion (λ s. s.served ≡ true) (served_steps walk)
served_all [] = tt
served_all (s ∷ walk) = one s.served refl (served_all walk)
  where
    one : (b : Bool) → s.served ≡ b → AllByRecursion (λ x. x.served ≡ true) (served_steps walk) → AllByRecursion (λ x. x.served ≡ true) (cond b (s ∷ served_steps walk) (served_steps walk))
    one true is rest = (is, rest)
    one false is rest = rest

sum_edges : (f : ℕ → ℕ) (steps : List Step) → sum_by (λ s. f s.edge) steps ≡ sum_by f (map (λ s. s.edge) steps)
sum_edges f [] = refl
sum_edges f (s ∷ steps) = omega (arith, sum_by-cons (λ x. f x.edge) s steps, sum_by-cons f s.edge (map (λ x. x.edge) steps), sum_edges f steps)

pub sum_turned : (f : ℕ → ℕ) (xs acc : List ℕ) → sum_by f (turned_on xs acc) ≡ sum_by f xs + sum_by f acc
sum_turned f [] acc = omega arith
sum_turned f (x ∷ xs) acc = omega (arith, sum_turned f xs (x ∷ acc), sum_by-cons f x xs, sum_by-cons f x acc)

-- the other direction
abbrev pub turned_task : Task → Task
turned_task t = record { edge = t.edge; forward = not t.forward }

abbrev pub turned_tasks : List Task → List Task → List Task
turned_tasks [] acc = acc
turned_tasks (t ∷ ts) acc = turned_tasks ts (turned_task t ∷ acc)

pub turned_edges : (ts acc : List Task) → map (λ t. t.edge) (turned_tasks ts acc) ≡ turned_on (map (λ t. t.edge) ts) (map (λ t. t.edge) acc)
turned_edges [] acc = refl
turned_edges (t ∷ ts) acc = turned_edges ts (turned_task t ∷ acc)

turned_back : (xs acc rest : List ℕ) → turned_on (turned_on xs acc) rest ≡ turned_on acc (xs ++ rest)
turned_back [] acc rest = refl
turned_back (x ∷ xs) acc rest = turned_back xs (x ∷ acc) rest

append_none : (xs : List ℕ) → xs ++ [] ≡ xs
append_none [] = refl
append_none (x ∷ xs) = ap (λ ys. x ∷ ys) (append_none xs)

pub turned_twice : (xs : List ℕ) → turned_on (turned_on xs []) [] ≡ xs
turned_twice xs = turned_back xs [] [] ∙ append_none xs

module _ (p : Problem) (q : ℕ → ℕ) (symmetric : LeastPriceIsSymmetric) where
  tail_turned : (e : ℕ) (b : Bool) → tail_of (edge_at p e) (not b) ≡ head_of (edge_at p e) b
  tail_turned e true = refl
  tail_turned e false = refl

  head_turned : (e : ℕ) (b : Bool) → head_of (edge_at p e) (not b) ≡ tail_of (edge_at p e) b
  head_turned e true = refl
  head_turned e false = refl

  turn_deadhead : (a b x m : ℕ) (ts acc : List Task) (n : ℕ) → LeastDeadhead p q x ts b n → ((c k : ℕ) → IsLeastPrice p q c x k → LeastDeadhead p q c acc a (k + m)) → LeastDeadhead p q b (turned_tasks ts acc) a (n + m)
  turn_deadhead a b x m [] acc n dead back = back b n (symmetric p q x b n dead)
  turn_deadhead a b x m (t ∷ ts) acc n dead back =
      let rest = turn_deadhead a b (head_of (edge_at p t.edge) t.forward) (dead.0 + m) ts (turned_task t ∷ acc) dead.1 dead.3 (λ c k price. (
        k,
        dead.0 + m,
        subst (λ v. IsLeastPrice p q c v k) (sym (tail_turned t.edge t.forward)) price,
        subst (λ v. LeastDeadhead p q v acc a (dead.0 + m)) (sym (head_turned t.edge t.forward)) (back (tail_of (edge_at p t.edge) t.forward) dead.0 (symmetric p q x (tail_of (edge_at p t.edge) t.forward) dead.0 dead.2)),
        refl,
      )) in
      let sums : dead.1 + (dead.0 + m) ≡ n + m = omega (arith, dead.4) in
      subst (LeastDeadhead p q b (turned_tasks ts (turned_task t ∷ acc)) a) sums rest

  pub turned_deadhead : (a : ℕ) (ts : List Task) (n : ℕ) → LeastDeadhead p q a ts a n → LeastDeadhead p q a (turned_tasks ts []) a n
  turned_deadhead a ts n dead =
      subst (LeastDeadhead p q a (turned_tasks ts []) a) (let none : n + 0 ≡ n = omega arith in none)
      (turn_deadhead a a a 0 ts [] n dead (λ c k price. subst (IsLeastPrice p q c a) (let none : k ≡ k + 0 = omega arith in none) price))

-- steps that lead on
module _ (p : Problem) where
  leads_on : (a b c : ℕ) (xs ys : List Step) → Leads p a xs b → Leads p b ys c → Leads p a (xs ++ ys) c
  leads_on a b c [] ys one two = rw one two
  leads_on a b c (s ∷ xs) ys one two = (one.0, one.1, leads_on (head_of (edge_at p s.edge) s.forward) b c xs ys one.2 two)

  pub paths_lead : (services : List Step) (a b : ℕ) (steps : List Step) → AllByRecursion (λ s. IsEdgeNumber p s.edge) services → GoByLeastPaths p services a b steps → Leads p a steps b
  paths_lead [] a b steps numbers goes = goes.deadheads.leads
  paths_lead (s ∷ services) a b steps numbers goes =
      rw goes.3 (leads_on a (tail_of (edge_at p s.edge) s.forward) b goes.0 (s ∷ goes.1) goes.2.deadheads.leads
      (numbers.0, refl, paths_lead services (head_of (edge_at p s.edge) s.forward) b goes.1 numbers.1 goes.4))

  pub paths_short : (services : List Step) (a b : ℕ) (steps : List Step) → p.vertices ≤ 1000 → GoByLeastPaths p services a b steps → length steps ≤ 1000 * (length services + 1)
  paths_short [] a b steps few goes = omega (arith, goes.short, few)
  paths_short (s ∷ services) a b steps few goes =
      omega (
        arith,
        ap length goes.3,
        length-append goes.0 (s ∷ goes.1),
        goes.2.short,
        few,
        paths_short services (head_of (edge_at p s.edge) s.forward) b goes.1 few goes.4,
      )

  price_is : (e : ℕ) → IsEdgeNumber p e → price_of (costs_of p) e ≡ (edge_at p e).cost
  price_is zero number = absurd (omega (arith, number.from_one))
  price_is (suc k) number = get_or-map (λ x. x.cost) p.edges k no_edge 0 (omega (arith, number.in_range))

  split_step : (f : ℕ → ℕ) (b : Bool) (e cost n m : ℕ) (es : List ℕ) → n ≡ sum_by f es + m → (if b then f e else cost) + n ≡ sum_by f (cond b (e ∷ es) es) + ((if b then 0 else cost) + m)
  split_step f true e cost n m es same = omega (arith, same, sum_by-cons f e es)
  split_step f false e cost n m es same = omega (arith, same)

  -- a walk costs its services and its other steps
  pub cost_split : (a b : ℕ) (walk : List Step) → Leads p a walk b →
      walk_cost p walk ≡ sum_by (λ e. (edge_at p e).service) (served_edges walk) + dead_price (price_of (costs_of p)) walk
  cost_split a b [] leads = refl
  cost_split a b (s ∷ walk) leads =
      let rest = cost_split (head_of (edge_at p s.edge) s.forward) b walk leads.2 in
      let split = split_step (λ e. (edge_at p e).service) s.served s.edge (edge_at p s.edge).cost _ _ (served_edges walk) rest in
      let dead = sum_by-cons (λ x. if x.served then 0 else price_of (costs_of p) x.edge) s walk in
      let price = ap (λ c. if s.served then 0 else c) (price_is s.edge leads.0) in
      let served = ap (sum_by (λ e. (edge_at p e).service)) (map-cond (λ x. x.edge) s.served s (filter (λ x. x.served) walk)) in
      omega (arith, sum_by-cons (step_cost p) s walk, split, dead, price, served)

  -- all edges of a list are required where each of them is
  pub all_of : (P : ℕ → Type 0) (ts : List Task) → ((e : ℕ) → 1 ≤ times e (map (λ t. t.edge) ts) → P e) → AllByRecursion (λ t. P t.edge) ts
  all_of P [] each = tt
  all_of P (t ∷ ts) each = (
    each t.edge (omega (arith, times-same t.edge (map (λ u. u.edge) ts))),
    all_of P ts (λ e some. each e (omega (arith, some, times-cons e t.edge (map (λ u. u.edge) ts)))),
  )

  pub all_served : (P : ℕ → Type 0) (ss : List Step) → ((e : ℕ) → 1 ≤ times e (map (λ s. s.edge) ss) → P e) → AllByRecursion (λ s. P s.edge) ss
  all_served P [] each = tt
  all_served P (s ∷ ss) each = (
    each s.edge (omega (arith, times-same s.edge (map (λ u. u.edge) ss))),
    all_served P ss (λ e some. each e (omega (arith, some, times-cons e s.edge (map (λ u. u.edge) ss)))),
  )

  module _ (valid : IsValid p) (symmetric : LeastPriceIsSymmetric) (there : LeastDeadheadIsThere) (least : LeastDeadheadIsLeast) (paths_cost : LeastPathsCost)
      (edges : List ℕ) (tasks : List Task) (walk : List Step) (cheapest : IsCheapestDirected p edges tasks) (joins : JoinsTasks p tasks walk) (required : (e : ℕ) → 1 ≤ times e edges → IsRequired p e) where
    abbrev pub services : List ℕ → ℕ
    services es = sum_by (λ e. (edge_at p e).service) es

    pub walk_serves : served_edges walk ≡ edges
    walk_serves = sym (tasks_serve walk) ∙ ap (map (λ t. t.edge)) joins.tasks ∙ cheapest.directs

    number_of : (e : ℕ) → IsRequired p e → IsEdgeNumber p e
    number_of e is = record { from_one = is.from_one; in_range = omega (arith, is.in_range, valid.required_in) }

    pub tour_leads : IsWalk p walk
    tour_leads = paths_lead (served_steps walk) p.depot p.depot walk
        (all_served (IsEdgeNumber p) (served_steps walk) (λ e some. number_of e (required e (omega (arith, some, ap (times e) walk_serves))))) joins.paths

    deadhead_there : (ts : List Task) → ((e : ℕ) → 1 ≤ times e (map (λ t. t.edge) ts) → IsRequired p e) → (n : ℕ) × LeastDeadhead p (price_of (costs_of p)) p.depot ts p.depot n
    deadhead_there ts each = there p valid (price_of (costs_of p)) ts (all_of (IsRequired p) ts each)

    tour_cost : (n : ℕ) → LeastDeadhead p (price_of (costs_of p)) p.depot tasks p.depot n → walk_cost p walk ≡ services edges + n
    tour_cost n dead =
        let law = paths_cost p p.depot p.depot (served_steps walk) walk n joins.paths (served_all walk) (subst (λ ts. LeastDeadhead p (price_of (costs_of p)) p.depot ts p.depot n) (sym joins.tasks) dead) in
        omega (arith, law, sum_edges (λ e. (edge_at p e).service) (served_steps walk), ap services walk_serves)

    -- a walk that serves the edges in their order or backward does not cost less
    pub tour_least : (other : List Step) → IsWalk p other → (served_edges other ≡ edges) ⊎ (served_edges other ≡ turned_on edges []) → walk_cost p walk ≤ walk_cost p other
    tour_least other leads order =
        let own = deadhead_there tasks (λ e some. required e (omega (arith, some, ap (times e) cheapest.directs))) in
        let cost = tour_cost own.0 own.1 in
        let split = cost_split p.depot p.depot other leads in
        elim order [
          | inl same ↦
              let directs : Directs edges (tasks_of other) = tasks_serve other ∙ same in
              let dead = deadhead_there (tasks_of other) (λ e some. required e (omega (arith, some, ap (times e) directs))) in
              omega (
                arith,
                cost,
                split,
                cheapest.least (tasks_of other) own.0 dead.0 directs own.1 dead.1,
                least p (price_of (costs_of p)) p.depot p.depot other dead.0 leads dead.1,
                ap services same,
              )
          | inr turned ↦
              let serves : map (λ t. t.edge) (tasks_of other) ≡ turned_on edges [] = tasks_serve other ∙ turned in
              let dead = deadhead_there (tasks_of other) (λ e some. required e (omega (arith, some, ap (times e) serves, times-turned e edges []))) in
              let directs : Directs edges (turned_tasks (tasks_of other) []) = turned_edges (tasks_of other) [] ∙ ap (λ es. turned_on es []) serves ∙ turned_twice edges in
              omega (
                arith,
                cost,
                split,
                cheapest.least (turned_tasks (tasks_of other) []) own.0 dead.0 directs own.1 (turned_deadhead p (price_of (costs_of p)) symmetric p.depot (tasks_of other) dead.0 dead.1),
                least p (price_of (costs_of p)) p.depot p.depot other dead.0 leads dead.1,
                ap services turned,
                sum_turned (λ e. (edge_at p e).service) edges [],
              )
        ]
