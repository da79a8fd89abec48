-- Walks as relaxed tours, and least deadheads.
use Rattle.std.proofs.Common.{◌≡◌, ℕ, ◌+◌, ◌≤◌, Bool, true, false, cond, List, [], ◌∷◌, ◌++◌, length, map, refl, ap, arith, inl, inr}
use Rattle.std.specs.Prelude.{if◌then◌else◌, IsTrue}
use Rattle.std.specs.List.{AllByRecursion, sum_by}
use Rattle.std.proofs.lemmas.List.{length-map}
use Rattle.std.proofs.lemmas.List.Sums.{sum_by-cons, sum_by-append}
use Rattle.carp_base.specs.Problem.{Problem, IsValid, IsRequired, IsEdgeNumber, edge_at, tail_of, head_of}
use Rattle.carp_base.specs.declared.edge.Task.{Task}
use Rattle.plan_model.specs.Plans.{Leads, IsLawfulWalk, step_cost, walk_cost}
use Rattle.plan_model.specs.declared.step.Step.{Step}
use Rattle.deadhead_paths.specs.Prices.{Deadheads, IsLeastPrice, price_of, costs_of}
use Rattle.deadhead_paths.specs.Tidy.{GoByLeastPaths, served_steps, serves_some}
use Rattle.deadhead_paths.specs.Tours.{IsFollowed, IsTaskTour, LeastDeadhead, task_of, tasks_of, dead_price}
use Rattle.deadhead_paths.proofs.Finding.{least_or_none}
use Rattle.deadhead_paths.proofs.Joining.{unserved_cost}
use Rattle.deadhead_paths.proofs.Plans.{load_served, required_served, some_served}
use Rattle.deadhead_paths.proofs.Ways.{HasWay, back_way, joined_way, joined_deadheads, turned_deadheads, way_to_tail, way_to_head}

pub symmetric : (p : Problem) (q : ℕ → ℕ) (a b n : ℕ) → IsLeastPrice p q a b n → IsLeastPrice p q b a n
symmetric p q a b n least =
    let back = turned_deadheads p q a b n least.steps least.reached in
    record { steps = _; reached = back; least = λ m other there. least.least m _ (turned_deadheads p q b a m other there) }

pub triangle : (p : Problem) (q : ℕ → ℕ) (a b c k m n : ℕ) → IsLeastPrice p q a b k → IsLeastPrice p q b c m → IsLeastPrice p q a c n → n ≤ k + m
triangle p q a b c k m n first second whole =
    let both = joined_deadheads p q a b c k m first.steps second.steps first.reached second.reached in
    omega (arith, both.2, whole.least both.0 (first.steps ++ second.steps) both.1)

pub staying : (p : Problem) (q : ℕ → ℕ) (a : ℕ) → IsLeastPrice p q a a 0
staying p q a = record { steps = []; reached = record { unserved = tt; leads = refl; costs = refl }; least = λ n other there. omega arith }

-- tasks on required edges
module _ (p : Problem) (valid : IsValid p) (q : ℕ → ℕ) where
  least_by_way : (a b : ℕ) → HasWay p a b → (n : ℕ) × IsLeastPrice p q a b n
  least_by_way a b way = elim (least_or_none p valid q a b) [
    | inl none ↦ absurd (none way.steps way.leads)
    | inr one ↦ one
  ]

  pub deadhead_there : (a : ℕ) → HasWay p p.depot a → (tasks : List Task) → AllByRecursion (λ t. IsRequired p t.edge) tasks → (n : ℕ) × LeastDeadhead p q a tasks p.depot n
  deadhead_there a way [] all = least_by_way a p.depot (back_way p p.depot a way)
  deadhead_there a way (t ∷ tasks) all =
      let tail = tail_of (edge_at p t.edge) t.forward in
      let first = least_by_way a tail (joined_way p a p.depot tail (back_way p p.depot a way) (way_to_tail p valid t.edge all.0 t.forward)) in
      let rest = deadhead_there (head_of (edge_at p t.edge) t.forward) (way_to_head p valid t.edge all.0 t.forward) tasks all.1 in
      (first.0 + rest.0, (first.0, rest.0, first.1, rest.1, refl))

-- the steps from a through the tasks to b have this price, whether or not it is the least
abbrev SomeDeadhead : Problem → (ℕ → ℕ) → ℕ → List Task → ℕ → ℕ → Type 0
SomeDeadhead p q a [] b n = (steps : List Step) × Deadheads p q a b n steps
SomeDeadhead p q a (t ∷ ts) b n =
    (k m : ℕ) × (steps : List Step) × Deadheads p q a (tail_of (edge_at p t.edge) t.forward) k steps
    × SomeDeadhead p q (head_of (edge_at p t.edge) t.forward) ts b m × (n ≡ k + m)

least_below : (p : Problem) (q : ℕ → ℕ) (a : ℕ) (tasks : List Task) (b m n : ℕ) → LeastDeadhead p q a tasks b m → SomeDeadhead p q a tasks b n → m ≤ n
least_below p q a [] b m n least some = least.least n some.0 some.1
least_below p q a (t ∷ tasks) b m n least some =
    omega (arith, least.2.least some.0 some.2 some.3, least_below p q (head_of (edge_at p t.edge) t.forward) tasks b least.1 some.1 least.3 some.4, least.4, some.5)

dead_cons : (p : Problem) (q : ℕ → ℕ) (b : ℕ) (s : Step) (n : ℕ) (ts : List Task) → s.served ≡ false → IsEdgeNumber p s.edge →
    SomeDeadhead p q (head_of (edge_at p s.edge) s.forward) ts b n → SomeDeadhead p q (tail_of (edge_at p s.edge) s.forward) ts b (q s.edge + n)
dead_cons p q b s n [] free in_range joined = (
  s ∷ joined.0,
  record {
    unserved = (free, joined.1.unserved);
    leads = (in_range, refl, joined.1.leads);
    costs = omega (arith, joined.1.costs, sum_by-cons (λ x. q x.edge) s joined.0);
  },
)
dead_cons p q b s n (t ∷ ts) free in_range joined = (
  q s.edge + joined.0,
  joined.1,
  s ∷ joined.2,
  record {
    unserved = (free, joined.3.unserved);
    leads = (in_range, refl, joined.3.leads);
    costs = omega (arith, joined.3.costs, sum_by-cons (λ x. q x.edge) s joined.2);
  },
  joined.4,
  omega (arith, joined.5),
)

walk_joins : (p : Problem) (q : ℕ → ℕ) (a b : ℕ) (walk : List Step) → Leads p a walk b → SomeDeadhead p q a (tasks_of walk) b (dead_price q walk)
walk_joins p q a b [] leads = ([], record { unserved = tt; leads = leads; costs = refl })
walk_joins p q a b (s ∷ walk) leads =
    rw (← leads.1, sum_by-cons (λ x. if x.served then 0 else q x.edge) s walk) (one s.served refl (walk_joins p q (head_of (edge_at p s.edge) s.forward) b walk leads.2))
  where
    one : (served : Bool) → s.served ≡ served →
        SomeDeadhead p q (head_of (edge_at p s.edge) s.forward) (tasks_of walk) b (dead_price q walk) →
        SomeDeadhead p q (tail_of (edge_at p s.edge) s.forward) (map task_of (cond served (s ∷ served_steps walk) (served_steps walk))) b
        ((if served then 0 else q s.edge) + dead_price q walk)
    one true is rest = (0, dead_price q walk, [], record { unserved = tt; leads = refl; costs = refl }, rest, refl)
    one false is rest = dead_cons p q b s (dead_price q walk) (tasks_of walk) is leads.0 rest

pub walk_above : (p : Problem) (q : ℕ → ℕ) (a b : ℕ) (walk : List Step) (n : ℕ) → Leads p a walk b → LeastDeadhead p q a (tasks_of walk) b n → n ≤ dead_price q walk
walk_above p q a b walk n leads least = least_below p q a (tasks_of walk) b n (dead_price q walk) least (walk_joins p q a b walk leads)

-- what holds of the services holds of them as tasks
tasks_required : (p : Problem) (steps : List Step) → AllByRecursion (λ s. IsRequired p s.edge) steps → AllByRecursion (λ t. IsRequired p t.edge) (map task_of steps)
tasks_required p [] all = tt
tasks_required p (s ∷ steps) all = (all.0, tasks_required p steps all.1)

tasks_load : (p : Problem) (steps : List Step) → sum_by (λ t. (edge_at p t.edge).demand) (map task_of steps) ≡ sum_by (λ s. (edge_at p s.edge).demand) steps
tasks_load p [] = refl
tasks_load p (s ∷ steps) =
    omega (
      arith,
      sum_by-cons (λ t. (edge_at p t.edge).demand) (task_of s) (map task_of steps),
      sum_by-cons (λ x. (edge_at p x.edge).demand) s steps,
      tasks_load p steps,
    )

pub walk_tour : (p : Problem) (walk : List Step) → IsLawfulWalk p walk → IsTrue (serves_some walk) → IsTaskTour p (IsFollowed (map (λ t. t.edge) (tasks_of walk))) (tasks_of walk)
walk_tour p walk lawful serves = record {
  some = λ none. omega (arith, some_served walk serves, length-map (served_steps walk) task_of, ap length none);
  required = tasks_required p (served_steps walk) (required_served p walk lawful.serves_required);
  load = omega (arith, lawful.load, load_served p walk, tasks_load p (served_steps walk));
  each_allowed = λ a b follows. follows;
}

-- a walk by least paths
same_least : (p : Problem) (q : ℕ → ℕ) (a b m n : ℕ) → IsLeastPrice p q a b m → IsLeastPrice p q a b n → m ≡ n
same_least p q a b m n first second = omega (arith, first.least n second.steps second.reached, second.least m first.steps first.reached)

pub least_cost_of : (p : Problem) (a b : ℕ) (services walk : List Step) (n : ℕ) → GoByLeastPaths p services a b walk → AllByRecursion (λ s. s.served ≡ true) services →
    LeastDeadhead p (price_of (costs_of p)) a (map task_of services) b n → walk_cost p walk ≡ sum_by (λ s. (edge_at p s.edge).service) services + n
least_cost_of p a b [] walk n goes all least =
    omega (
      arith,
      unserved_cost p a walk b goes.deadheads.leads goes.deadheads.unserved,
      goes.deadheads.costs,
      same_least p (price_of (costs_of p)) a b goes.price n goes.least least,
    )
least_cost_of p a b (s ∷ services) walk n goes all least =
    let out = goes.0 in
    let rest = goes.1 in
    let path = goes.2 in
    let tail = tail_of (edge_at p s.edge) s.forward in
    omega (
      arith,
      ap (walk_cost p) goes.3,
      sum_by-append (step_cost p) out (s ∷ rest),
      sum_by-cons (step_cost p) s rest,
      ap (λ t. if t then (edge_at p s.edge).service else (edge_at p s.edge).cost) all.0,
      unserved_cost p a out tail path.deadheads.leads path.deadheads.unserved,
      path.deadheads.costs,
      same_least p (price_of (costs_of p)) a tail path.price least.0 path.least least.2,
      least_cost_of p (head_of (edge_at p s.edge) s.forward) b services rest least.1 goes.4 all.1 least.3,
      least.4,
      sum_by-cons (λ x. (edge_at p x.edge).service) s services,
    )
