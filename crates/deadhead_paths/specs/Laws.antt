-- Laws over least prices, and over relaxed tours. Prices are any function from edge numbers, and no two vertices need be joined.
use Rattle.std.specs.Prelude.{◌≡◌, ℕ, ◌+◌, ◌<◌, ◌≤◌, ◌⊎◌, true, List, length, map, sum_by, IsTrue}
use Rattle.std.specs.List.{AllByRecursion}
use Rattle.carp_base.specs.declared.edge.Task.{Task}
use Rattle.carp_base.specs.Problem.{Problem, IsValid, IsRequired, edge_at}
use Rattle.plan_model.specs.declared.step.Step.{Step}
use Rattle.plan_model.specs.Plans.{Leads, IsLawfulWalk, walk_cost}
use Rattle.deadhead_paths.specs.Prices.{Deadheads, IsLeastPrice, NoneLead, price_of, costs_of}
use Rattle.deadhead_paths.specs.Tidy.{GoByLeastPaths, serves_some}
use Rattle.deadhead_paths.specs.Tours.{IsFollowed, IsTaskTour, LeastDeadhead, task_of, tasks_of, dead_price}

-- the least price from a to b is that from b to a
abbrev pub LeastPriceIsSymmetric : Type 0
LeastPriceIsSymmetric = (p : Problem) (q : ℕ → ℕ) (a b n : ℕ) → IsLeastPrice p q a b n → IsLeastPrice p q b a n

-- over another vertex it is not less
abbrev pub TriangleInequality : Type 0
TriangleInequality = (p : Problem) (q : ℕ → ℕ) (a b c k m n : ℕ) → IsLeastPrice p q a b k → IsLeastPrice p q b c m → IsLeastPrice p q a c n → n ≤ k + m

-- to stay costs nothing
abbrev pub LeastPriceOfStaying : Type 0
LeastPriceOfStaying = (p : Problem) (q : ℕ → ℕ) (a : ℕ) → IsLeastPrice p q a a 0

-- of a valid instance: no steps lead from a to b, or there is a least price
abbrev pub LeastPriceOrNone : Type 0
LeastPriceOrNone = (p : Problem) → IsValid p → (q : ℕ → ℕ) (a b : ℕ) → NoneLead p a b ⊎ ((n : ℕ) × IsLeastPrice p q a b n)

-- of a valid instance: fewer steps than there are vertices have the least price
abbrev pub FewStepsAreLeast : Type 0
FewStepsAreLeast =
    (p : Problem) → IsValid p → (q : ℕ → ℕ) (a b n : ℕ) → IsLeastPrice p q a b n → (steps : List Step) × Deadheads p q a b n steps × (length steps < p.vertices)

-- of a valid instance: tasks on required edges have a least deadhead, from the depot and back
abbrev pub LeastDeadheadIsThere : Type 0
LeastDeadheadIsThere =
    (p : Problem) → IsValid p → (q : ℕ → ℕ) (tasks : List Task) → AllByRecursion (λ t. IsRequired p t.edge) tasks → (n : ℕ) × LeastDeadhead p q p.depot tasks p.depot n

-- the services of a lawful walk that serves are a relaxed tour wherever those that follow each other are allowed: already where
-- no others are
abbrev pub WalkIsTaskTour : Type 0
WalkIsTaskTour =
    (p : Problem) (walk : List Step) → IsLawfulWalk p walk → IsTrue (serves_some walk) → IsTaskTour p (IsFollowed (map (λ t. t.edge) (tasks_of walk))) (tasks_of walk)

-- the least deadhead of a walk's services is at most what its other steps cost
abbrev pub LeastDeadheadIsLeast : Type 0
LeastDeadheadIsLeast =
    (p : Problem) (q : ℕ → ℕ) (a b : ℕ) (walk : List Step) (n : ℕ) → Leads p a walk b → LeastDeadhead p q a (tasks_of walk) b n → n ≤ dead_price q walk

-- a walk by least paths costs its services and their least deadhead
abbrev pub LeastPathsCost : Type 0
LeastPathsCost =
    (p : Problem) (a b : ℕ) (services walk : List Step) (n : ℕ) → GoByLeastPaths p services a b walk → AllByRecursion (λ s. s.served ≡ true) services →
    LeastDeadhead p (price_of (costs_of p)) a (map task_of services) b n → walk_cost p walk ≡ sum_by (λ s. (edge_at p s.edge).service) services + n
