-- Path scanning (Golden, DeArmon and Baker 1983): how tours grow, and which plans are made so.
use Rattle.std.specs.Prelude.{◌≡◌, ◌≢◌, ℕ, zero, suc, ◌+◌, ◌≤◌, Bool, true, false, List, [], ◌∷◌, slice_index_or, slice_set, replicate}
use Rattle.carp_base.specs.declared.edge.Task.{Task}
use Rattle.carp_base.specs.Problem.{Problem, IsRequired, edge_at, tail_of, head_of}
use Rattle.plan_model.specs.declared.step.Step.{Step}
use Rattle.deadhead_paths.specs.Prices.{IsLeastPrice, price_of, costs_of}
use Rattle.deadhead_paths.specs.Tidy.{GoByLeastPaths, served_steps}
use Rattle.deadhead_paths.specs.Tours.{tasks_of}
use Rattle.path_scanning.specs.declared.candidate.Candidate.{Candidate}
use Rattle.path_scanning.specs.declared.rule.Rule.{Rule}
use Rattle.path_scanning.specs.Ties.{TaskNoLater, tie_of}

-- whether the edge of a number from 1 is served, by a list that says so for each required edge in turn
abbrev pub is_served : List Bool → ℕ → Bool
is_served served zero = false
is_served served (suc k) = slice_index_or served k false

-- the list in which this edge is served too
abbrev pub with_served : List Bool → ℕ → List Bool
with_served served zero = served
with_served served (suc k) = slice_set served k true

-- how far a scan has come: the edges that are served, the vertex where the tour stands, and the load that it has
pub record ScanMoment : Type 0 where
  pub served : List Bool
  pub at : ℕ
  pub load : ℕ

-- the edge is to be served yet, and its demand fits
pub record FitsNext (p : Problem) (m : ScanMoment) (e : ℕ) : Type 0 where
  pub required : IsRequired p e
  pub unserved : is_served m.served e ≡ false
  pub room : m.load + (edge_at p e).demand ≤ p.capacity

-- the numbers of a task by which it is compared, for a tour that stands at a vertex; distances are by cost
pub record IsMeasured (p : Problem) (at : ℕ) (c : Candidate) : Type 0 where
  pub near : IsLeastPrice p (price_of (costs_of p)) at (tail_of (edge_at p c.task.edge) c.task.forward) c.near
  pub home : IsLeastPrice p (price_of (costs_of p)) (head_of (edge_at p c.task.edge) c.task.forward) p.depot c.home
  pub service : c.service ≡ (edge_at p c.task.edge).service
  pub demand : c.demand ≡ (edge_at p c.task.edge).demand

-- a task that the tour can take next
pub record IsCandidate (p : Problem) (m : ScanMoment) (c : Candidate) : Type 0 where
  pub fits : FitsNext p m c.task.edge
  pub measured : IsMeasured p m.at c

-- of all tasks that the tour can take next, the one that none other goes before
pub record IsFirstTask (p : Problem) (rule : Rule) (m : ScanMoment) (c : Candidate) : Type 0 where
  pub can : IsCandidate p m c
  pub first : (other : Candidate) → IsCandidate p m other → TaskNoLater (tie_of rule p.capacity m.load) c other

-- the tour takes this task next
pub record IsNextTask (p : Problem) (rule : Rule) (m : ScanMoment) (t : Task) : Type 0 where
  pub taken : Candidate
  pub task : taken.task ≡ t
  pub first : IsFirstTask p rule m taken

-- the moment after a task was taken: its edge is served, the tour stands at its end, and has its demand as well
abbrev pub moment_after : Problem → ScanMoment → Task → ScanMoment
moment_after p m t = record {
  served = with_served m.served t.edge;
  at = head_of (edge_at p t.edge) t.forward;
  load = m.load + (edge_at p t.edge).demand;
}

-- from a moment on the tour takes exactly these tasks: each is the next one, and after the last one nothing fits
abbrev pub TakesNext : Problem → Rule → ScanMoment → List Task → Type 0
TakesNext p rule m [] = (e : ℕ) → ¬ (FitsNext p m e)
TakesNext p rule m (t ∷ ts) = IsNextTask p rule m t × TakesNext p rule (moment_after p m t) ts

-- a tour begins at the depot, with no load
abbrev pub tour_start : Problem → List Bool → ScanMoment
tour_start p served = record { served = served; at = p.depot; load = 0 }

-- the edges that are served once these tasks are done too
abbrev pub served_after : List Bool → List Task → List Bool
served_after served [] = served
served_after served (t ∷ ts) = served_after (with_served served t.edge) ts

-- a tour that serves, whose services are the tasks that a scan takes, joined by least paths from the depot and back
pub record IsScannedTour (p : Problem) (rule : Rule) (served : List Bool) (walk : List Step) : Type 0 where
  pub some : tasks_of walk ≢ []
  pub tasks : TakesNext p rule (tour_start p served) (tasks_of walk)
  pub paths : GoByLeastPaths p (served_steps walk) p.depot p.depot walk

-- tour after tour, if these edges are served before, until all are
abbrev pub IsScannedFrom : Problem → Rule → List Bool → List (List Step) → Type 0
IsScannedFrom p rule served [] = (e : ℕ) → IsRequired p e → is_served served e ≡ true
IsScannedFrom p rule served (walk ∷ plan) = IsScannedTour p rule served walk × IsScannedFrom p rule (served_after served (tasks_of walk)) plan

-- the plan that a scan by the rule makes, if no edge is served before
abbrev pub IsScanned : Problem → Rule → List (List Step) → Type 0
IsScanned p rule plan = IsScannedFrom p rule (replicate p.required false) plan
