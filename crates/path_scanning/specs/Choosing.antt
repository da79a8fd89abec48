-- A scan on its way. No public contract speaks of this.
use Rattle.std.specs.Prelude.{◌≡◌, ℕ, ◌+◌, ◌≤◌, ◌⊎◌, Bool, not, List, [], ◌∷◌, length, Option, MatchOption, ◌<◌}
use Rattle.std.specs.List.{count_by, AllByRecursion}
use Rattle.carp_base.specs.declared.edge.Task.{Task}
use Rattle.carp_base.specs.Problem.{Problem, IsRequired}
use Rattle.plan_model.specs.declared.step.Step.{Step}
use Rattle.deadhead_paths.specs.Tours.{tasks_of}
use Rattle.path_scanning.specs.declared.candidate.Candidate.{Candidate}
use Rattle.path_scanning.specs.declared.rule.Rule.{Rule}
use Rattle.path_scanning.specs.declared.rule.Tie.{Tie}
use Rattle.path_scanning.specs.Ties.{TaskNoLater}
use Rattle.path_scanning.specs.Scans.{ScanMoment, FitsNext, IsCandidate, IsNextTask, TakesNext, moment_after, tour_start, served_after, IsScannedTour}

-- one of two candidates, and no later than both
pub record IsFirstOf (tie : Tie) (c d first : Candidate) : Type 0 where
  pub one : (first ≡ c) ⊎ (first ≡ d)
  pub left : TaskNoLater tie first c
  pub right : TaskNoLater tie first d

-- the first of the candidates on edges below e, or none if none of these fits
pub record IsFirstBelow (p : Problem) (tie : Tie) (m : ScanMoment) (e : ℕ) (c : Candidate) : Type 0 where
  pub can : IsCandidate p m c
  pub first : (other : Candidate) → IsCandidate p m other → other.task.edge < e → TaskNoLater tie c other

abbrev pub FindsFirst : Problem → Tie → ScanMoment → ℕ → Option Candidate → Type 0
FindsFirst p tie m e found = MatchOption found ((d : ℕ) → d < e → ¬ (FitsNext p m d)) (IsFirstBelow p tie m e)

-- taking these tasks leads from one moment to another
abbrev pub TasksTaken : Problem → Rule → ScanMoment → List Task → ScanMoment → Type 0
TasksTaken p rule m [] end = m ≡ end
TasksTaken p rule m (t ∷ ts) end = IsNextTask p rule m t × TasksTaken p rule (moment_after p m t) ts end

-- how many edges are to be served yet
abbrev pub open_count : List Bool → ℕ
open_count served = count_by not served

-- the tasks of a tour, and the edges that are served after it
pub record IsGrown (p : Problem) (rule : Rule) (before : List Bool) (tasks : List Task) (after : List Bool) : Type 0 where
  pub takes : TakesNext p rule (tour_start p before) tasks
  pub served : after ≡ served_after before tasks
  pub required : AllByRecursion (λ t. IsRequired p t.edge) tasks
  pub few : length tasks ≤ 30000
  pub fewer : length tasks + open_count after ≡ open_count before

-- these tours lead from the edges that are served before to those that are served after them
abbrev pub ToursScanned : Problem → Rule → List Bool → List (List Step) → List Bool → Type 0
ToursScanned p rule before [] after = before ≡ after
ToursScanned p rule before (walk ∷ plan) after = IsScannedTour p rule before walk × ToursScanned p rule (served_after before (tasks_of walk)) plan after
