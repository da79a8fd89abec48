-- What can be wrong with a plan, and which of it is answered.
use Rattle.std.specs.Prelude.{◌≡◌, ◌≢◌, ℕ, ◌-◌, ◌<◌, ◌≤◌, ◌⊎◌, List, length}
use Rattle.carp_base.specs.Problem.{Problem, IsEdgeNumber, IsRequired, edge_at, tail_of, head_of}
use Rattle.plan_model.specs.declared.step.Step.{Step}
use Rattle.plan_model.specs.declared.verdict.Verdict.{Verdict}
use Rattle.plan_model.specs.declared.verdict.Verdict.TheVariants.{Lawful, Broken, NotAtDepot, ServesOther, ServedTwice, NotServed, Overload}
use Rattle.plan_model.specs.Plans.{IsLawful, plan_cost, services_of, step_at, walk_at, walk_load}

-- the number of a tour of the plan
pub record IsTourNumber (plan : List (List Step)) (tour : ℕ) : Type 0 where
  pub from_one : 1 ≤ tour
  pub in_range : tour ≤ length plan

-- the number of a step of the walk
pub record IsStepNumber (walk : List Step) (step : ℕ) : Type 0 where
  pub from_one : 1 ≤ step
  pub in_range : step ≤ length walk

-- the tour of a number from 1
abbrev pub tour_at : List (List Step) → ℕ → List Step
tour_at plan tour = walk_at plan (tour - 1)

-- the step of a number from 1
abbrev pub nth_step : List Step → ℕ → Step
nth_step walk step = step_at walk (step - 1)

-- the vertex where a step starts, and the vertex where it ends
abbrev pub start_of : Problem → Step → ℕ
start_of p s = tail_of (edge_at p s.edge) s.forward

abbrev pub end_of : Problem → Step → ℕ
end_of p s = head_of (edge_at p s.edge) s.forward

-- the step is on no edge of the instance, or starts elsewhere than the step before it ends; a walk's first step may
-- start anywhere
abbrev pub IsBroken : Problem → List Step → ℕ → Type 0
IsBroken p walk step =
    ¬ (IsEdgeNumber p (nth_step walk step).edge)
    ⊎ ((1 < step) × (start_of p (nth_step walk step) ≢ end_of p (nth_step walk (step - 1))))

-- the walk starts or ends away from the depot; the empty walk does not
abbrev pub IsAway : Problem → List Step → Type 0
IsAway p walk =
    (1 ≤ length walk)
    × ((start_of p (nth_step walk 1) ≢ p.depot) ⊎ (end_of p (nth_step walk (length walk)) ≢ p.depot))

-- what the verdict says is so
abbrev pub VerdictApplies : Problem → List (List Step) → Verdict → Type 0
VerdictApplies p plan (Lawful cost) = IsLawful p plan × (cost ≡ plan_cost p plan)
VerdictApplies p plan (Broken tour step) = IsTourNumber plan tour × IsStepNumber (tour_at plan tour) step × IsBroken p (tour_at plan tour) step
VerdictApplies p plan (NotAtDepot tour) = IsTourNumber plan tour × IsAway p (tour_at plan tour)
VerdictApplies p plan (ServesOther e) = ¬ (IsRequired p e) × (1 ≤ services_of e plan)
VerdictApplies p plan (ServedTwice e) = IsRequired p e × (2 ≤ services_of e plan)
VerdictApplies p plan (NotServed e) = IsRequired p e × (services_of e plan ≡ 0)
VerdictApplies p plan (Overload tour load) = IsTourNumber plan tour × (load ≡ walk_load p (tour_at plan tour)) × (p.capacity < load)

-- the place of a verdict in the order in which verdicts are answered
abbrev pub verdict_rank : Verdict → ℕ
verdict_rank (Broken tour step) = 1
verdict_rank (NotAtDepot tour) = 2
verdict_rank (ServesOther e) = 3
verdict_rank (ServedTwice e) = 4
verdict_rank (NotServed e) = 5
verdict_rank (Overload tour load) = 6
verdict_rank (Lawful cost) = 7

-- the tour or the edge that a verdict names
abbrev pub verdict_number : Verdict → ℕ
verdict_number (Broken tour step) = tour
verdict_number (NotAtDepot tour) = tour
verdict_number (ServesOther e) = e
verdict_number (ServedTwice e) = e
verdict_number (NotServed e) = e
verdict_number (Overload tour load) = tour
verdict_number (Lawful cost) = 0

-- the step that a verdict names within its tour
abbrev pub verdict_step : Verdict → ℕ
verdict_step (Broken tour step) = step
verdict_step _ = 0

-- a verdict stands no later than another: by rank, then by the tour or the edge, and then by the step
abbrev pub VerdictNoLater : Verdict → Verdict → Type 0
VerdictNoLater v w =
    (verdict_rank v < verdict_rank w)
    ⊎ ((verdict_rank v ≡ verdict_rank w)
    × ((verdict_number v < verdict_number w) ⊎ ((verdict_number v ≡ verdict_number w) × (verdict_step v ≤ verdict_step w))))

-- the verdict that is answered: it applies, and stands no later than each that applies
pub record IsVerdict (p : Problem) (plan : List (List Step)) (v : Verdict) : Type 0 where
  pub applies : VerdictApplies p plan v
  pub first : (w : Verdict) → VerdictApplies p plan w → VerdictNoLater v w

-- the verdict says that something is wrong
abbrev pub IsFailing : Verdict → Type 0
IsFailing v = verdict_rank v < 7
