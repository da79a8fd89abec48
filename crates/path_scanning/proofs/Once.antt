-- A scan by a rule takes the same tasks each time, and so costs the same.
use Rattle.std.proofs.Common.{get_or, ◌≡◌, ◌≢◌, ℕ, zero, suc, ◌+◌, ◌<◌, ◌≤◌, ◌⊎◌, inl, inr, Bool, true, false, cond, List, [], ◌∷◌, map, refl, sym, ap, ◌∙◌, arith, subst}
use Rattle.std.specs.Prelude.{replicate}
use Rattle.std.proofs.lemmas.Bool.{cases_lt}
use Rattle.std.specs.List.{sum_by, AllByRecursion}
use Rattle.std.proofs.lemmas.List.Sums.{sum_by-cons, sum_by-append}
use Rattle.carp_base.specs.declared.edge.Task.{Task}
use Rattle.carp_base.specs.Problem.{Problem, IsValid, IsRequired, edge_at}
use Rattle.plan_model.specs.declared.step.Step.{Step}
use Rattle.plan_model.specs.Plans.{plan_cost, step_cost, steps_of, walk_cost}
use Rattle.deadhead_paths.specs.Laws.{LeastDeadheadIsThere, LeastPathsCost}
use Rattle.deadhead_paths.specs.Prices.{price_of, costs_of}
use Rattle.deadhead_paths.specs.Tidy.{served_steps}
use Rattle.deadhead_paths.specs.Tours.{LeastDeadhead, task_of, tasks_of}
use Rattle.path_scanning.specs.declared.candidate.Candidate.{Candidate}
use Rattle.path_scanning.specs.declared.rule.Rule.{Rule}
use Rattle.path_scanning.specs.declared.rule.Rule.TheVariants.{Far, Near, Cheap, Dear, Half}
use Rattle.path_scanning.specs.declared.rule.Tie.{Tie}
use Rattle.path_scanning.specs.Ties.{TaskNoLater}
use Rattle.path_scanning.specs.Scans.{ScanMoment, IsNextTask, TakesNext, IsScannedTour, IsScannedFrom, IsScanned, moment_after, tour_start, served_after, is_served}
use Rattle.path_scanning.specs.Cheapest.{IsCheapestOf, rule_place}
use Rattle.path_scanning.proofs.Plans.{next_fits, taken_required}

-- numbers that are no later than each other are the same
both_ways : {A B : Type 0} (x y : ℕ) → (x < y) ⊎ ((x ≡ y) × A) → (y < x) ⊎ ((y ≡ x) × B) → (x ≡ y) × A × B
both_ways x y (inl less) (inl less') = absurd (omega arith)
both_ways x y (inl less) (inr same) = absurd (let e = same.0 in omega arith)
both_ways x y (inr same) (inl less) = absurd (let e = same.0 in omega arith)
both_ways x y (inr same) (inr same') = (same.0, same.1, same'.1)

way : Bool → ℕ
way b = cond b 0 1

same_way : (a b : Bool) → way a ≡ way b → a ≡ b
unfolding way
same_way true true same = refl
same_way false false same = refl
same_way true false same = absurd (omega arith)
same_way false true same = absurd (omega arith)

task : ℕ → Bool → Task
task e forward = record { edge = e; forward = forward }

same_task : (tie : Tie) (c d : Candidate) → TaskNoLater tie c d → TaskNoLater tie d c → c.task ≡ d.task
unfolding task way
same_task tie c d first second =
    let near = both_ways _ _ first second in
    let weight = both_ways _ _ near.1 near.2 in
    let edge = both_ways _ _ weight.1 weight.2 in
    let forward = both_ways (way c.task.forward) (way d.task.forward) edge.1 edge.2 in
    ap (λ e. task e c.task.forward) edge.0 ∙ ap (task d.task.edge) (same_way c.task.forward d.task.forward forward.0)

module _ (p : Problem) (rule : Rule) where
  next_once : (m : ScanMoment) (t u : Task) → IsNextTask p rule m t → IsNextTask p rule m u → t ≡ u
  next_once m t u first second =
      sym first.task ∙ same_task _ first.taken second.taken (first.first.first second.taken second.first.can) (second.first.first first.taken first.first.can) ∙ second.task

  tasks_once : (m : ScanMoment) (ts us : List Task) → TakesNext p rule m ts → TakesNext p rule m us → ts ≡ us
  tasks_once m [] [] first second = refl
  tasks_once m [] (u ∷ us) first second = absurd (first u.edge (next_fits p rule m u second.0))
  tasks_once m (t ∷ ts) [] first second = absurd (second t.edge (next_fits p rule m t first.0))
  tasks_once m (t ∷ ts) (u ∷ us) first second =
      let same = next_once m t u first.0 second.0 in
      ap (λ v. v ∷ ts) same ∙ ap (λ vs. u ∷ vs) (tasks_once (moment_after p m u) ts us (subst (λ v. TakesNext p rule (moment_after p m v) ts) same first.1) second.1)

services_serve : (walk : List Step) → AllByRecursion (λ s. s.served ≡ true) (served_steps walk)
services_serve [] = tt
services_serve (s ∷ walk) = one s.served refl (services_serve walk)
  where
    one : (b : Bool) → s.served ≡ b → AllByRecursion (λ x. x.served ≡ true) (served_steps walk) → AllByRecursion (λ x. x.served ≡ true) (cond b (s ∷ served_steps walk) (served_steps walk))
    one true is rest = (is, rest)
    one false is rest = rest

services_cost : (p : Problem) (services : List Step) → sum_by (λ s. (edge_at p s.edge).service) services ≡ sum_by (λ t. (edge_at p t.edge).service) (map task_of services)
services_cost p [] = refl
services_cost p (s ∷ services) =
    omega (arith, sum_by-cons (λ (x : Step). (edge_at p x.edge).service) s services, sum_by-cons (λ (t : Task). (edge_at p t.edge).service) (task_of s) (map task_of services), services_cost p services)

module _ (there : LeastDeadheadIsThere) (costs : LeastPathsCost) (p : Problem) (valid : IsValid p) (rule : Rule) where
  tour_cost : (served : List Bool) (walk : List Step) → IsScannedTour p rule served walk → (n : ℕ) → LeastDeadhead p (price_of (costs_of p)) p.depot (tasks_of walk) p.depot n →
      walk_cost p walk ≡ sum_by (λ t. (edge_at p t.edge).service) (tasks_of walk) + n
  tour_cost served walk tour n least = omega (arith, costs p p.depot p.depot (served_steps walk) walk n tour.paths (services_serve walk) least, services_cost p (served_steps walk))

  same_tour : (served : List Bool) (walk other : List Step) → IsScannedTour p rule served walk → IsScannedTour p rule served other → tasks_of walk ≡ tasks_of other
  same_tour served walk other tour tour' = tasks_once p rule (tour_start p served) (tasks_of walk) (tasks_of other) tour.tasks tour'.tasks

  same_cost : (served : List Bool) (walk other : List Step) → IsScannedTour p rule served walk → IsScannedTour p rule served other → walk_cost p walk ≡ walk_cost p other
  same_cost served walk other tour tour' =
      let same = same_tour served walk other tour tour' in
      let least = there p valid (price_of (costs_of p)) (tasks_of walk) (taken_required p rule (tour_start p served) (tasks_of walk) tour.tasks) in
      omega (
        arith,
        tour_cost served walk tour least.0 least.1,
        tour_cost served other tour' least.0 (subst (λ ts. LeastDeadhead p (price_of (costs_of p)) p.depot ts p.depot least.0) same least.1),
        ap (sum_by (λ (t : Task). (edge_at p t.edge).service)) same,
      )

  -- no tour begins where all is served
  no_tour : (served : List Bool) (walk : List Step) → ((e : ℕ) → IsRequired p e → is_served served e ≡ true) → IsScannedTour p rule served walk → ⊥
  no_tour served walk all tour = one (tasks_of walk) tour.some tour.tasks
    where
      one : (ts : List Task) → ts ≢ [] → TakesNext p rule (tour_start p served) ts → ⊥
      one [] some takes = some refl
      one (t ∷ ts) some takes =
          let fits = next_fits p rule (tour_start p served) t takes.0 in
          let both : true ≡ false = sym (all t.edge fits.required) ∙ fits.unserved in
          cc

  pub scans_cost_same : (served : List Bool) (plan other : List (List Step)) → IsScannedFrom p rule served plan → IsScannedFrom p rule served other → plan_cost p plan ≡ plan_cost p other
  scans_cost_same served [] [] scanned scanned' = refl
  scans_cost_same served [] (walk ∷ other) scanned scanned' = absurd (no_tour served walk scanned scanned'.0)
  scans_cost_same served (walk ∷ plan) [] scanned scanned' = absurd (no_tour served walk scanned' scanned.0)
  scans_cost_same served (walk ∷ plan) (walk' ∷ other) scanned scanned' =
      omega (
        arith,
        sum_by-append (step_cost p) walk (steps_of plan),
        sum_by-append (step_cost p) walk' (steps_of other),
        same_cost served walk walk' scanned.0 scanned'.0,
        scans_cost_same (served_after served (tasks_of walk)) plan other scanned.1
            (subst (λ ts. IsScannedFrom p rule (served_after served ts) other) (sym (same_tour served walk walk' scanned.0 scanned'.0)) scanned'.1),
      )

-- rules have places of their own
rule_at : ℕ → Rule
rule_at zero = Far
rule_at (suc zero) = Near
rule_at (suc (suc zero)) = Cheap
rule_at (suc (suc (suc zero))) = Dear
rule_at _ = Half

at_place : (r : Rule) → rule_at (rule_place r) ≡ r
unfolding rule_at
at_place Far = refl
at_place Near = refl
at_place Cheap = refl
at_place Dear = refl
at_place Half = refl

same_rule : (r s : Rule) → rule_place r ≡ rule_place s → r ≡ s
same_rule r s same = sym (at_place r) ∙ ap rule_at same ∙ at_place s

module _ (there : LeastDeadheadIsThere) (costs : LeastPathsCost) (p : Problem) (valid : IsValid p) where
  -- a scan by a rule of this place costs as the one that is known
  scan_costs : (r s : Rule) (plan scan : List (List Step)) → rule_place s ≡ rule_place r → IsScanned p r plan → IsScanned p s scan → plan_cost p scan ≡ plan_cost p plan
  scan_costs r s plan scan same scanned scanned' =
      scans_cost_same there costs p valid r (replicate p.required false) scan plan (subst (λ y. IsScanned p y scan) (same_rule s r same) scanned') scanned

  pub cheapest_one : (r : Rule) (plan : List (List Step)) → rule_place r ≡ 0 → IsScanned p r plan → IsCheapestOf p 1 plan
  cheapest_one r plan place scanned = record {
    rule = r;
    among = omega arith;
    scanned = scanned;
    cheapest = λ other scan below is. omega (arith, scan_costs r other plan scan (omega arith) scanned is);
    first = λ other scan below is. absurd (omega arith);
  }

  pub cheapest_next : (n : ℕ) (r : Rule) (best next : List (List Step)) → rule_place r ≡ n → IsCheapestOf p n best → IsScanned p r next → plan_cost p next < plan_cost p best → IsCheapestOf p (n + 1) next
  cheapest_next n r best next place so_far scanned less = record {
    rule = r;
    among = omega arith;
    scanned = scanned;
    cheapest = λ other scan below is. elim (cases_lt (rule_place other) n) [
      | inl earlier ↦ omega (arith, so_far.cheapest other scan earlier is)
      | inr last ↦ omega (arith, scan_costs r other next scan (omega arith) scanned is)
    ];
    first = λ other scan below is. omega (arith, so_far.cheapest other scan (omega arith) is);
  }

  pub cheapest_same : (n : ℕ) (r : Rule) (best next : List (List Step)) → rule_place r ≡ n → IsCheapestOf p n best → IsScanned p r next → plan_cost p best ≤ plan_cost p next → IsCheapestOf p (n + 1) best
  cheapest_same n r best next place so_far scanned least = record {
    rule = so_far.rule;
    among = let among = so_far.among in omega arith;
    scanned = so_far.scanned;
    cheapest = λ other scan below is. elim (cases_lt (rule_place other) n) [
      | inl earlier ↦ so_far.cheapest other scan earlier is
      | inr last ↦ omega (arith, scan_costs r other next scan (omega arith) scanned is)
    ];
    first = so_far.first;
  }

-- the rules after the first stand in their order
pub placed : (i : ℕ) → i < 4 → rule_place (get_or (Near ∷ Cheap ∷ Dear ∷ Half ∷ []) i Far) ≡ i + 1
placed zero below = refl
placed (suc zero) below = refl
placed (suc (suc zero)) below = refl
placed (suc (suc (suc zero))) below = refl
placed (suc (suc (suc (suc i)))) below = absurd (omega arith)
