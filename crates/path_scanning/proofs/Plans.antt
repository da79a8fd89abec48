-- Scanned plans are lawful.
use Rattle.std.proofs.Common.{◌≡◌, inl, inr, ℕ, zero, suc, ◌+◌, ◌≤◌, Bool, true, false, cond, ◌==◌, List, [], ◌∷◌, ◌++◌, length, get_or, refl, sym, ap, ◌∙◌, arith, subst, take}
use Rattle.std.specs.Prelude.{replicate}
use Rattle.std.specs.List.{sum_by, count_by, AllByRecursion}
use Rattle.std.proofs.Math.ListN.{set}
use Rattle.std.proofs.lemmas.Bool.{cases_eq, eq-eqb, ne_eqb}
use Rattle.std.proofs.lemmas.List.{take-append-le, take_all, get_or-set_same, get_or-set_other, get_or-replicate}
use Rattle.std.proofs.lemmas.List.Sums.{sum_by-cons, sum_by-append}
use Rattle.carp_base.specs.declared.edge.Task.{Task}
use Rattle.carp_base.specs.Problem.{Problem, IsValid, IsRequired, edge_at}
use Rattle.plan_model.specs.declared.step.Step.{Step}
use Rattle.deadhead_paths.specs.Tours.{tasks_of}
use Rattle.task_tours.specs.Tours.{JoinsTasks, PlanGoesByLeastPaths, AreLawfulTours, all_tasks, plan_tours, tour_load}
use Rattle.path_scanning.specs.declared.rule.Rule.{Rule}
use Rattle.path_scanning.specs.Scans.{ScanMoment, FitsNext, IsNextTask, TakesNext, IsScannedTour, IsScannedFrom, moment_after, tour_start, served_after, is_served, with_served}
use Rattle.path_scanning.specs.Choosing.{ToursScanned, IsGrown}
use Rattle.path_scanning.proofs.Taking.{with_served_long}

all-append : {X : Type 0} (P : X → Type 0) (xs ys : List X) → AllByRecursion P xs → AllByRecursion P ys → AllByRecursion P (xs ++ ys)
all-append P [] ys first second = second
all-append P (x ∷ xs) ys first second = (first.0, all-append P xs ys first.1 second)

module _ (p : Problem) (rule : Rule) where
  pub next_fits : (m : ScanMoment) (t : Task) → IsNextTask p rule m t → FitsNext p m t.edge
  next_fits m t next = subst (λ (y : Task). FitsNext p m y.edge) next.task next.first.can.fits

  pub taken_required : (m : ScanMoment) (ts : List Task) → TakesNext p rule m ts → AllByRecursion (λ t. IsRequired p t.edge) ts
  taken_required m [] takes = tt
  taken_required m (t ∷ ts) takes = ((next_fits m t takes.0).required, taken_required (moment_after p m t) ts takes.1)

  taken_fit : (m : ScanMoment) (ts : List Task) → m.load ≤ p.capacity → TakesNext p rule m ts → m.load + sum_by (λ t. (edge_at p t.edge).demand) ts ≤ p.capacity
  taken_fit m [] fits takes = omega arith
  taken_fit m (t ∷ ts) fits takes =
      omega (arith, sum_by-cons (λ (u : Task). (edge_at p u.edge).demand) t ts, taken_fit (moment_after p m t) ts (next_fits m t takes.0).room takes.1)

  abbrev bit : Bool → ℕ
  bit b = cond b 1 0

  -- the edge is served once more where the task is on it
  marked : (served : List Bool) (d e : ℕ) → 1 ≤ d → d ≤ length served → is_served served d ≡ false → 1 ≤ e → bit (d == e) + bit (is_served served e) ≡ bit (is_served (with_served served d) e)
  marked served zero e some_d in_range unserved some_e = absurd (omega arith)
  marked served (suc j) zero some_d in_range unserved some_e = absurd (omega arith)
  marked served (suc j) (suc k) some_d in_range unserved some_e = elim (cases_eq (suc j) (suc k)) [
    | inl same ↦
        let places : k ≡ j = omega arith in
        let before : is_served served (suc k) ≡ false = ap (λ i. get_or served i false) places ∙ unserved in
        let after : is_served (set served j true) (suc k) ≡ true = ap (λ i. get_or (set served j true) i false) places ∙ get_or-set_same served j true false (omega arith) in
        omega (arith, ap bit (eq-eqb (suc j) (suc k) same), ap bit before, ap bit after)
    | inr other ↦
        let after : is_served (set served j true) (suc k) ≡ is_served served (suc k) = get_or-set_other served j k true false (λ is. other (ap (λ i. suc i) (sym is))) in
        omega (arith, ap bit (ne_eqb (suc j) (suc k) other), ap bit after)
  ]

  taken_count : (e : ℕ) → IsRequired p e → (m : ScanMoment) (ts : List Task) → length m.served ≡ p.required → TakesNext p rule m ts →
      count_by (λ t. t.edge == e) ts + bit (is_served m.served e) ≡ bit (is_served (served_after m.served ts) e)
  taken_count e required m [] long takes = omega arith
  taken_count e required m (t ∷ ts) long takes =
      let fits = next_fits m t takes.0 in
      omega (
        arith,
        sum_by-cons (λ (u : Task). cond (u.edge == e) 1 0) t ts,
        marked m.served t.edge e fits.required.from_one (let below = fits.required.in_range in omega (arith, below, long)) fits.unserved required.from_one,
        taken_count e required (moment_after p m t) ts (with_served_long m.served t.edge ∙ long) takes.1,
      )

  after_long : (served : List Bool) (ts : List Task) → length (served_after served ts) ≡ length served
  after_long served [] = refl
  after_long served (t ∷ ts) = after_long (with_served served t.edge) ts ∙ with_served_long served t.edge

  -- the tours are lawful
  tours_required : (served : List Bool) (plan : List (List Step)) → IsScannedFrom p rule served plan → AllByRecursion (λ t. IsRequired p t.edge) (all_tasks (plan_tours plan))
  tours_required served [] scanned = tt
  tours_required served (walk ∷ plan) scanned =
      all-append (λ t. IsRequired p t.edge) (tasks_of walk) (all_tasks (plan_tours plan)) (taken_required (tour_start p served) (tasks_of walk) scanned.0.tasks)
      (tours_required (served_after served (tasks_of walk)) plan scanned.1)

  tours_loads : (served : List Bool) (plan : List (List Step)) → IsScannedFrom p rule served plan → AllByRecursion (λ tour. tour_load p tour ≤ p.capacity) (plan_tours plan)
  tours_loads served [] scanned = tt
  tours_loads served (walk ∷ plan) scanned =
      (omega (arith, taken_fit (tour_start p served) (tasks_of walk) (omega arith) scanned.0.tasks), tours_loads (served_after served (tasks_of walk)) plan scanned.1)

  tours_once : (e : ℕ) → IsRequired p e → (served : List Bool) (plan : List (List Step)) → length served ≡ p.required → IsScannedFrom p rule served plan →
      count_by (λ t. t.edge == e) (all_tasks (plan_tours plan)) + bit (is_served served e) ≡ 1
  tours_once e required served [] long scanned = omega (arith, ap bit (scanned e required))
  tours_once e required served (walk ∷ plan) long scanned =
      omega (
        arith,
        sum_by-append (λ (t : Task). cond (t.edge == e) 1 0) (tasks_of walk) (all_tasks (plan_tours plan)),
        taken_count e required (tour_start p served) (tasks_of walk) long scanned.0.tasks,
        tours_once e required (served_after served (tasks_of walk)) plan (after_long served (tasks_of walk) ∙ long) scanned.1,
      )

  pub scanned_tours : (served : List Bool) (plan : List (List Step)) → length served ≡ p.required → ((e : ℕ) → IsRequired p e → is_served served e ≡ false) → IsScannedFrom p rule served plan →
      AreLawfulTours p (plan_tours plan)
  scanned_tours served plan long none scanned = record {
    served = record {
      required = tours_required served plan scanned;
      once = λ e required. omega (arith, tours_once e required served plan long scanned, ap bit (none e required));
    };
    loads = tours_loads served plan scanned;
  }

  pub scanned_paths : (served : List Bool) (plan : List (List Step)) → IsScannedFrom p rule served plan → PlanGoesByLeastPaths p plan
  scanned_paths served [] scanned = tt
  scanned_paths served (walk ∷ plan) scanned = (scanned.0.paths, scanned_paths (served_after served (tasks_of walk)) plan scanned.1)

  -- one tour more, and the end
  pub tours_more : (before after : List Bool) (plan : List (List Step)) (walk : List Step) → ToursScanned p rule before plan after → IsScannedTour p rule after walk →
      ToursScanned p rule before (plan ++ walk ∷ []) (served_after after (tasks_of walk))
  tours_more before after [] walk scanned tour = (subst (λ y. IsScannedTour p rule y walk) (sym scanned) tour, ap (λ y. served_after y (tasks_of walk)) scanned)
  tours_more before after (w ∷ plan) walk scanned tour = (scanned.0, tours_more (served_after before (tasks_of w)) after plan walk scanned.1 tour)

  pub tours_whole : (before after : List Bool) (plan : List (List Step)) → ToursScanned p rule before plan after → ((e : ℕ) → IsRequired p e → is_served after e ≡ true) → IsScannedFrom p rule before plan
  tours_whole before after [] scanned all = subst (λ y. (e : ℕ) → IsRequired p e → is_served y e ≡ true) (sym scanned) all
  tours_whole before after (w ∷ plan) scanned all = (scanned.0, tours_whole (served_after before (tasks_of w)) after plan scanned.1 all)

  -- where a tour that is to begin takes nothing, all is served
  pub all_served : IsValid p → (served : List Bool) → TakesNext p rule (tour_start p served) [] → (e : ℕ) → IsRequired p e → is_served served e ≡ true
  all_served valid served none e required = one (is_served served e) refl
    where
      one : (b : Bool) → is_served served e ≡ b → b ≡ true
      one true is = refl
      one false is = absurd (none e (record { required = required; unserved = is; room = let fits = (valid.tasks e required).demand_fits in omega (arith, fits) }))

  -- a grown tour, joined by least paths
  pub grown_tour : (before after : List Bool) (tasks : List Task) (walk : List Step) → IsGrown p rule before tasks after → 1 ≤ length tasks → JoinsTasks p tasks walk →
      IsScannedTour p rule before walk × (after ≡ served_after before (tasks_of walk))
  grown_tour before after tasks walk grown some joins = (
    record {
      some = λ none. let empty : tasks ≡ [] = sym joins.tasks ∙ none in absurd (omega (arith, some, ap length empty));
      tasks = subst (TakesNext p rule (tour_start p before)) (sym joins.tasks) grown.takes;
      paths = joins.paths;
    },
    grown.served ∙ ap (served_after before) (sym joins.tasks),
  )

  pub grown_long : (before after : List Bool) (tasks : List Task) → IsGrown p rule before tasks after → length after ≡ length before
  grown_long before after tasks grown = ap length grown.served ∙ after_long before tasks

  -- a tour without tasks is the end of the scan
  pub grown_none : IsValid p → (before after : List Bool) (tasks : List Task) → IsGrown p rule before tasks after → length tasks ≡ 0 → (e : ℕ) → IsRequired p e → is_served before e ≡ true
  grown_none valid before after [] grown none = all_served valid before grown.takes
  grown_none valid before after (t ∷ tasks) grown none = absurd (omega (arith, none))

-- at the start no edge is served
pub none_served : (p : Problem) (e : ℕ) → IsRequired p e → is_served (replicate p.required false) e ≡ false
none_served p zero required = absurd (omega (arith, required.from_one))
none_served p (suc k) required = get_or-replicate p.required k false false (let below = required.in_range in omega arith)

-- a length that is told by a test
pub some_long : (n : ℕ) → (n == 0) ≡ false → 1 ≤ n
some_long zero test = absurd (let both : true ≡ false = test in cc)
some_long (suc n) test = omega arith

pub none_long : (n : ℕ) → (n == 0) ≡ true → n ≡ 0
none_long n test = elim (cases_eq n 0) [ inl is ↦ is | inr other ↦ absurd (let both : true ≡ false = sym test ∙ ne_eqb n 0 other in cc) ]

-- what is written to a whole list
pub whole : (n : ℕ) (xs ys : List Bool) → length xs ≡ n → take n (xs ++ ys) ≡ xs
whole n xs ys long = take-append-le n xs ys (omega (arith, long)) ∙ take_all n xs (omega (arith, long))
