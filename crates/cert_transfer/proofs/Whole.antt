-- What is cut serves the same and fits, and a plan by least paths is short.
use Rattle.std.proofs.Common.{◌≡◌, ℕ, zero, suc, ◌+◌, ◌*◌, ◌<◌, ◌≤◌, Bool, true, false, List, [], ◌∷◌, ◌++◌, length, map, take, refl, sym, ap, ◌∙◌, subst, arith, append_assoc, length-append, nat_le}
use Rattle.std.specs.Prelude.{if◌then◌else◌}
use Rattle.std.specs.List.{AllByRecursion}
use Rattle.std.proofs.lemmas.Bool.Decides.{nat_tests}
use Rattle.std.proofs.lemmas.List.{length-map, take_all}
use Rattle.std.proofs.lemmas.List.Concat.{flat_map-append}
use Rattle.std.proofs.lemmas.List.Sums.{sum_by-append}
use Rattle.carp_base.specs.declared.edge.Task.{Task}
use Rattle.carp_base.specs.Problem.{Problem, IsRequired, IsValid, edge_at, head_of}
use Rattle.plan_model.specs.declared.step.Step.{Step}
use Rattle.plan_model.specs.Plans.{IsLawful, steps_of, walk_at}
use Rattle.deadhead_paths.specs.Tidy.{GoByLeastPaths, served_steps}
use Rattle.deadhead_paths.specs.Tours.{task_of, tasks_of}
use Rattle.task_tours.specs.Laws.{LawfulToursMakeLawfulPlans, ServedOnceAreAsMany}
use Rattle.task_tours.specs.Tours.{AreLawfulTours, AreServedOnce, PlanGoesByLeastPaths, all_tasks, plan_tours, tour_load}
use Rattle.cert_transfer.specs.Cutting.{cut_from, cut_tour, cut_tours}
use Rattle.cert_transfer.specs.TourParts.{IsCarriedUpTo}
use Rattle.cert_transfer.proofs.Ranges.{all_joined, all_left, all_right}

module _ (p : Problem) where
  abbrev demand : Task → ℕ
  demand t = (edge_at p t.edge).demand

  abbrev Fits : List Task → Type 0
  Fits tour = tour_load p tour ≤ p.capacity

  -- the same tasks
  from_serves : (tasks tour : List Task) → all_tasks (cut_from p tour tasks) ≡ tour ++ tasks
  from_serves [] tour = refl
  from_serves (t ∷ tasks) tour = one (nat_le (tour_load p tour + demand t) p.capacity) (from_serves tasks (tour ++ t ∷ [])) (from_serves tasks (t ∷ []))
    where
      one : (b : Bool) → all_tasks (cut_from p (tour ++ t ∷ []) tasks) ≡ (tour ++ t ∷ []) ++ tasks → all_tasks (cut_from p (t ∷ []) tasks) ≡ t ∷ tasks →
          all_tasks (if b then cut_from p (tour ++ t ∷ []) tasks else tour ∷ cut_from p (t ∷ []) tasks) ≡ tour ++ t ∷ tasks
      one true on over = on ∙ append_assoc tour (t ∷ []) tasks
      one false on over = ap (λ rest. tour ++ rest) over

  tour_serves : (tasks : List Task) → all_tasks (cut_tour p tasks) ≡ tasks
  tour_serves [] = refl
  tour_serves (t ∷ tasks) = from_serves tasks (t ∷ [])

  pub tours_serve : (tours : List (List Task)) → all_tasks (cut_tours p tours) ≡ all_tasks tours
  tours_serve [] = refl
  tours_serve (tour ∷ tours) =
      flat_map-append (λ (ts : List Task). ts) (cut_tour p tour) (cut_tours p tours) ∙ ap (λ ts. ts ++ all_tasks (cut_tours p tours)) (tour_serves tour) ∙ ap (λ ts. tour ++ ts) (tours_serve tours)

  -- tours that fit
  fits_test : (m n : ℕ) → nat_le m n ≡ true → m ≤ n
  fits_test m n is = grind (arith, nat_tests)

  module _ (valid : IsValid p) where
    one_fits : (t : Task) → IsRequired p t.edge → Fits (t ∷ [])
    one_fits t required = omega (arith, (valid.tasks t.edge required).demand_fits)

    from_fits : (tasks tour : List Task) → AllByRecursion (λ t. IsRequired p t.edge) tasks → Fits tour → AllByRecursion Fits (cut_from p tour tasks)
    from_fits [] tour required fits = (fits, tt)
    from_fits (t ∷ tasks) tour required fits =
        one (nat_le (tour_load p tour + demand t) p.capacity) refl (from_fits tasks (tour ++ t ∷ []) required.1) (from_fits tasks (t ∷ []) required.1 (one_fits t required.0))
      where
        one : (b : Bool) → nat_le (tour_load p tour + demand t) p.capacity ≡ b → (Fits (tour ++ t ∷ []) → AllByRecursion Fits (cut_from p (tour ++ t ∷ []) tasks)) →
            AllByRecursion Fits (cut_from p (t ∷ []) tasks) → AllByRecursion Fits (if b then cut_from p (tour ++ t ∷ []) tasks else tour ∷ cut_from p (t ∷ []) tasks)
        one true is on over = on (omega (arith, sum_by-append demand tour (t ∷ []), fits_test _ _ is))
        one false is on over = (fits, over)

    tour_fits : (tasks : List Task) → AllByRecursion (λ t. IsRequired p t.edge) tasks → AllByRecursion Fits (cut_tour p tasks)
    tour_fits [] required = tt
    tour_fits (t ∷ tasks) required = from_fits tasks (t ∷ []) required.1 (one_fits t required.0)

    tours_fit : (tours : List (List Task)) → AllByRecursion (λ t. IsRequired p t.edge) (all_tasks tours) → AllByRecursion Fits (cut_tours p tours)
    tours_fit [] required = tt
    tours_fit (tour ∷ tours) required =
        all_joined Fits (cut_tour p tour) (cut_tours p tours) (tour_fits tour (all_left (λ t. IsRequired p t.edge) tour (all_tasks tours) required))
        (tours_fit tours (all_right (λ t. IsRequired p t.edge) tour (all_tasks tours) required))

    pub lawful_tours : (tours : List (List Task)) → AreServedOnce p (all_tasks tours) → AreLawfulTours p (cut_tours p tours)
    lawful_tours tours served = record {
      served = subst (AreServedOnce p) (sym (tours_serve tours)) served;
      loads = tours_fit tours served.required;
    }

  -- short plans
  length_tasks : (steps : List Step) → length (map task_of steps) ≡ length steps
  length_tasks steps = length-map steps task_of

  paths_short : (services : List Step) (a b : ℕ) (steps : List Step) → p.vertices ≤ 1000 → GoByLeastPaths p services a b steps → length steps ≤ 1000 * (length services + 1)
  paths_short [] a b steps few goes = omega (arith, goes.short, few)
  paths_short (s ∷ services) a b steps few goes =
      omega (
        arith,
        ap length goes.3,
        length-append goes.0 (s ∷ goes.1),
        goes.2.short,
        few,
        paths_short services (head_of (edge_at p s.edge) s.forward) b goes.1 few goes.4,
      )

  plan_short : p.vertices ≤ 1000 → (plan : List (List Step)) → PlanGoesByLeastPaths p plan → length (steps_of plan) ≤ 1000 * (length (all_tasks (plan_tours plan)) + length plan)
  plan_short few [] paths = omega arith
  plan_short few (walk ∷ plan) paths =
      omega (
        arith,
        length-append walk (steps_of plan),
        length-append (tasks_of walk) (all_tasks (plan_tours plan)),
        length_tasks (served_steps walk),
        paths_short (served_steps walk) p.depot p.depot walk few paths.0,
        plan_short few plan paths.1,
      )

  -- a plan that is carried over walk by walk
  -- the tasks of a walk and of those before it
  pub few_before : (old : List (List Step)) (place : ℕ) → place < length old →
      length (all_tasks (plan_tours (take place old))) + length (tasks_of (walk_at old place)) ≤ length (all_tasks (plan_tours old))
  few_before [] place below = absurd (omega (arith, below))
  few_before (walk ∷ old) zero below = omega (arith, length-append (tasks_of walk) (all_tasks (plan_tours old)))
  few_before (walk ∷ old) (suc place) below =
      omega (
        arith,
        length-append (tasks_of walk) (all_tasks (plan_tours old)),
        length-append (tasks_of walk) (all_tasks (plan_tours (take place old))),
        few_before old place (omega (arith, below)),
      )

  pub walk_required : (old : List (List Step)) (place : ℕ) → place < length old → AllByRecursion (λ t. IsRequired p t.edge) (all_tasks (plan_tours old)) →
      AllByRecursion (λ t. IsRequired p t.edge) (tasks_of (walk_at old place))
  walk_required [] place below required = absurd (omega (arith, below))
  walk_required (walk ∷ old) zero below required = all_left (λ t. IsRequired p t.edge) (tasks_of walk) (all_tasks (plan_tours old)) required
  walk_required (walk ∷ old) (suc place) below required = walk_required old place (omega (arith, below)) (all_right (λ t. IsRequired p t.edge) (tasks_of walk) (all_tasks (plan_tours old)) required)

  module _ (count : ServedOnceAreAsMany) (valid : IsValid p) (old : List (List Step)) (services : AreServedOnce p (all_tasks (plan_tours old))) where
    pub walk_few : (place : ℕ) (plan : List (List Step)) → place < length old → IsCarriedUpTo p old place plan → length plan + length (tasks_of (walk_at old place)) ≤ 600
    walk_few place plan below so_far = omega (arith, so_far.few, few_before old place below, count p (all_tasks (plan_tours old)) services, valid.few_required)

    module _ (place : ℕ) (plan : List (List Step)) (past : length old ≤ place) (so_far : IsCarriedUpTo p old place plan) where
      pub whole_tours : plan_tours plan ≡ cut_tours p (plan_tours old)
      whole_tours = so_far.tours ∙ ap (λ walks. cut_tours p (plan_tours walks)) (take_all place old past)

      pub whole_lawful : LawfulToursMakeLawfulPlans → IsLawful p plan
      whole_lawful law = law p valid plan so_far.paths (subst (AreLawfulTours p) (sym whole_tours) (lawful_tours valid (plan_tours old) services))

      pub whole_few : length plan ≤ p.required
      whole_few = omega (
        arith,
        so_far.few,
        ap (λ walks. length (all_tasks (plan_tours walks))) (take_all place old past),
        count p (all_tasks (plan_tours old)) services,
      )

      pub whole_short : length (steps_of plan) ≤ 2000000
      whole_short = omega (
        arith,
        plan_short valid.few_vertices plan so_far.paths,
        whole_few,
        ap (λ tours. length (all_tasks tours)) whole_tours,
        ap length (tours_serve (plan_tours old)),
        count p (all_tasks (plan_tours old)) services,
        valid.few_required,
      )
