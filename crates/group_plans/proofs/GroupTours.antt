-- Tours on one group after another.
use Rattle.std.proofs.Common.{◌≡◌, ℕ, ◌+◌, ◌-◌, ◌<◌, ◌≤◌, ◌==◌, Bool, true, false, cond, List, [], ◌∷◌, ◌++◌, map, length, get_or, refl, ap, sym, ◌∙◌, subst, inl, inr, arith, length-append}
use Rattle.std.specs.List.{sum_by, count_by, AllByRecursion}
use Rattle.std.proofs.lemmas.Bool.{cases_eq, ne_eqb, eq-eqb}
use Rattle.std.proofs.lemmas.List.{get_or_append_left, get_or_push, get_or-map, length-map}
use Rattle.std.proofs.lemmas.List.Concat.{flat_map-append}
use Rattle.std.proofs.lemmas.List.Sums.{sum_by-append, sum_by-cons}
use Rattle.carp_base.specs.declared.edge.Task.{Task}
use Rattle.carp_base.specs.Problem.{Problem, IsRequired}
use Rattle.carp_base.specs.Packings.{IsPacking, group_of}
use Rattle.plan_model.specs.declared.step.Step.{Step}
use Rattle.plan_model.specs.Plans.{serves, walk_at}
use Rattle.deadhead_paths.specs.Tidy.{served_steps}
use Rattle.deadhead_paths.specs.Tours.{task_of, tasks_of}
use Rattle.task_tours.specs.Tours.{AreLawfulTours, all_tasks, plan_tours, tour_load}
use Rattle.group_plans.specs.Groups.{ServesGroups, ServesInOrder, gathered}
use Rattle.group_plans.specs.Gathering.{InOrderUpTo, ServesGroup, ServesUpTo}
use Rattle.group_plans.proofs.GroupTasks.{all-append, one_if}

pub serves_none : (p : Problem) (groups : List ℕ) → ServesUpTo p groups 0 []
serves_none p groups = record {
  one_each = refl;
  required = tt;
  served = λ e required low high. absurd (omega (arith, low, high));
  unserved = λ e required above. refl;
  loads = λ fit. tt;
  each = λ k e below required. absurd (omega (arith, below));
}

-- a step is a service of an edge where it serves, and is on the edge
pub busy_step : (e : ℕ) (s : Step) → s.served ≡ true → one_if (serves e s) ≡ one_if (s.edge == e)
busy_step e s is = rw is refl

pub idle_step : (e : ℕ) (s : Step) → s.served ≡ false → one_if (serves e s) ≡ 0
idle_step e s is = rw is refl

-- how often an edge stands among the tasks of one tour more
count_push : (e : ℕ) (tours : List (List Task)) (tasks : List Task) →
    count_by (λ t. t.edge == e) (all_tasks (tours ++ tasks ∷ [])) ≡ count_by (λ t. t.edge == e) (all_tasks tours) + count_by (λ t. t.edge == e) tasks
count_push e tours tasks =
    let on : Task → ℕ = λ (t : Task). cond (t.edge == e) 1 0 in
    omega (
      arith,
      ap (sum_by on) (flat_map-append (λ (tour : List Task). tour) tours (tasks ∷ [])),
      sum_by-append on (all_tasks tours) (tasks ++ []),
      sum_by-append on tasks [],
    )

module _ (p : Problem) (groups : List ℕ) where
  pub serves_more : (n : ℕ) (tours : List (List Task)) (tasks : List Task) → ServesUpTo p groups n tours → ServesGroup p groups (n + 1) tasks → ServesUpTo p groups (n + 1) (tours ++ tasks ∷ [])
  serves_more n tours tasks up own = record {
    one_each = omega (arith, up.one_each, length-append tours (tasks ∷ []));
    required = subst (AllByRecursion (λ t. IsRequired p t.edge)) (sym (flat_map-append (λ (tour : List Task). tour) tours (tasks ∷ [])))
        (all-append (λ t. IsRequired p t.edge) (all_tasks tours) (tasks ++ []) up.required (all-append (λ t. IsRequired p t.edge) tasks [] own.required tt));
    served = λ e required low high. elim (cases_eq (group_of groups e) (n + 1)) [
      | inl is ↦ omega (
        arith,
        count_push e tours tasks,
        up.unserved e required (omega (arith, is)),
        own.once e required,
        ap one_if (eq-eqb (group_of groups e) (n + 1) is),
      )
      | inr differs ↦ omega (
        arith,
        count_push e tours tasks,
        up.served e required low (omega (arith, high, differs)),
        own.once e required,
        ap one_if (ne_eqb (group_of groups e) (n + 1) differs),
      )
    ];
    unserved = λ e required above. omega (
      arith,
      count_push e tours tasks,
      up.unserved e required (omega (arith, above)),
      own.once e required,
      ap one_if (ne_eqb (group_of groups e) (n + 1) (λ same. omega (arith, above, same))),
    );
    loads = λ fit. all-append (λ tour. tour_load p tour ≤ p.capacity) tours (tasks ∷ [])
        (up.loads (λ g is. fit g (record { from_one = is.from_one; in_range = omega (arith, is.in_range) })))
        (omega (arith, own.load, fit (n + 1) (record { from_one = omega arith; in_range = omega arith })), tt);
    each = λ k e low required. elim (cases_eq k n) [
      | inl is ↦
          let found : get_or (tours ++ tasks ∷ []) k [] ≡ tasks = get_or_push tours tasks [] k (omega (arith, is, up.one_each)) in
          omega (
            arith,
            ap (count_by (λ (t : Task). t.edge == e)) found,
            own.once e required,
            ap (λ g. one_if (group_of groups e == (g + 1))) is,
          )
      | inr differs ↦
          let found : get_or (tours ++ tasks ∷ []) k [] ≡ get_or tours k [] = get_or_append_left tours (tasks ∷ []) [] k (omega (arith, low, differs, up.one_each)) in
          omega (
            arith,
            ap (count_by (λ (t : Task). t.edge == e)) found,
            up.each k e (omega (arith, low, differs)) required,
          )
    ];
  }

  -- the same, where the tasks are lent
  pub serves_step : (n : ℕ) (tours new : List (List Task)) (tasks lent : List Task) → new ≡ tours ++ lent ∷ [] → lent ≡ tasks → ServesGroup p groups (n + 1) tasks → ServesUpTo p groups n tours → ServesUpTo p groups (n + 1) new
  serves_step n tours new tasks lent is same own up = rw is (rw same (serves_more n tours tasks up own))

  -- the same of the order in which they stand
  pub order_step : (n : ℕ) (tours new : List (List Task)) (tasks lent : List Task) → new ≡ tours ++ lent ∷ [] → lent ≡ tasks → tasks ≡ gathered groups (n + 1) p.required →
      InOrderUpTo p groups n tours → InOrderUpTo p groups (n + 1) new
  order_step n tours new tasks lent is same own up = rw is (rw same (
    omega (arith, up.0, length-append tours (tasks ∷ [])),
    λ k low. elim (cases_eq k n) [
      | inl at ↦ get_or_push tours tasks [] k (omega (arith, at, up.0)) ∙ own ∙ ap (λ m. gathered groups (m + 1) p.required) (sym at)
      | inr differs ↦ get_or_append_left tours (tasks ∷ []) [] k (omega (arith, low, differs, up.0)) ∙ up.1 k (omega (arith, low, differs))
    ],
  ))

  pub groups_in_order : (count : ℕ) (plan : List (List Step)) → InOrderUpTo p groups count (plan_tours plan) → ServesInOrder p groups count plan
  groups_in_order count plan up g is =
      let k : ℕ = g - 1 in
      let next : k + 1 ≡ g = omega (arith, is.from_one) in
      let below : k < length plan = omega (arith, is.from_one, is.in_range, up.0, length-map plan tasks_of) in
      sym (get_or-map tasks_of plan k [] [] below) ∙ up.1 k (omega (arith, is.from_one, is.in_range)) ∙ ap (λ h. gathered groups h p.required) next

module _ (p : Problem) (groups : List ℕ) (count : ℕ) (packing : IsPacking p groups count) where
  pub all_served : (tours : List (List Task)) → ServesUpTo p groups count tours → AreLawfulTours p tours
  all_served tours up = record {
    served = record {
      required = up.required;
      once = λ e required. let is = packing.placed e required in up.served e required is.from_one is.in_range;
    };
    loads = up.loads packing.loads;
  }

  -- how often a walk serves an edge is how often the edge stands among its tasks
  count_walk : (e : ℕ) (walk : List Step) → count_by (serves e) walk ≡ count_by (λ t. t.edge == e) (tasks_of walk)
  count_walk e [] = refl
  count_walk e (s ∷ walk) = sum_by-cons (λ x. cond (serves e x) 1 0) s walk ∙ one s.served refl (count_walk e walk)
    where
      one : (b : Bool) → s.served ≡ b → count_by (serves e) walk ≡ count_by (λ t. t.edge == e) (tasks_of walk) →
          cond (serves e s) 1 0 + count_by (serves e) walk ≡ count_by (λ t. t.edge == e) (map task_of (cond b (s ∷ served_steps walk) (served_steps walk)))
      one true is rest = omega (arith, rest, busy_step e s is, sum_by-cons (λ (t : Task). cond (t.edge == e) 1 0) (task_of s) (tasks_of walk))
      one false is rest = omega (arith, rest, idle_step e s is)

  pub groups_served : (plan : List (List Step)) → ServesUpTo p groups count (plan_tours plan) → ServesGroups p groups count plan
  groups_served plan up =
      let long : length plan ≡ count = sym (length-map plan tasks_of) ∙ up.one_each in
      record {
        one_each = long;
        served = λ g e is required.
            let k : ℕ = g - 1 in
            let next : k + 1 ≡ g = omega (arith, is.from_one) in
            let below : k < length plan = omega (arith, is.from_one, is.in_range, long) in
            omega (
              arith,
              count_walk e (walk_at plan k),
              ap (count_by (λ (t : Task). t.edge == e)) (get_or-map tasks_of plan k [] [] below),
              up.each k e (omega (arith, is.from_one, is.in_range)) required,
              ap (λ h. one_if (group_of groups e == h)) next,
            );
      }
