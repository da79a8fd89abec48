-- From sequences to plans: lawful, no dearer, and settled.
use Rattle.std.proofs.Common.{◌≡◌, ◌≢◌, ℕ, zero, suc, ◌+◌, ◌-◌, ◌*◌, ◌<◌, ◌≤◌, true, false, cond, eqb, leb, List, [], ◌∷◌, ◌++◌, length, get_or, map, sum_by, refl, sym, ap, ◌∙◌, subst, inl, inr, arith, add-one}
use Rattle.std.specs.Prelude.{count_by, if◌then◌else◌}
use Rattle.std.specs.List.{AllByRecursion}
use Rattle.std.proofs.lemmas.Bool.{cases_lt, ne_eqb, le-leb}
use Rattle.std.proofs.lemmas.List.{append_assoc, get_or_at, length-append}
use Rattle.std.proofs.lemmas.List.Elements.{All-from_recursion, recursion_from_All}
use Rattle.std.proofs.lemmas.List.Sums.{sum_by-append, sum_by-cons}
use Rattle.carp_base.specs.declared.edge.Task.{Task}
use Rattle.carp_base.specs.Problem.{Problem, IsRequired, IsValid, required_cost}
use Rattle.plan_model.specs.declared.step.Step.{Step}
use Rattle.plan_model.specs.Sums.{sum_to}
use Rattle.plan_model.specs.Laws.{ServedOnceByNumber}
use Rattle.plan_model.specs.Plans.{IsLawful, plan_cost, steps_of}
use Rattle.deadhead_paths.specs.Tours.{task_of, tasks_of}
use Rattle.deadhead_paths.specs.Tidy.{served_steps}
use Rattle.task_tours.specs.Tours.{AreLawfulTours, PlanGoesByLeastPaths, all_tasks, plan_tours}
use Rattle.task_tours.specs.Laws.{JoinedPlanCosts, LawfulPlansHaveLawfulTours, LawfulToursMakeLawfulPlans, ToursCostAtLeast}
use Rattle.ruin_recreate.specs.declared.board.Board.{Board}
use Rattle.ruin_recreate.specs.Boards.{IsBoardOf, edge_of}
use Rattle.local_moves.specs.Sequences.{IsNoDearer, IsSequence, IsSequenceChange, IsSettledSequence, NoneEmpty, links_of}
use Rattle.local_moves.specs.Stops.{IsFullSequence, sequence_of, services_in, stop_of, visits}
use Rattle.local_moves.specs.Changes.{IsSettledPlan}
use Rattle.local_moves.proofs.Boarding.{fit_tours, links_tours, sequence_sum, stop_some, stop_within, tours_fit}
use Rattle.local_moves.proofs.Changing.{as_sequence_change}
use Rattle.local_moves.proofs.Sequencing.{all_append, all_left, all_right}

-- the stops of tours on required edges are stops of the board
stops_within : (p : Problem) (b : Board) → IsBoardOf p b → (tour : List Task) → AllByRecursion (λ t. IsRequired p t.edge) tour → AllByRecursion (λ x. x < b.width) (map stop_of tour)
stops_within p b of [] all = tt
stops_within p b of (t ∷ ts) all = (stop_within p b t of all.0, stops_within p b of ts all.1)

stops_real : (p : Problem) (tour : List Task) → AllByRecursion (λ t. IsRequired p t.edge) tour → AllByRecursion (λ x. x ≢ 1) (map stop_of tour)
stops_real p [] all = tt
stops_real p (t ∷ ts) all = (λ same. omega (arith, same, stop_some p t all.0), stops_real p ts all.1)

over_sequence : (p : Problem) (P : ℕ → Type 0) → P 0 → ((tour : List Task) → AllByRecursion (λ t. IsRequired p t.edge) tour → AllByRecursion P (map stop_of tour)) →
    (tours : List (List Task)) → AllByRecursion (λ t. IsRequired p t.edge) (all_tasks tours) → AllByRecursion P (sequence_of tours)
over_sequence p P home each [] all = (home, tt)
over_sequence p P home each (tour ∷ tours) all = (
  home,
  all_append P (map stop_of tour) (sequence_of tours) (each tour (all_left (λ t. IsRequired p t.edge) tour (all_tasks tours) all)) (over_sequence p P home each tours (all_right (λ t. IsRequired p t.edge) tour (all_tasks tours) all)),
)

-- a sequence ends at the depot
ends_home : (tours : List (List Task)) → (ys : List ℕ) × (sequence_of tours ≡ ys ++ (0 ∷ []))
ends_home [] = ([], refl)
ends_home (tour ∷ tours) =
    let rest = ends_home tours in
    (0 ∷ (map stop_of tour ++ rest.0), ap (λ zs. 0 ∷ (map stop_of tour ++ zs)) rest.1 ∙ ap (λ zs. 0 ∷ zs) (sym (append_assoc (map stop_of tour) rest.0 (0 ∷ []))))

pub starts_home : (tours : List (List Task)) → get_or (sequence_of tours) 0 0 ≡ 0
starts_home [] = refl
starts_home (tour ∷ tours) = refl

pub sequence_some : (tours : List (List Task)) → 1 ≤ length (sequence_of tours)
sequence_some [] = omega arith
sequence_some (tour ∷ tours) = omega arith

is_sequence : (p : Problem) (b : Board) → IsBoardOf p b → (tours : List (List Task)) → AllByRecursion (λ t. IsRequired p t.edge) (all_tasks tours) → IsSequence b (sequence_of tours)
is_sequence p b of tours all =
    let home = ends_home tours in
    let long : length home.0 ≡ length (sequence_of tours) - 1 = omega (arith, ap (length {A = ℕ}) home.1, length-append home.0 (0 ∷ [])) in
    record {
      some = sequence_some tours;
      within = All-from_recursion (λ x. x < b.width) (sequence_of tours) (over_sequence p (λ x. x < b.width) (omega (arith, of.width)) (stops_within p b of) tours all);
      real = All-from_recursion (λ x. x ≢ 1) (sequence_of tours) (over_sequence p (λ x. x ≢ 1) (λ same. omega (arith, same)) (stops_real p) tours all);
      first = starts_home tours;
      last = ap (λ zs. get_or zs (length (sequence_of tours) - 1) 0) home.1 ∙ get_or_at home.0 0 [] 0 (length (sequence_of tours) - 1) long;
    }

one_visit : (e : ℕ) (tours : List (List Task)) → 1 ≤ e → visits e (sequence_of tours) ≡ count_by (λ t. eqb t.edge e) (all_tasks tours)
one_visit e tours some = sequence_sum (λ n. cond (eqb n e) 1 0) tours (ap (λ c. cond {A = ℕ} c 1 0) (ne_eqb 0 e (λ same. omega (arith, same, some))))

-- the services of a plan, counted by its steps
walk_services : (g : ℕ → ℕ) (walk : List Step) → sum_by (λ t. g t.edge) (tasks_of walk) ≡ sum_by (λ s. if s.served then g s.edge else 0) walk
walk_services g [] = refl
walk_services g (s ∷ walk) =
    elim s.served as (λ v. sum_by (λ t. g t.edge) (map task_of (cond v (s ∷ served_steps walk) (served_steps walk))) ≡ cond v (g s.edge) 0 + sum_by (λ u. if u.served then g u.edge else 0) walk) [
      | true ↦ omega (arith, sum_by-cons (λ t. g t.edge) (task_of s) (tasks_of walk), walk_services g walk)
      | false ↦ omega (arith, walk_services g walk)
    ]
    ∙ sym (sum_by-cons (λ u. if u.served then g u.edge else 0) s walk)

plan_services : (g : ℕ → ℕ) (plan : List (List Step)) → sum_by (λ t. g t.edge) (all_tasks (plan_tours plan)) ≡ sum_by (λ s. if s.served then g s.edge else 0) (steps_of plan)
plan_services g [] = refl
plan_services g (walk ∷ plan) =
    sum_by-append (λ t. g t.edge) (tasks_of walk) (all_tasks (plan_tours plan))
    ∙ ap (λ n. n + sum_by (λ t. g t.edge) (all_tasks (plan_tours plan))) (walk_services g walk)
    ∙ ap (λ n. sum_by (λ s. if s.served then g s.edge else 0) walk + n) (plan_services g plan)
    ∙ sym (sum_by-append (λ s. if s.served then g s.edge else 0) walk (steps_of plan))

few_to : (m : ℕ) → sum_to m (λ n. cond (leb 1 n) 1 0) ≤ m
few_to zero = omega arith
few_to (suc m) = elim (leb 1 (suc m)) as (λ c. sum_to m (λ n. cond (leb 1 n) 1 0) + cond c 1 0 ≤ suc m) [ true ↦ omega (arith, few_to m) | false ↦ omega (arith, few_to m) ]

few_services : ServedOnceByNumber → (p : Problem) (plan : List (List Step)) → IsLawful p plan → services_in (sequence_of (plan_tours plan)) ≤ p.required
few_services by_number p plan lawful =
    omega (
      arith,
      sequence_sum (λ n. cond (leb 1 n) 1 0) (plan_tours plan) refl,
      plan_services (λ n. cond (leb 1 n) 1 0) plan,
      by_number p plan (λ n. cond (leb 1 n) 1 0) lawful,
      few_to p.required,
    )

-- the sequence of a lawful plan
pub full_sequence : LawfulPlansHaveLawfulTours → ServedOnceByNumber → (p : Problem) (b : Board) → IsValid p → IsBoardOf p b → (plan : List (List Step)) → IsLawful p plan → IsFullSequence p b (sequence_of (plan_tours plan))
full_sequence have by_number p b valid of plan lawful =
    let tours = plan_tours plan in
    let own = have p plan lawful in
    record {
      sequence = is_sequence p b of tours own.served.required;
      loads = tours_fit p b of tours own.served.required own.loads;
      once = λ e required. one_visit e tours required.from_one ∙ own.served.once e required;
      few = omega (arith, few_services by_number p plan lawful, valid.few_required);
    }

pub costs_at_least : LawfulPlansHaveLawfulTours → ToursCostAtLeast → (p : Problem) (b : Board) → IsValid p → IsBoardOf p b → (plan : List (List Step)) → IsLawful p plan →
    required_cost p + links_of b (sequence_of (plan_tours plan)) ≤ plan_cost p plan
costs_at_least have least p b valid of plan lawful = least p valid plan (links_of b (sequence_of (plan_tours plan))) lawful (links_tours p b of (plan_tours plan) (have p plan lawful).served.required)

-- a sequence without empty tours is short
closed_short : (xs : List ℕ) → AllByRecursion (λ x. x ≢ 1) xs → ((k : ℕ) → suc k < length xs → get_or xs k 0 ≡ 0 → get_or xs (suc k) 0 ≡ 0 → ⊥) → length xs ≤ 2 * services_in xs + 1
closed_short [] real closed = omega arith
closed_short (x ∷ []) real closed = omega arith
closed_short (zero ∷ (zero ∷ xs)) real closed = absurd (closed 0 (omega arith) refl refl)
closed_short (zero ∷ (suc y ∷ xs)) real closed =
    omega (
      arith,
      closed_short xs real.1.1 (λ k short first second. closed (suc (suc k)) (omega (arith, short)) first second),
      sum_by-cons (λ x. cond {A = ℕ} (leb 1 (edge_of x)) 1 0) 0 (suc y ∷ xs),
      sum_by-cons (λ x. cond {A = ℕ} (leb 1 (edge_of x)) 1 0) (suc y) xs,
      counted (suc y) (omega arith) real.1.0,
    )
  where
    counted : (x : ℕ) → 1 ≤ x → x ≢ 1 → cond {A = ℕ} (leb 1 (edge_of x)) 1 0 ≡ 1
    counted x some other = ap (λ c. cond {A = ℕ} c 1 0) (le-leb 1 (edge_of x) (omega (arith, some, other)))
closed_short (suc x ∷ (y ∷ xs)) real closed =
    omega (
      arith,
      closed_short (y ∷ xs) real.1 (λ k short first second. closed (suc k) (omega (arith, short)) first second),
      sum_by-cons (λ z. cond {A = ℕ} (leb 1 (edge_of z)) 1 0) (suc x) (y ∷ xs),
      ap (λ c. cond {A = ℕ} c 1 0) (le-leb 1 (edge_of (suc x)) (omega (arith, real.0))),
    )

pub still_short : (p : Problem) (b : Board) (xs ys : List ℕ) → IsFullSequence p b xs → IsNoDearer b xs ys → NoneEmpty ys → length ys ≤ 30000
still_short p b xs ys full own closed =
    omega (
      arith,
      full.few,
      own.services (λ n. cond (leb 1 n) 1 0) refl,
      closed_short ys (recursion_from_All (λ x. x ≢ 1) ys own.sequence.real) (λ k short first second. closed k (omega (arith, short)) first (rw add-one second)),
    )

-- the tours of a sequence without the costs
pub lawful_tours : (p : Problem) (b : Board) → IsBoardOf p b → (xs : List ℕ) (tours : List (List Task)) → IsFullSequence p b xs → IsNoDearer b xs (sequence_of tours) →
    AllByRecursion (λ t. IsRequired p t.edge) (all_tasks tours) → AreLawfulTours p tours
lawful_tours p b of xs tours full own all = record {
  served = record {
    required = all;
    once = λ e required.
        sym (one_visit e tours required.from_one)
        ∙ own.services (λ n. cond (eqb n e) 1 0) (ap (λ c. cond {A = ℕ} c 1 0) (ne_eqb 0 e (λ same. omega (arith, same, required.from_one))))
        ∙ full.once e required;
  };
  loads = fit_tours p b of tours all own.loads;
}

-- the laws of plans and tours
pub record Known : Type 0 where
  pub lawful : LawfulToursMakeLawfulPlans
  pub tours : LawfulPlansHaveLawfulTours
  pub cost : JoinedPlanCosts
  pub least : ToursCostAtLeast

-- what came of a sequence
pub record IsMade (p : Problem) (b : Board) (xs ys : List ℕ) (plan : List (List Step)) : Type 0 where
  pub full : IsFullSequence p b xs
  pub own : IsNoDearer b xs ys
  pub tours : sequence_of (plan_tours plan) ≡ ys
  pub paths : PlanGoesByLeastPaths p plan
  pub required : AllByRecursion (λ t. IsRequired p t.edge) (all_tasks (plan_tours plan))

pub made_lawful : Known → (p : Problem) (b : Board) → IsValid p → IsBoardOf p b → (xs ys : List ℕ) (plan : List (List Step)) → IsMade p b xs ys plan → IsLawful p plan
made_lawful known p b valid of xs ys plan made =
    known.lawful p valid plan made.paths (lawful_tours p b of xs (plan_tours plan) made.full (subst (λ zs. IsNoDearer b xs zs) (sym made.tours) made.own) made.required)

made_costs : Known → (p : Problem) (b : Board) → IsValid p → IsBoardOf p b → (xs ys : List ℕ) (plan : List (List Step)) → IsMade p b xs ys plan → plan_cost p plan ≡ required_cost p + links_of b ys
made_costs known p b valid of xs ys plan made =
    known.cost p valid plan (links_of b (sequence_of (plan_tours plan))) (made_lawful known p b valid of xs ys plan made) made.paths (links_tours p b of (plan_tours plan) made.required)
    ∙ ap (λ zs. required_cost p + links_of b zs) made.tours

pub made_no_dearer : Known → (p : Problem) (b : Board) → IsValid p → IsBoardOf p b → (xs ys : List ℕ) (plan : List (List Step)) → IsMade p b xs ys plan → plan_cost p plan ≤ required_cost p + links_of b xs
made_no_dearer known p b valid of xs ys plan made = omega (arith, made_costs known p b valid of xs ys plan made, made.own.cost)

pub made_settled : Known → (p : Problem) (b : Board) → IsValid p → IsBoardOf p b → (xs ys : List ℕ) (plan : List (List Step)) → IsMade p b xs ys plan → IsSettledSequence b ys → IsSettledPlan p plan
made_settled known p b valid of xs ys plan made settled other lawful change =
    let tours = plan_tours other in
    let own = known.tours p other lawful in
    let sequence_change = subst (λ zs. IsSequenceChange b zs (sequence_of tours)) made.tours (as_sequence_change p b of (plan_tours plan) tours made.required change) in
    let most = costs_at_least known.tours known.least p b valid of other lawful in
    let exact = made_costs known p b valid of xs ys plan made in
    elim (cases_lt (links_of b (sequence_of tours)) (links_of b ys)) [
      | inl fewer ↦ absurd (settled (sequence_of tours) sequence_change (record { loads = tours_fit p b of tours own.served.required own.loads; cheaper = fewer }))
      | inr more ↦ omega (arith, more, most, exact)
    ]
