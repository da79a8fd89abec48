-- Sequences that grow and are cut, tour by tour.
use Rattle.std.proofs.Common.{◌≡◌, ◌≢◌, ℕ, ◌+◌, ◌-◌, ◌*◌, ◌/◌, ◌%◌, ◌<◌, ◌≤◌, eqb, List, [], ◌∷◌, ◌++◌, length, get_or, map, take, refl, sym, ap, ◌∙◌, subst, arith}
use Rattle.std.specs.List.{AllByRecursion}
use Rattle.std.proofs.lemmas.Bool.Decides.{nat_tests}
use Rattle.std.proofs.lemmas.List.{append_assoc, append-nil, map-append, take_more, get_or-append-add, length-append, length-map}
use Rattle.carp_base.specs.declared.edge.Task.{Task}
use Rattle.carp_base.specs.Problem.{Problem, IsRequired}
use Rattle.plan_model.specs.declared.step.Step.{Step}
use Rattle.deadhead_paths.specs.Tours.{tasks_of}
use Rattle.task_tours.specs.Tours.{all_tasks, plan_tours}
use Rattle.local_moves.specs.Stops.{IsCut, sequence_of, stop_of}

pub all_append : {X : Type 0} (P : X → Type 0) (xs ys : List X) → AllByRecursion P xs → AllByRecursion P ys → AllByRecursion P (xs ++ ys)
all_append P [] ys first second = second
all_append P (x ∷ xs) ys first second = (first.0, all_append P xs ys first.1 second)

pub all_left : {X : Type 0} (P : X → Type 0) (xs ys : List X) → AllByRecursion P (xs ++ ys) → AllByRecursion P xs
all_left P [] ys all = tt
all_left P (x ∷ xs) ys all = (all.0, all_left P xs ys all.1)

pub all_right : {X : Type 0} (P : X → Type 0) (xs ys : List X) → AllByRecursion P (xs ++ ys) → AllByRecursion P ys
all_right P [] ys all = all
all_right P (x ∷ xs) ys all = all_right P xs ys all.1

pub tasks_push : (tours : List (List Task)) (tour : List Task) → all_tasks (tours ++ (tour ∷ [])) ≡ all_tasks tours ++ tour
tasks_push [] tour = append-nil tour
tasks_push (first ∷ tours) tour = ap (λ ts. first ++ ts) (tasks_push tours tour) ∙ sym (append_assoc first (all_tasks tours) tour)

pub sequence_push : (tours : List (List Task)) (tour : List Task) → sequence_of (tours ++ (tour ∷ [])) ≡ (sequence_of tours ++ map stop_of tour) ++ (0 ∷ [])
sequence_push [] tour = refl
sequence_push (first ∷ tours) tour =
    ap (λ xs. 0 ∷ (map stop_of first ++ xs)) (sequence_push tours tour)
    ∙ ap (λ xs. 0 ∷ xs) (sym (append_assoc (map stop_of first) (sequence_of tours ++ map stop_of tour) (0 ∷ [])) ∙ ap (λ xs. xs ++ (0 ∷ [])) (sym (append_assoc (map stop_of first) (sequence_of tours) (map stop_of tour))))

-- one walk more of a plan
pub plan_more : (plan : List (List Step)) (i : ℕ) → i < length plan → sequence_of (plan_tours (take (i + 1) plan)) ≡ (sequence_of (plan_tours (take i plan)) ++ map stop_of (tasks_of (get_or plan i []))) ++ (0 ∷ [])
plan_more plan i short =
    ap (λ ws. sequence_of (plan_tours ws)) (take_more plan i [] short)
    ∙ ap sequence_of (map-append tasks_of (take i plan) (get_or plan i [] ∷ []))
    ∙ sequence_push (plan_tours (take i plan)) (tasks_of (get_or plan i []))

-- a tour ends, or goes on
pub tour_ends : (xs : List ℕ) (i : ℕ) (tours more : List (List Task)) (tour : List Task) → i < length xs → get_or xs i 0 ≡ 0 → more ≡ tours ++ (tour ∷ []) →
    sequence_of tours ++ map stop_of tour ≡ take i xs → sequence_of more ≡ take (i + 1) xs
tour_ends xs i tours more tour short is grown done =
    ap sequence_of grown ∙ sequence_push tours tour ∙ ap (λ ys. ys ++ (0 ∷ [])) done ∙ ap (λ x. take i xs ++ (x ∷ [])) (sym is) ∙ sym (take_more xs i 0 short)

pub tour_goes_on : (xs : List ℕ) (i : ℕ) (tours : List (List Task)) (tour more : List Task) (t : Task) → i < length xs → stop_of t ≡ get_or xs i 0 → more ≡ tour ++ (t ∷ []) →
    sequence_of tours ++ map stop_of tour ≡ take i xs → sequence_of tours ++ map stop_of more ≡ take (i + 1) xs
tour_goes_on xs i tours tour more t short is grown done =
    ap (λ ts. sequence_of tours ++ map stop_of ts) grown
    ∙ ap (λ ys. sequence_of tours ++ ys) (map-append stop_of tour (t ∷ []))
    ∙ sym (append_assoc (sequence_of tours) (map stop_of tour) (stop_of t ∷ []))
    ∙ ap (λ ys. ys ++ (stop_of t ∷ [])) done
    ∙ ap (λ x. take i xs ++ (x ∷ [])) is
    ∙ sym (take_more xs i 0 short)

last_serves : (p : Problem) (t : Task) (ts : List Task) → AllByRecursion (λ u. IsRequired p u.edge) (t ∷ ts) → 2 ≤ get_or (map stop_of (t ∷ ts)) (length ts) 0
last_serves p t [] all = omega (arith, all.0)
last_serves p t (u ∷ ts) all = last_serves p u ts all.1

-- at the end no tour is open
pub none_open : (p : Problem) (ys xs : List ℕ) (tour : List Task) → ys ++ map stop_of tour ≡ xs → get_or xs (length xs - 1) 0 ≡ 0 → AllByRecursion (λ u. IsRequired p u.edge) tour → ys ≡ xs
none_open p ys xs [] is last all = sym (append-nil ys) ∙ is
none_open p ys xs (t ∷ ts) is last all =
    let place : length xs - 1 ≡ length ys + length ts = omega (arith, ap (length {A = ℕ}) is, length-append ys (map stop_of (t ∷ ts)), length-map ts stop_of) in
    let zero_there : get_or (map stop_of (t ∷ ts)) (length ts) 0 ≡ 0 =
    sym (get_or-append-add ys (map stop_of (t ∷ ts)) (length ts) 0) ∙ ap (λ zs. get_or zs (length ys + length ts) 0) is ∙ ap (λ i. get_or xs i 0) (sym place) ∙ last in
    absurd (omega (arith, zero_there, last_serves p t ts all))

pub cut_here : (p : Problem) (xs : List ℕ) (i : ℕ) (tours more : List (List Task)) (tour : List Task) → i < length xs → get_or xs i 0 ≡ 0 → more ≡ tours ++ (tour ∷ []) →
    IsCut p xs i tours tour → IsCut p xs (i + 1) more []
cut_here p xs i tours more tour short is grown own = record {
  done = append-nil (sequence_of more) ∙ tour_ends xs i tours more tour short is grown own.done;
  required = subst (λ ts. AllByRecursion (λ t. IsRequired p t.edge) ts) (sym (ap all_tasks grown ∙ tasks_push tours tour)) (all_append (λ t. IsRequired p t.edge) (all_tasks tours) tour own.required own.tour_required);
  tour_required = tt;
  few_tours = omega (arith, ap (length {A = List Task}) grown, length-append tours (tour ∷ []), own.few_tours);
  few_tasks = omega arith;
}

pub go_on : (p : Problem) (xs : List ℕ) (i : ℕ) (tours : List (List Task)) (tour more : List Task) (t : Task) → i < length xs → stop_of t ≡ get_or xs i 0 → IsRequired p t.edge → more ≡ tour ++ (t ∷ []) →
    IsCut p xs i tours tour → IsCut p xs (i + 1) tours more
go_on p xs i tours tour more t short is required grown own = record {
  done = tour_goes_on xs i tours tour more t short is grown own.done;
  required = own.required;
  tour_required = subst (λ ts. AllByRecursion (λ u. IsRequired p u.edge) ts) (sym grown) (all_append (λ u. IsRequired p u.edge) tour (t ∷ []) own.tour_required (required, tt));
  few_tours = omega (arith, own.few_tours);
  few_tasks = omega (arith, ap (length {A = Task}) grown, length-append tour (t ∷ []), own.few_tasks);
}

-- a stop is that of its task
pub task_again : (x : ℕ) → stop_of (record { edge = x / 2; forward = eqb (x % 2) 0 }) ≡ x
task_again x = grind (arith, nat_tests)

pub stop_required : (p : Problem) (x : ℕ) → x ≢ 0 → x ≢ 1 → x < 2 * p.required + 2 → IsRequired p (x / 2)
stop_required p x some real within = record { from_one = omega (arith, some, real); in_range = omega (arith, within) }
