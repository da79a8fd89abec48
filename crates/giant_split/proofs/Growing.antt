-- A plan that grows by the tours of a cut order.
use Rattle.std.proofs.Common.{◌≡◌, ◌≢◌, ℕ, zero, suc, ◌+◌, ◌-◌, ◌≤◌, List, [], ◌∷◌, ◌++◌, length, take, drop, refl, sym, ap, ◌∙◌, subst, arith}
use Rattle.std.specs.Prelude.{slice_index, slice_range}
use Rattle.std.specs.List.{AllByRecursion}
use Rattle.std.proofs.Math.Seq.{take-add}
use Rattle.std.proofs.lemmas.List.{flat_map_more, length-drop, length-map, length-take-le, length_push, take_all}
use Rattle.std.proofs.lemmas.List.Sums.{sum_by-cons}
use Rattle.carp_base.specs.declared.edge.Task.{Task}
use Rattle.carp_base.specs.Problem.{Problem, IsRequired, IsValid, edge_at}
use Rattle.plan_model.specs.declared.step.Step.{Step}
use Rattle.plan_model.specs.Plans.{IsLawful}
use Rattle.deadhead_paths.specs.Prices.{costs_of, price_of}
use Rattle.deadhead_paths.specs.Tours.{LeastDeadhead, tasks_of}
use Rattle.task_tours.specs.Laws.{JoinedPlanCosts, LawfulPlansHaveLawfulTours, LawfulToursMakeLawfulPlans, ToursCostAtLeast, ToursDeadheadIsThere}
use Rattle.task_tours.specs.Tours.{AreServedOnce, PlanGoesByLeastPaths, ToursDeadhead, all_tasks, plan_tours, tour_load}
use Rattle.giant_split.specs.Cuts.{IsCutOrder, IsSplitTo, IsTourAt}
use Rattle.giant_split.specs.Splits.{IsSplit}

pub all_more : {X : Type 0} (P : X → Type 0) (xs : List X) (x : X) → AllByRecursion P xs → P x → AllByRecursion P (xs ++ x ∷ [])
all_more P [] x all one = (one, tt)
all_more P (y ∷ xs) x all one = (all.0, all_more P xs x all.1 one)

pub all_taken : {X : Type 0} (P : X → Type 0) (n : ℕ) (xs : List X) → AllByRecursion P xs → AllByRecursion P (take n xs)
all_taken P zero xs all = tt
all_taken P (suc n) [] all = tt
all_taken P (suc n) (x ∷ xs) all = (all.0, all_taken P n xs all.1)

pub all_dropped : {X : Type 0} (P : X → Type 0) (n : ℕ) (xs : List X) → AllByRecursion P xs → AllByRecursion P (drop n xs)
all_dropped P zero xs all = all
all_dropped P (suc n) [] all = tt
all_dropped P (suc n) (x ∷ xs) all = all_dropped P n xs all.1

module _ (p : Problem) (q : ℕ → ℕ) where
  deadhead_more : (tours : List (List Task)) (tour : List Task) (m n : ℕ) → ToursDeadhead p q tours m → LeastDeadhead p q p.depot tour p.depot n → ToursDeadhead p q (tours ++ tour ∷ []) (m + n)
  deadhead_more [] tour m n all one = (n, 0, one, refl, omega (arith, all))
  deadhead_more (first ∷ tours) tour m n all one = (all.0, all.1 + n, all.2, deadhead_more tours tour all.1 n all.3 one, omega (arith, all.4))

module _ (p : Problem) (order : List Task) (costs lasts : List ℕ) where
  -- the tour at a place has a task
  tour_serves : (from : ℕ) → IsTourAt p order costs lasts from → length (slice_range order from (slice_index lasts from + 1)) ≡ slice_index lasts from + 1 - from
  tour_serves from there =
      length-take-le (slice_index lasts from + 1 - from) (drop from order) (omega (arith, length-drop from order, there.within))

  pub split_more : (from end : ℕ) (plan longer : List (List Step)) → IsSplitTo p order costs from plan → IsTourAt p order costs lasts from → end ≡ slice_index lasts from + 1 →
      plan_tours longer ≡ plan_tours plan ++ slice_range order from (slice_index lasts from + 1) ∷ [] → (PlanGoesByLeastPaths p plan → PlanGoesByLeastPaths p longer) → IsSplitTo p order costs end longer
  split_more from end plan longer so_far there is added paths =
      let last = slice_index lasts from in
      let tour : List Task = slice_range order from (last + 1) in
      let count : from + (last + 1 - from) ≡ last + 1 = omega (arith, there.later) in
      let joined : all_tasks (plan_tours longer) ≡ take (last + 1) order =
      ap all_tasks added ∙ sym (flat_map_more (λ ts. ts) [] (plan_tours plan) tour) ∙ ap (λ ts. ts ++ tour) so_far.in_order ∙ sym (take-add from (last + 1 - from) order) ∙ ap (λ k. take k order) count in
      rw is record {
        within = omega (arith, there.within);
        few = omega (arith, so_far.few, there.later, length-map longer tasks_of, length-map plan tasks_of, ap (length {A = List Task}) added, length_push (plan_tours plan) tour);
        in_order = joined;
        each_serves = rw added (all_more (λ ts. ts ≢ []) (plan_tours plan) tour so_far.each_serves (λ none. omega (arith, ap (length {A = Task}) none, tour_serves from there, there.later)));
        loads = rw added (all_more (λ ts. tour_load p ts ≤ p.capacity) (plan_tours plan) tour so_far.loads there.load);
        paths = paths so_far.paths;
        deadhead = so_far.deadhead + there.deadhead;
        least = rw added (deadhead_more p (price_of (costs_of p)) (plan_tours plan) tour so_far.deadhead there.deadhead so_far.least there.least);
        cost = omega (arith, so_far.cost, there.cost);
      }

  -- a tour has no more tasks than load
  short_tour : IsValid p → (tour : List Task) → AllByRecursion (λ t. IsRequired p t.edge) tour → length tour ≤ tour_load p tour
  short_tour valid [] required = omega arith
  short_tour valid (t ∷ tour) required =
      omega (arith, sum_by-cons (λ (u : Task). (edge_at p u.edge).demand) t tour, (valid.tasks t.edge required.0).some_demand, short_tour valid tour required.1)

  pub few_in_tour : IsValid p → AllByRecursion (λ t. IsRequired p t.edge) order → (from : ℕ) → IsTourAt p order costs lasts from → length (slice_range order from (slice_index lasts from + 1)) ≤ 30000
  few_in_tour valid required from there =
      let last = slice_index lasts from in
      let own = all_taken (λ t. IsRequired p t.edge) (last + 1 - from) (drop from order) (all_dropped (λ t. IsRequired p t.edge) from order required) in
      omega (arith, short_tour valid (slice_range order from (last + 1)) own, there.load, valid.capacity_in)

  module _ (valid : IsValid p) (lawful : LawfulToursMakeLawfulPlans) (tours : LawfulPlansHaveLawfulTours) (cost : JoinedPlanCosts) (least : ToursCostAtLeast) (there : ToursDeadheadIsThere) where
    pub split_whole : AreServedOnce p order → IsCutOrder p order costs lasts → (from : ℕ) (plan : List (List Step)) → IsSplitTo p order costs from plan → length order ≤ from → IsSplit p order plan
    split_whole served cut from plan so_far past =
        let all : from ≡ length order = omega (arith, so_far.within, past) in
        let joined : all_tasks (plan_tours plan) ≡ order = so_far.in_order ∙ take_all from order past in
        let own : IsLawful p plan = lawful p valid plan so_far.paths (record { served = subst (AreServedOnce p) (sym joined) served; loads = so_far.loads }) in
        record {
          lawful = own;
          in_order = joined;
          each_serves = so_far.each_serves;
          paths = so_far.paths;
          cheapest = λ other fine same.
              let theirs = tours p other fine in
              let dead = there p valid (price_of (costs_of p)) (plan_tours other) theirs.served.required in
              omega (
                arith,
                cost p valid plan so_far.deadhead own so_far.paths so_far.least,
                least p valid other dead.0 fine dead.1,
                cut.least (plan_tours other) dead.0 same theirs.loads dead.1,
                so_far.cost,
                ap (slice_index costs) all,
                cut.at_end,
              );
        }
