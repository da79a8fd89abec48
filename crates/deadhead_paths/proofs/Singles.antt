-- A way out, a service and a way home serve one edge alone; such tours, one for each required edge, are a lawful plan.
use Rattle.std.proofs.Common.{◌≡◌, ℕ, ◌+◌, ◌-◌, ◌<◌, ◌≤◌, ◌==◌, Bool, true, false, List, [], ◌∷◌, ◌++◌, refl, sym, ◌∙◌, ap, subst, arith, length, cond, inl, inr, append-nil, length-append}
use Rattle.std.specs.Prelude.{IsTrue, if◌then◌else◌}
use Rattle.std.specs.List.{sum_by, count_by, AllByRecursion}
use Rattle.std.proofs.lemmas.List.Sums.{sum_by-cons, sum_by-append}
use Rattle.std.proofs.lemmas.Grind.{flat_map-append}
use Rattle.std.proofs.lemmas.List.Concat.{flat_map-cons}
use Rattle.std.proofs.lemmas.Bool.{cases_eq, cases_lt, eq-eqb, ne_eqb}
use Rattle.std.proofs.lemmas.List.{get_or_append_left, get_or-append_right, append_assoc}
use Rattle.carp_base.specs.Problem.{Problem, IsValid, IsRequired, IsEdgeNumber, edge_at, tail_of, head_of}
use Rattle.plan_model.specs.Plans.{Leads, IsWalk, IsLawful, IsLawfulWalk, serves, services_of, steps_of, step_load, walk_load, walk_at}
use Rattle.plan_model.specs.declared.step.Step.{Step}
use Rattle.deadhead_paths.specs.Prices.{Priced, AddsPath, NoneServed, IsLeastPath, price_of, costs_of}
use Rattle.deadhead_paths.proofs.Joining.{Leads-append}
use Rattle.deadhead_paths.proofs.Plans.{AllByRecursion-append}
use Rattle.deadhead_paths.specs.Join.{AddsService}
use Rattle.deadhead_paths.specs.Singles.{service_of, IsLeastTour, AreLeastTours}

-- what counts served steps alone is 0 where none is served
nothing_served : (f : Step → ℕ) → ((s : Step) → s.served ≡ false → f s ≡ 0) → (steps : List Step) → NoneServed steps → sum_by f steps ≡ 0
nothing_served f zero_of [] none = refl
nothing_served f zero_of (s ∷ steps) none = omega (arith, sum_by-cons f s steps, zero_of s none.0, nothing_served f zero_of steps none.1)

-- so over a way out, a service and a way home it is what the service gives
one_served : (f : Step → ℕ) → ((s : Step) → s.served ≡ false → f s ≡ 0) → (out home : List Step) (s : Step) → NoneServed out → NoneServed home →
    sum_by f ((out ++ s ∷ []) ++ home) ≡ f s
one_served f zero_of out home s none_out none_home =
    omega (
      arith,
      sum_by-append f (out ++ s ∷ []) home,
      sum_by-append f out (s ∷ []),
      sum_by-cons f s [],
      nothing_served f zero_of out none_out,
      nothing_served f zero_of home none_home,
    )

none_serves : (p : Problem) (steps : List Step) → NoneServed steps → AllByRecursion (λ s. IsTrue s.served → IsRequired p s.edge) steps
none_serves p [] none = tt
none_serves p (s ∷ steps) none = ((λ served. absurd (let both : true ≡ false = sym served ∙ none.0 in cc)), none_serves p steps none.1)

-- a walk that serves the edge once, and nothing else
pub record ServesAlone (p : Problem) (e : ℕ) (walk : List Step) : Type 0 where
  pub leads : IsWalk p walk
  pub serves_required : AllByRecursion (λ s. IsTrue s.served → IsRequired p s.edge) walk
  pub services : (f : ℕ) → count_by (serves f) walk ≡ (if e == f then 1 else 0)
  pub load : walk_load p walk ≡ (edge_at p e).demand

serves_alone : (p : Problem) (e : ℕ) (out home : List Step) → IsRequired p e → IsEdgeNumber p e →
    Leads p p.depot out (edge_at p e).u → NoneServed out → Leads p (edge_at p e).v home p.depot → NoneServed home → ServesAlone p e (out ++ service_of e ∷ home)
serves_alone p e out home required number out_leads none_out home_leads none_home =
    subst (ServesAlone p e) (append_assoc out (service_of e ∷ []) home) record {
      leads =
          Leads-append p p.depot (out ++ service_of e ∷ []) home (edge_at p e).v p.depot
          (Leads-append p p.depot out (service_of e ∷ []) (edge_at p e).u (edge_at p e).v out_leads (number, refl, refl)) home_leads;
      serves_required =
          AllByRecursion-append _ (out ++ service_of e ∷ []) home
          (AllByRecursion-append _ out (service_of e ∷ []) (none_serves p out none_out) ((λ _. required), tt)) (none_serves p home none_home);
      services = λ f. one_served (λ s. cond (serves f s) 1 0) (λ s idle. rw idle refl) out home (service_of e) none_out none_home;
      load = one_served (step_load p) (λ s idle. rw idle refl) out home (service_of e) none_out none_home;
    }

least_alone : (p : Problem) (e : ℕ) (walk : List Step) → IsValid p → IsRequired p e → IsLeastTour p e walk → ServesAlone p e walk
least_alone p e walk valid required tour =
    let number : IsEdgeNumber p e = record { from_one = required.from_one; in_range = omega (arith, required.in_range, valid.required_in) } in
    let out = tour.2.deadheads in
    let home = tour.4.deadheads in
    subst (ServesAlone p e) (sym tour.3) (serves_alone p e tour.0 tour.1 required number out.leads out.unserved home.leads home.unserved)

lawful_walk : (p : Problem) (e : ℕ) (walk : List Step) → IsValid p → IsRequired p e → ServesAlone p e walk → IsLawfulWalk p walk
lawful_walk p e walk valid required alone = record {
  leads = alone.leads;
  serves_required = alone.serves_required;
  load = let fits = (valid.tasks e required).demand_fits in omega (arith, alone.load, fits);
}

-- least paths by other names of the same
least_as : (p q : Problem) (costs prices : List ℕ) (a b from to : ℕ) (steps : List Step) → q ≡ p → prices ≡ costs → from ≡ a → to ≡ b →
    IsLeastPath q (price_of prices) from to steps → IsLeastPath p (price_of costs) a b steps
least_as p q costs prices a b from to steps same_problem same_prices same_from same_to least = rw (← same_problem, ← same_prices, ← same_from, ← same_to) least

-- a way out, the service and a way home, added one after another
pub tour_done : (p : Problem) (x : Priced) → x.problem ≡ p → x.prices ≡ costs_of p → (e depot end : ℕ) → depot ≡ p.depot → end ≡ head_of (edge_at p e) true → (served walk : List Step) →
    AddsService x depot (tail_of (edge_at p e) true) (service_of e) [] served → AddsPath x end depot served walk → IsLeastTour p e walk
tour_done p x problem prices e depot end depot_is end_is served walk out home = (
  out.path.path,
  home.path,
  least_as p x.problem (costs_of p) x.prices p.depot (tail_of (edge_at p e) true) depot (tail_of (edge_at p e) true) out.path.path problem prices depot_is refl out.path.least,
  home.added ∙ ap (λ xs. xs ++ home.path) (out.added ∙ ap (λ xs. xs ++ service_of e ∷ []) out.path.added) ∙ append_assoc out.path.path (service_of e ∷ []) home.path,
  least_as p x.problem (costs_of p) x.prices (head_of (edge_at p e) true) p.depot end depot home.path problem prices end_is depot_is home.least,
)

-- the tours of the required edges below e
pub record AreSingles (p : Problem) (e : ℕ) (plan : List (List Step)) : Type 0 where
  pub walks : AllByRecursion (IsLawfulWalk p) plan
  pub done : (f : ℕ) → 1 ≤ f → f < e → services_of f plan ≡ 1
  pub open_yet : (f : ℕ) → e ≤ f → services_of f plan ≡ 0
  pub tours : (f : ℕ) → 1 ≤ f → f < e → IsLeastTour p f (walk_at plan (f - 1))
  pub long : length plan + 1 ≡ e

pub no_singles : (p : Problem) → AreSingles p 1 []
no_singles p = record { walks = tt; done = λ f one below. absurd (omega arith); open_yet = λ f above. refl; tours = λ f one below. absurd (omega arith); long = refl }

abbrev bit : Bool → ℕ
bit b = if b then 1 else 0

test_true : (e f : ℕ) → e ≡ f → bit (e == f) ≡ 1
test_true e f same = rw (eq-eqb e f same) refl

test_false : (e f : ℕ) → (e ≡ f → ⊥) → bit (e == f) ≡ 0
test_false e f other = rw (ne_eqb e f other) refl

services_push : (f : ℕ) (plan : List (List Step)) (walk : List Step) → services_of f (plan ++ walk ∷ []) ≡ services_of f plan + count_by (serves f) walk
services_push f plan walk =
    let one : ℕ → Step → ℕ = λ e s. cond (serves e s) 1 0 in
    ap (sum_by (one f)) (flat_map-append (λ w. w) plan (walk ∷ []) ∙ ap (λ steps. steps_of plan ++ steps) (flat_map-cons (λ w. w) walk [] ∙ append-nil walk))
    ∙ sum_by-append (one f) (steps_of plan) walk

pub more_singles : (p : Problem) (e : ℕ) (plan : List (List Step)) (walk : List Step) → IsValid p → IsRequired p e → AreSingles p e plan → IsLeastTour p e walk →
    AreSingles p (e + 1) (plan ++ walk ∷ [])
more_singles p e plan walk valid required singles tour =
    let alone = least_alone p e walk valid required tour in
    record {
      walks = AllByRecursion-append _ plan (walk ∷ []) singles.walks (lawful_walk p e walk valid required alone, tt);
      done = λ f one below. elim (cases_eq e f) [
        | inl same ↦ omega (arith, services_push f plan walk, alone.services f, singles.open_yet f (omega arith), test_true e f same)
        | inr other ↦ omega (arith, services_push f plan walk, alone.services f, singles.done f one (omega arith), test_false e f other)
      ];
      open_yet = λ f above.
          omega (arith, services_push f plan walk, alone.services f, singles.open_yet f (omega arith), test_false e f (λ same. omega arith));
      tours = λ f one below. elim (cases_lt f e) [
        | inl earlier ↦ subst (IsLeastTour p f) (sym (get_or_append_left plan (walk ∷ []) [] (f - 1) (omega (arith, singles.long, one)))) (singles.tours f one earlier)
        | inr last ↦
            let same : f ≡ e = omega arith in
            let there : walk_at (plan ++ walk ∷ []) (f - 1) ≡ walk =
            get_or-append_right plan (walk ∷ []) (length plan) (f - 1) [] refl (omega (arith, singles.long, same))
            ∙ ap (λ k. walk_at (walk ∷ []) k) (let zero : (f - 1) - length plan ≡ 0 = omega (arith, singles.long, same) in zero) in
            subst (IsLeastTour p f) (sym there) (subst (λ n. IsLeastTour p n walk) (sym same) tour)
      ];
      long = omega (arith, length-append plan (walk ∷ []), singles.long);
    }

pub least_tours : (p : Problem) (e : ℕ) (plan : List (List Step)) → e ≡ p.required + 1 → AreSingles p e plan → AreLeastTours p plan
least_tours p e plan last singles = record {
  one_each = omega (arith, singles.long, last);
  tours = λ f required. singles.tours f required.from_one (let below = required.in_range in omega (arith, below, last));
}

pub lawful_singles : (p : Problem) (e : ℕ) (plan : List (List Step)) → e ≡ p.required + 1 → AreSingles p e plan → IsLawful p plan
lawful_singles p e plan last singles =
    record { walks = singles.walks; once = λ f required. singles.done f required.from_one (let below = required.in_range in omega (arith, below, last)) }
