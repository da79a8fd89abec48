-- Walks that go by least paths over services.
use Rattle.std.proofs.Common.{◌≡◌, ℕ, ◌+◌, ◌<◌, ◌≤◌, cond, List, [], ◌∷◌, ◌++◌, length, map, refl, sym, ap, ◌∙◌, subst, append_assoc, take, get_or}
use Rattle.std.specs.List.{AllByRecursion}
use Rattle.std.proofs.lemmas.List.{take_more, take_all, map-append}
use Rattle.std.proofs.lemmas.List.Elements.{filter-append}
use Rattle.carp_base.specs.declared.edge.Task.{Task}
use Rattle.carp_base.specs.Problem.{Problem, IsEdgeNumber, edge_at, tail_of, head_of}
use Rattle.plan_model.specs.declared.step.Step.{Step}
use Rattle.plan_model.specs.Plans.{Leads}
use Rattle.deadhead_paths.specs.Prices.{Priced, AddsPath, NoneServed, IsLeastPath, edge_price, price_of, costs_of}
use Rattle.deadhead_paths.specs.Tidy.{GoByLeastPaths, served_steps}
use Rattle.deadhead_paths.specs.Tours.{task_of, tasks_of}
use Rattle.task_tours.specs.Joining.{GoesThrough, service_step, service_steps}
use Rattle.task_tours.specs.Tours.{JoinsTasks}

-- one service more
pub goes_more : (p : Problem) (services steps path : List Step) (a b : ℕ) (s : Step) → GoesThrough p services a b steps → IsLeastPath p (price_of (costs_of p)) b (tail_of (edge_at p s.edge) s.forward) path →
    GoesThrough p (services ++ s ∷ []) a (head_of (edge_at p s.edge) s.forward) (steps ++ (path ++ s ∷ []))
goes_more p [] steps path a b s goes least =
    (path, [], subst (λ v. IsLeastPath p (price_of (costs_of p)) v (tail_of (edge_at p s.edge) s.forward) path) (sym goes.0) least, ap (λ xs. xs ++ (path ++ s ∷ [])) goes.1, (refl, refl))
goes_more p (u ∷ services) steps path a b s goes least = (
  goes.0,
  goes.1 ++ (path ++ s ∷ []),
  goes.2,
  ap (λ xs. xs ++ (path ++ s ∷ [])) goes.3 ∙ append_assoc goes.0 (u ∷ goes.1) (path ++ s ∷ []),
  goes_more p services goes.1 path (head_of (edge_at p u.edge) u.forward) b s goes.4 least,
)

-- and the way home
pub goes_home : (p : Problem) (services steps path : List Step) (a b c : ℕ) → GoesThrough p services a b steps → IsLeastPath p (price_of (costs_of p)) b c path → GoByLeastPaths p services a c (steps ++ path)
goes_home p [] steps path a b c goes least =
    subst (IsLeastPath p (price_of (costs_of p)) a c) (ap (λ xs. xs ++ path) (sym goes.1)) (subst (λ v. IsLeastPath p (price_of (costs_of p)) v c path) (sym goes.0) least)
goes_home p (u ∷ services) steps path a b c goes least = (
  goes.0,
  goes.1 ++ path,
  goes.2,
  ap (λ xs. xs ++ path) goes.3 ∙ append_assoc goes.0 (u ∷ goes.1) path,
  goes_home p services goes.1 path (head_of (edge_at p u.edge) u.forward) b c goes.4 least,
)

none_of : (steps : List Step) → NoneServed steps → served_steps steps ≡ []
none_of [] none = refl
none_of (s ∷ steps) none = ap (λ b. cond b (s ∷ served_steps steps) (served_steps steps)) none.0 ∙ none_of steps none.1

-- its services are just these
pub goes_served : (p : Problem) (tasks : List Task) (steps : List Step) (a b : ℕ) → GoByLeastPaths p (service_steps tasks) a b steps → served_steps steps ≡ service_steps tasks
goes_served p [] steps a b least = none_of steps least.deadheads.unserved
goes_served p (t ∷ tasks) steps a b goes =
    ap served_steps goes.3 ∙ filter-append (λ s. s.served) goes.0 (service_step t ∷ goes.1)
    ∙ ap (λ xs. xs ++ served_steps (service_step t ∷ goes.1)) (none_of goes.0 goes.2.deadheads.unserved)
    ∙ ap (λ xs. service_step t ∷ xs) (goes_served p tasks goes.1 (head_of (edge_at p t.edge) t.forward) b goes.4)

tasks_again : (tasks : List Task) → map task_of (service_steps tasks) ≡ tasks
tasks_again [] = refl
tasks_again (t ∷ tasks) = ap (λ ts. t ∷ ts) (tasks_again tasks)

pub goes_tasks : (p : Problem) (tasks : List Task) (steps : List Step) (a b : ℕ) → GoByLeastPaths p (service_steps tasks) a b steps → tasks_of steps ≡ tasks
goes_tasks p tasks steps a b goes = ap (map task_of) (goes_served p tasks steps a b goes) ∙ tasks_again tasks

leads_append : (p : Problem) (a b c : ℕ) (xs ys : List Step) → Leads p a xs b → Leads p b ys c → Leads p a (xs ++ ys) c
leads_append p a b c [] ys first second = subst (λ v. Leads p v ys c) (sym first) second
leads_append p a b c (s ∷ xs) ys first second = (first.0, first.1, leads_append p (head_of (edge_at p s.edge) s.forward) b c xs ys first.2 second)

-- it leads from one end to the other
pub goes_leads : (p : Problem) (services steps : List Step) (a b : ℕ) → AllByRecursion (λ s. IsEdgeNumber p s.edge) services → GoByLeastPaths p services a b steps → Leads p a steps b
goes_leads p [] steps a b numbers least = least.deadheads.leads
goes_leads p (s ∷ services) steps a b numbers goes =
    subst (λ xs. Leads p a xs b) (sym goes.3)
    (
    leads_append p a (tail_of (edge_at p s.edge) s.forward) b goes.0 (s ∷ goes.1) goes.2.deadheads.leads
    (numbers.0, refl, goes_leads p services goes.1 (head_of (edge_at p s.edge) s.forward) b numbers.1 goes.4)
    )

-- the same for tasks by their places, on the way and at the end
module _ (p : Problem) (x : Priced) (problem : x.problem ≡ p) (prices : x.prices ≡ costs_of p) (tasks : List Task) where
  path_as : (a b : ℕ) (steps : List Step) → IsLeastPath x.problem (edge_price x) a b steps → IsLeastPath p (price_of (costs_of p)) a b steps
  path_as a b steps least = rw (problem, prices) at least

  pub tasks_more : (i : ℕ) (d : Task) (at tail : ℕ) (walk followed joined : List Step) → i < length tasks → GoesThrough p (service_steps (take i tasks)) p.depot at walk →
      tail ≡ tail_of (edge_at p (get_or tasks i d).edge) (get_or tasks i d).forward →
      AddsPath x at tail walk followed → joined ≡ followed ++ service_step (get_or tasks i d) ∷ [] →
      GoesThrough p (service_steps (take (i + 1) tasks)) p.depot (head_of (edge_at p (get_or tasks i d).edge) (get_or tasks i d).forward) joined
  tasks_more i d at tail walk followed joined in_range goes tail_is adds pushed =
      let t = get_or tasks i d in
      let services : service_steps (take (i + 1) tasks) ≡ service_steps (take i tasks) ++ service_step t ∷ [] = ap service_steps (take_more tasks i d in_range) ∙ map-append service_step (take i tasks) (t ∷ []) in
      let steps : joined ≡ walk ++ (adds.path ++ service_step t ∷ []) = pushed ∙ ap (λ xs. xs ++ service_step t ∷ []) adds.added ∙ append_assoc walk adds.path (service_step t ∷ []) in
      let least = subst (λ v. IsLeastPath p (price_of (costs_of p)) at v adds.path) tail_is (path_as at tail adds.path adds.least) in
      subst (λ ss. GoesThrough p ss p.depot (head_of (edge_at p t.edge) t.forward) joined) (sym services)
      (
      subst (GoesThrough p (service_steps (take i tasks) ++ service_step t ∷ []) p.depot (head_of (edge_at p t.edge) t.forward)) (sym steps)
      (goes_more p (service_steps (take i tasks)) walk adds.path p.depot at (service_step t) goes least)
      )

  pub tasks_whole : (i at depot : ℕ) (walk joined : List Step) → length tasks ≤ i → GoesThrough p (service_steps (take i tasks)) p.depot at walk → depot ≡ p.depot → AddsPath x at depot walk joined →
      JoinsTasks p tasks joined
  tasks_whole i at depot walk joined all goes depot_is adds =
      let least = subst (λ v. IsLeastPath p (price_of (costs_of p)) at v adds.path) depot_is (path_as at depot adds.path adds.least) in
      let whole : GoByLeastPaths p (service_steps tasks) p.depot p.depot joined =
      subst (GoByLeastPaths p (service_steps tasks) p.depot p.depot) (sym adds.added)
      (goes_home p (service_steps tasks) walk adds.path p.depot at p.depot (subst (λ ts. GoesThrough p (service_steps ts) p.depot at walk) (take_all i tasks all) goes) least) in
      record {
        tasks = goes_tasks p tasks joined p.depot p.depot whole;
        paths = subst (λ ss. GoByLeastPaths p ss p.depot p.depot joined) (sym (goes_served p tasks joined p.depot p.depot whole)) whole;
      }
