-- What the table gives is of tasks on required edges.
use Rattle.std.proofs.Common.{◌≡◌, ℕ, List, subst}
use Rattle.std.proofs.lemmas.List.Elements.{All-from_recursion}
use Rattle.carp_base.specs.Problem.{Problem, IsRequired}
use Rattle.carp_base.specs.declared.edge.Task.{Task}
use Rattle.route_pricing.specs.Pricing.{Pricing, IsAllowed}
use Rattle.deadhead_paths.specs.Tours.{IsTaskTour}
use Rattle.route_pricing.specs.declared.table.Rate.{Rate}
use Rattle.route_pricing.specs.Values.{Attains, AttainsRate, AttainsThrough}
use Rattle.price_points.specs.Services.{AreServices}

services_of : (x : Pricing) (p : Problem) → x.problem ≡ p → (tasks : List Task) → IsTaskTour x.problem (IsAllowed x) tasks → AreServices p tasks
services_of x p on tasks tour =
    subst (λ (q : Problem). AreServices q tasks) on (All-from_recursion (λ (t : Task). IsRequired x.problem t.edge) tasks tour.required)

pub services_through : (x : Pricing) (p : Problem) → x.problem ≡ p → (e : ℕ) (r : Rate) (tasks : List Task) → AttainsThrough x e r tasks → AreServices p tasks
services_through x p on e r tasks is = services_of x p on tasks is.attained.tour

pub services_of_rate : (x : Pricing) (p : Problem) → x.problem ≡ p → (tasks : List Task) → AttainsRate x tasks → AreServices p tasks
services_of_rate x p on tasks is = services_of x p on tasks is.attained.tour

pub services_of_least : (x : Pricing) (p : Problem) → x.problem ≡ p → (tasks : List Task) → Attains x tasks → AreServices p tasks
services_of_least x p on tasks is = services_of x p on tasks is.attained.tour
