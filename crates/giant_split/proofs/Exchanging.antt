-- Orders that serve alike serve each required edge once together.
use Rattle.std.proofs.Common.{◌≡◌, ℕ, ◌<◌, ◌==◌, cond, List, [], ◌∷◌, length, set, refl, sym, ap, ◌∙◌, arith}
use Rattle.std.specs.Prelude.{slice_set}
use Rattle.std.specs.List.{AllByRecursion, sum_by}
use Rattle.std.proofs.lemmas.List.{get_or-map, map-set, set-get_or}
use Rattle.std.proofs.lemmas.List.Elements.{All-from_recursion, recursion_from_All}
use Rattle.std.proofs.lemmas.List.Sorted.{All-permutation, sum_by-IsPermutation}
use Rattle.std.proofs.lemmas.List.Sums.{sum_by-cons}
use Rattle.carp_base.specs.declared.edge.Task.{Task}
use Rattle.carp_base.specs.Problem.{Problem, IsRequired}
use Rattle.task_tours.specs.Tours.{AreServedOnce}
use Rattle.giant_split.specs.Exchanges.{ServeAlike, task_edges}
use Rattle.giant_split.specs.Legs.{no_task, task_at}

sum_over_map : (f : ℕ → ℕ) (tasks : List Task) → sum_by f (task_edges tasks) ≡ sum_by (λ t. f t.edge) tasks
sum_over_map f [] = refl
sum_over_map f (t ∷ tasks) = omega (arith, sum_by-cons f t.edge (task_edges tasks), sum_by-cons (λ (u : Task). f u.edge) t tasks, sum_over_map f tasks)

all_edges : (P : ℕ → Type 0) (tasks : List Task) → AllByRecursion (λ t. P t.edge) tasks → AllByRecursion P (task_edges tasks)
all_edges P [] all = tt
all_edges P (t ∷ tasks) all = (all.0, all_edges P tasks all.1)

edges_all : (P : ℕ → Type 0) (tasks : List Task) → AllByRecursion P (task_edges tasks) → AllByRecursion (λ t. P t.edge) tasks
edges_all P [] all = tt
edges_all P (t ∷ tasks) all = (all.0, edges_all P tasks all.1)

pub served_alike : (p : Problem) (before after : List Task) → ServeAlike before after → AreServedOnce p before → AreServedOnce p after
served_alike p before after alike served =
    let all = All-permutation (IsRequired p) (task_edges before) (task_edges after) alike.edges (All-from_recursion (IsRequired p) (task_edges before) (all_edges (IsRequired p) before served.required)) in
    record {
      required = edges_all (IsRequired p) after (recursion_from_All (IsRequired p) (task_edges after) all);
      once = λ e required.
          let on : ℕ → ℕ = λ x. cond (x == e) 1 0 in
          sym (sum_over_map on after) ∙ sum_by-IsPermutation on (task_edges before) (task_edges after) alike.edges ∙ sum_over_map on before ∙ served.once e required;
    }

-- a task that is turned stays on its edge
pub turned_edges : (tasks : List Task) (at : ℕ) (t : Task) → at < length tasks → t.edge ≡ (task_at tasks at).edge → task_edges (slice_set tasks at t) ≡ task_edges tasks
turned_edges tasks at t below same =
    map-set (λ (u : Task). u.edge) tasks at t ∙ ap (set (task_edges tasks) at) (same ∙ sym (get_or-map (λ (u : Task). u.edge) tasks at no_task 0 below)) ∙ set-get_or (task_edges tasks) at 0
