-- The tasks of the groups of a packing. No public contract speaks of this.
use Rattle.std.specs.Prelude.{◌≡◌, ℕ, ◌+◌, ◌<◌, ◌≤◌, ◌==◌, List, [], if◌then◌else◌, length, count_by, slice_index_or}
use Rattle.std.specs.List.{AllByRecursion}
use Rattle.carp_base.specs.declared.edge.Task.{Task}
use Rattle.carp_base.specs.Problem.{Problem, IsRequired}
use Rattle.carp_base.specs.Packings.{IsGroup, group_load, group_of}
use Rattle.task_tours.specs.Tours.{all_tasks, tour_load}
use Rattle.group_plans.specs.Groups.{gathered}

-- tasks in any order and direction on the edges of a group, one on each of them
pub record ServesGroup (p : Problem) (groups : List ℕ) (group : ℕ) (tasks : List Task) : Type 0 where
  pub required : AllByRecursion (λ t. IsRequired p t.edge) tasks
  pub once : (e : ℕ) → IsRequired p e → count_by (λ t. t.edge == e) tasks ≡ (if group_of groups e == group then 1 else 0)
  pub load : tour_load p tasks ≡ group_load p groups group
  pub few : length tasks ≤ p.required

-- tours on the edges of the groups from 1 to n, one for each of them, which fit a vehicle where these groups do
pub record ServesUpTo (p : Problem) (groups : List ℕ) (n : ℕ) (tours : List (List Task)) : Type 0 where
  pub one_each : length tours ≡ n
  pub required : AllByRecursion (λ t. IsRequired p t.edge) (all_tasks tours)
  pub served : (e : ℕ) → IsRequired p e → 1 ≤ group_of groups e → group_of groups e ≤ n → count_by (λ t. t.edge == e) (all_tasks tours) ≡ 1
  pub unserved : (e : ℕ) → IsRequired p e → n < group_of groups e → count_by (λ t. t.edge == e) (all_tasks tours) ≡ 0
  pub loads : ((g : ℕ) → IsGroup n g → group_load p groups g ≤ p.capacity) → AllByRecursion (λ tour. tour_load p tour ≤ p.capacity) tours
  pub each : (k e : ℕ) → k < n → IsRequired p e → count_by (λ t. t.edge == e) (slice_index_or tours k []) ≡ (if group_of groups e == k + 1 then 1 else 0)

-- the tours take the edges of the groups from 1 to n in the order of their numbers, and forward
abbrev pub InOrderUpTo : Problem → List ℕ → ℕ → List (List Task) → Type 0
InOrderUpTo p groups n tours = (length tours ≡ n) × ((k : ℕ) → k < n → slice_index_or tours k [] ≡ gathered groups (k + 1) p.required)
