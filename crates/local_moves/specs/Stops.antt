-- Tours of tasks as a sequence of stops. No public contract speaks of this.
use Rattle.std.specs.Prelude.{◌≡◌, ◌≢◌, ℕ, ◌+◌, ◌-◌, ◌*◌, ◌<◌, ◌≤◌, ◌==◌, List, [], ◌∷◌, ◌++◌, map, length, take, slice_index, if◌then◌else◌, IsTrue, count_by, nat_le}
use Rattle.std.specs.List.{AllByRecursion}
use Rattle.carp_base.specs.declared.edge.Task.{Task}
use Rattle.carp_base.specs.Problem.{Problem, IsRequired}
use Rattle.task_tours.specs.Tours.{all_tasks}
use Rattle.ruin_recreate.specs.declared.board.Board.{Board}
use Rattle.ruin_recreate.specs.Boards.{depot, edge_of}
use Rattle.local_moves.specs.Sequences.{IsSequence, fits}

-- a task as a stop
abbrev pub stop_of : Task → ℕ
stop_of t = 2 * t.edge + (if t.forward then 0 else 1)

-- tours as a sequence: one after another, with the depot before, between and after them
abbrev pub sequence_of : List (List Task) → List ℕ
sequence_of [] = depot ∷ []
sequence_of (tour ∷ tours) = depot ∷ (map stop_of tour ++ sequence_of tours)

-- the first stops of a sequence are these tours, and this one that is not at its end yet
pub record IsCut (p : Problem) (xs : List ℕ) (i : ℕ) (tours : List (List Task)) (tour : List Task) : Type 0 where
  pub done : sequence_of tours ++ map stop_of tour ≡ take i xs
  pub required : AllByRecursion (λ t. IsRequired p t.edge) (all_tasks tours)
  pub tour_required : AllByRecursion (λ t. IsRequired p t.edge) tour
  pub few_tours : length tours ≤ i
  pub few_tasks : length tour ≤ i

-- how often an edge is served
abbrev pub visits : ℕ → List ℕ → ℕ
visits e xs = count_by (λ x. edge_of x == e) xs

-- how many services there are
abbrev pub services_in : List ℕ → ℕ
services_in xs = count_by (λ x. nat_le 1 (edge_of x)) xs

-- a sequence that serves each required edge once, within the capacity
pub record IsFullSequence (p : Problem) (b : Board) (xs : List ℕ) : Type 0 where
  pub sequence : IsSequence b xs
  pub loads : IsTrue (fits b xs)
  pub once : (e : ℕ) → IsRequired p e → visits e xs ≡ 1
  pub few : services_in xs ≤ 10000

-- stops that begin and end with the depot, at most 30,000 of them, of which none is stop 1
pub record IsProperSequence (xs : List ℕ) : Type 0 where
  pub some : 1 ≤ length xs
  pub short : length xs ≤ 30000
  pub real : (k : ℕ) → k < length xs → slice_index xs k ≢ 1
  pub first : slice_index xs 0 ≡ depot
  pub last : slice_index xs (length xs - 1) ≡ depot
