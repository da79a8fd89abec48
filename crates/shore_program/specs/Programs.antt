-- What a program over shores gives: weights of its shores, and deadheads.
use Rattle.std.specs.Prelude.{◌≡◌, ℕ, ◌*◌, ◌^◌, ◌<◌, ◌≤◌, Bool, true, false, ◌⊎◌, if◌then◌else◌, pos, nat_abs}
use Rattle.std.specs.Prelude.{List, ◌++◌, ◌∷◌, [], All, length, sum_by}
use Rattle.std.specs.List.{Contains}
use Rattle.carp_base.specs.declared.edge.Edge.{Edge}
use Rattle.carp_base.specs.Problem.{Problem, IsEdgeNumber, edge_at}
use Rattle.plan_model.specs.Plans.{crosses}
use Rattle.cut_pool.specs.Shores.{Belongs, is_in}
use Rattle.cut_pool.specs.declared.shore.Weighted.{Weighted}

-- a program over shores of an instance
pub record ShoreProgram : Type 0 where
  pub problem : Problem
  pub shores : List (List ℕ)

-- a shore of the program with a weight above 0, in parts of one million
pub record IsWeighted (program : ShoreProgram) (s : Weighted) : Type 0 where
  pub held : Contains program.shores s.shore
  pub belongs : Belongs program.problem s.shore
  pub natural : s.weight ≡ pos (nat_abs s.weight)
  pub some : 1 ≤ nat_abs s.weight
  pub small : nat_abs s.weight ≤ 1000000000000

-- what the weights of the shores that an edge crosses sum to
abbrev pub weights_over : List Weighted → Edge → ℕ
weights_over shores x = sum_by (λ s. if crosses (is_in s.shore) x then nat_abs s.weight else 0) shores

-- over each edge the weights, in parts of one million, sum to at most its cost
abbrev pub Packs : Problem → List Weighted → Type 0
Packs p shores = (e : ℕ) → IsEdgeNumber p e → weights_over shores (edge_at p e) ≤ 1000000 * (edge_at p e).cost

-- a number of deadheads over each edge, at most 1,024, in parts of 2^20
pub record AreDeadheads (p : Problem) (parts : List ℕ) : Type 0 where
  pub one_each : length parts ≡ length p.edges
  pub small : All (λ n. n ≤ 2 ^ 30) parts

-- why a shore gets no column: nothing is demanded over it, or it has one, or there is no room
abbrev pub GetsNoColumn : ShoreProgram → List ℕ → ℕ → Type 0
GetsNoColumn program shore least = (least ≡ 0) ⊎ Contains program.shores shore ⊎ (length program.shores ≡ 1200)

-- a program after a shore was offered: it holds the shore, or else it stays as it was for a cause
abbrev pub IsOffered : ShoreProgram → List ℕ → ℕ → Bool → ShoreProgram → Type 0
IsOffered before shore least true after =
    (after ≡ record { problem = before.problem; shores = before.shores ++ shore ∷ [] }) × ¬ (GetsNoColumn before shore least)
IsOffered before shore least false after = (after ≡ before) × GetsNoColumn before shore least

-- no shore is there that was not, and none more often than before
abbrev pub HaveNoMore : List (List ℕ) → List (List ℕ) → Type 0
HaveNoMore before after = (f : List ℕ → ℕ) → sum_by f after ≤ sum_by f before

-- no shore is listed that is not held, and none more often than it is held
abbrev pub ListsNoMore : List (List ℕ) → List Weighted → Type 0
ListsNoMore held shores = (f : List ℕ → ℕ) → sum_by (λ s. f s.shore) shores ≤ sum_by f held

-- some shores were let go, and none is held more often than before: of more than 800, at least 400 stay
pub record IsTrimmed (before after : ShoreProgram) : Type 0 where
  pub problem : after.problem ≡ before.problem
  pub held : All (Contains before.shores) after.shores
  pub no_more : HaveNoMore before.shores after.shores
  pub few : length before.shores ≤ 800 → after ≡ before
  pub enough : 800 < length before.shores → 400 ≤ length after.shores
