-- Deadheads that make every junction even, their least cost, and sets of vertices that show it (Edmonds and Johnson 1973).
use Rattle.std.specs.Prelude.{◌≡◌, ℕ, ◌+◌, ◌*◌, ◌%◌, ◌<◌, ◌≤◌, ◌==◌, List, if◌then◌else◌, length, nat_abs, pos, slice_index_or, sum_by}
use Rattle.std.specs.List.{All}
use Rattle.carp_base.specs.declared.edge.Edge.{Edge}
use Rattle.carp_base.specs.Problem.{Problem, IsVertex, IsEdgeNumber, edge_at}
use Rattle.plan_model.specs.Plans.{crosses}
use Rattle.plan_model.specs.Sums.{sum_to}
use Rattle.cut_pool.specs.declared.shore.Weighted.{Weighted}
use Rattle.cut_pool.specs.Shores.{is_in, required_crossings, IsShore, Belongs}
use Rattle.edge_components.specs.Parts.{parts_of, parts_over}

-- counts of deadheads, one for each edge: with the required edges they end an even number of times at each vertex
pub record MakesEven (p : Problem) (counts : List ℕ) : Type 0 where
  pub one_each : length counts ≡ length p.edges
  pub even : (v : ℕ) → IsVertex p v → (required_crossings p (λ w. w == v) + parts_over p counts (λ w. w == v)) % 2 ≡ 0

-- what so many deadheads on each edge cost
abbrev pub join_cost : Problem → List ℕ → ℕ
join_cost p counts = sum_to (length p.edges) (λ e. parts_of counts e * (edge_at p e).cost)

-- the least cost of deadheads that make every vertex even
pub record IsLeastJoin (p : Problem) (value : ℕ) : Type 0 where
  pub counts : List ℕ
  pub makes_even : MakesEven p counts
  pub costs : join_cost p counts ≡ value
  pub least : (other : List ℕ) → MakesEven p other → value ≤ join_cost p other

-- the weight of a shore, which is in halves of a unit of cost
abbrev pub halves : Weighted → ℕ
halves s = nat_abs s.weight

-- the halves of the shores that an edge crosses
abbrev pub halves_over : List Weighted → Edge → ℕ
halves_over shores x = sum_by (λ s. if crosses (is_in s.shore) x then halves s else 0) shores

-- the halves of all shores
abbrev pub all_halves : List Weighted → ℕ
all_halves shores = sum_by halves shores

-- a set of vertices without the depot that an odd number of required edges cross, with a positive weight
pub record IsOddShore (p : Problem) (s : Weighted) : Type 0 where
  pub is_shore : IsShore s.shore
  pub belongs : Belongs p s.shore
  pub odd : required_crossings p (is_in s.shore) % 2 ≡ 1
  pub positive : s.weight ≡ pos (halves s)
  pub some : 1 ≤ halves s

-- over each edge the halves sum to at most twice its cost
abbrev pub Packs : Problem → List Weighted → Type 0
Packs p shores = (e : ℕ) → IsEdgeNumber p e → halves_over shores (edge_at p e) ≤ 2 * (edge_at p e).cost

-- no two of the shores have the same vertices
abbrev pub AreDifferent : List Weighted → Type 0
AreDifferent shores =
    (i j : ℕ) (d : Weighted) → i < length shores → j < length shores → (slice_index_or shores i d).shore ≡ (slice_index_or shores j d).shore → i ≡ j

-- a least join with no edge twice, and shores that show that it is least: their halves are just twice its cost
pub record IsJoinBound (p : Problem) (counts : List ℕ) (shores : List Weighted) (value : ℕ) : Type 0 where
  pub makes_even : MakesEven p counts
  pub once : (e : ℕ) → parts_of counts e ≤ 1
  pub costs : join_cost p counts ≡ value
  pub least : IsLeastJoin p value
  pub odd : All (IsOddShore p) shores
  pub packs : Packs p shores
  pub twice : all_halves shores ≡ 2 * value
  pub different : AreDifferent shores
  pub few : length shores ≤ 1999
