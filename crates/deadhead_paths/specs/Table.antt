-- What a table of distances keeps: labels towards each vertex, and the edge on which to go there. No public contract speaks of this.
use Rattle.std.specs.Prelude.{◌≡◌, ◌≢◌, ℕ, ◌+◌, ◌-◌, ◌*◌, ◌^◌, ◌<◌, ◌≤◌, Bool, List, length, take, drop, slice_index}
use Rattle.carp_base.specs.Problem.{Problem, IsValid, IsVertex, IsEdgeNumber, edge_at, tail_of, head_of}
use Rattle.deadhead_paths.specs.Prices.{Priced, price_of, ArePrices}

-- the label of a vertex from which no steps lead to the target
abbrev pub unreached : ℕ
unreached = 2 ^ 128 - 1

-- what an edge adds to a label: the label of k steps of price n in all is 1024 * n + k
abbrev pub rise_of : List ℕ → ℕ → ℕ
rise_of prices e = 1024 * price_of prices e + 1

-- the edge leads from v to a vertex of which the label is less by what the edge adds
pub record Descends (p : Problem) (prices labels : List ℕ) (v e : ℕ) : Type 0 where
  pub number : IsEdgeNumber p e
  pub forward : Bool
  pub tail : tail_of (edge_at p e) forward ≡ v
  pub falls : slice_index labels (head_of (edge_at p e) forward) + rise_of prices e ≤ slice_index labels v

-- labels that no edge can lower, and for each vertex with one the edge on which to go towards the target
pub record IsTowards (p : Problem) (prices : List ℕ) (target : ℕ) (labels nexts : List ℕ) : Type 0 where
  pub labels_long : length labels ≡ p.vertices + 1
  pub nexts_long : length nexts ≡ p.vertices + 1
  pub unused : slice_index labels 0 ≡ unreached
  pub at_target : slice_index labels target ≡ 0
  pub potentials : (e : ℕ) (forward : Bool) → IsEdgeNumber p e →
      slice_index labels (tail_of (edge_at p e) forward) ≤ slice_index labels (head_of (edge_at p e) forward) + rise_of prices e
  pub descends : (v : ℕ) → IsVertex p v → v ≢ target → slice_index labels v < unreached → Descends p prices labels v (slice_index nexts v)

-- the row of a vertex, from 1, in a table of rows of one width
abbrev pub row_of : ℕ → List ℕ → ℕ → List ℕ
row_of width table v = take width (drop ((v - 1) * width) table)

-- the table of a priced instance: a row of labels, and one of edges, towards each vertex
pub record IsTable (x : Priced) (labels nexts : List ℕ) : Type 0 where
  pub valid : IsValid x.problem
  pub prices : ArePrices x.problem x.prices
  pub labels_long : length labels ≡ x.problem.vertices * (x.problem.vertices + 1)
  pub nexts_long : length nexts ≡ x.problem.vertices * (x.problem.vertices + 1)
  pub rows : (v : ℕ) → IsVertex x.problem v →
      IsTowards x.problem x.prices v (row_of (x.problem.vertices + 1) labels v) (row_of (x.problem.vertices + 1) nexts v)
