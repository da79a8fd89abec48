-- Levels of nodes by their distance from the source, and a residual arc over which each was reached. No public contract speaks of this.
use Rattle.std.specs.Prelude.{◌≡◌, ◌≢◌, ◌==◌, ◌⊎◌, ℕ, zero, suc, ◌+◌, ◌-◌, ◌*◌, ◌<◌, ◌≤◌, List, length, slice_index, count_by, sum}
use Rattle.flow_cut.specs.declared.network.Arc.{Arc}
use Rattle.flow_cut.specs.declared.residual.ResidualArc.{ResidualArc}
use Rattle.flow_cut.specs.Flows.{IsNode}
use Rattle.flow_cut.specs.Residual.{residual_tail, residual_head, left_on}
use Rattle.flow_cut.specs.Adjacency.{residual_at}

-- the residual arc of v ends at v, and begins one level nearer
pub record IsLayerReached (arcs : List Arc) (level : List ℕ) (via : List ResidualArc) (v : ℕ) : Type 0 where
  pub in_arcs : (residual_at via v).arc < length arcs
  pub ends : residual_head arcs (residual_at via v) ≡ v
  pub nearer : slice_index level (residual_tail arcs (residual_at via v)) + 1 ≡ slice_index level v
  pub begins : slice_index level (residual_tail arcs (residual_at via v)) ≢ 0

-- level 1 is the source's, and level 0 stands at the nodes that were not reached
pub record IsLayered (arcs : List Arc) (n s : ℕ) (level : List ℕ) (via : List ResidualArc) : Type 0 where
  pub level_len : length level ≡ n + 1
  pub via_len : length via ≡ n + 1
  pub source : slice_index level s ≡ 1
  pub reached : (v : ℕ) → v ≢ s → slice_index level v ≢ 0 → IsLayerReached arcs level via v
  pub bounded : (v : ℕ) → slice_index level v ≤ n + 1

-- each node was reached over a residual arc with something left
abbrev pub IsOpen : List Arc → List ℕ → ℕ → List ℕ → List ResidualArc → Type 0
IsOpen arcs flows s level via = (v : ℕ) → v ≢ s → slice_index level v ≢ 0 → 1 ≤ left_on arcs flows (residual_at via v)

-- all that can be reached from v was reached
abbrev pub IsExplored : List Arc → List ℕ → List ℕ → ℕ → Type 0
IsExplored arcs flows level v =
    (r : ResidualArc) → r.arc < length arcs → residual_tail arcs r ≡ v → 1 ≤ left_on arcs flows r → slice_index level (residual_head arcs r) ≢ 0

-- so many steps back from v
abbrev pub steps_back : List Arc → List ResidualArc → ℕ → ℕ → ℕ
steps_back arcs via zero v = v
steps_back arcs via (suc k) v = steps_back arcs via k (residual_tail arcs (residual_at via v))

-- the amount can cross each residual arc on the way back from v to the source
abbrev pub FitsTo : List Arc → List ℕ → List ℕ → List ResidualArc → ℕ → ℕ → Type 0
FitsTo arcs flows level via amount v =
    (k : ℕ) → suc k < slice_index level v → amount ≤ left_on arcs flows (residual_at via (steps_back arcs via k v))

-- v stands in the queue from a place on
pub record IsWaiting (queue : List ℕ) (start v : ℕ) : Type 0 where
  pub place : ℕ
  pub from_start : start ≤ place
  pub in_queue : place < length queue
  pub is_there : slice_index queue place ≡ v

-- a breadth-first search so far: the queue holds each node that was reached, and nothing else
pub record IsLayerSearch (arcs : List Arc) (flows : List ℕ) (n s : ℕ) (level : List ℕ) (via : List ResidualArc) (queue : List ℕ) : Type 0 where
  pub layered : IsLayered arcs n s level via
  pub open_yet : IsOpen arcs flows s level via
  pub counted : length queue + count_by (λ depth. depth == 0) level ≡ n + 1
  pub shallow : (v : ℕ) → slice_index level v ≤ length queue
  pub nodes : (k : ℕ) → k < length queue → IsNode n (slice_index queue k)
  pub queued : (k : ℕ) → k < length queue → slice_index level (slice_index queue k) ≢ 0

-- each node that was reached waits from this place of the queue on, or was explored
abbrev pub IsPending : List Arc → List ℕ → List ℕ → List ℕ → ℕ → Type 0
IsPending arcs flows level queue start = (v : ℕ) → slice_index level v ≢ 0 → IsWaiting queue start v ⊎ IsExplored arcs flows level v

-- a search goes on: what was reached stays so, and what is new waits in the queue
pub record IsProgress (level queue level' queue' : List ℕ) : Type 0 where
  pub kept : (v : ℕ) → slice_index level v ≢ 0 → slice_index level' v ≢ 0
  pub longer : length queue ≤ length queue'
  pub same : (k : ℕ) → k < length queue → slice_index queue' k ≡ slice_index queue k
  pub fresh : (v : ℕ) → slice_index level' v ≢ 0 → (slice_index level v ≢ 0) ⊎ IsWaiting queue' (length queue) v

-- all that can be reached from nodes that were reached was reached
abbrev pub IsClosed : List Arc → List ℕ → List ℕ → Type 0
IsClosed arcs flows level = (v : ℕ) → slice_index level v ≢ 0 → IsExplored arcs flows level v

-- a search that does not reach the target
pub record IsEnded (arcs : List Arc) (flows : List ℕ) (n s t : ℕ) (level : List ℕ) (via : List ResidualArc) : Type 0 where
  pub layered : IsLayered arcs n s level via
  pub unreached : slice_index level t ≡ 0
  pub closed : IsClosed arcs flows level

-- the residual arc leads one level further, and something is left on it
pub record LeadsOn (arcs : List Arc) (flows level : List ℕ) (r : ResidualArc) : Type 0 where
  pub further : slice_index level (residual_head arcs r) ≡ slice_index level (residual_tail arcs r) + 1
  pub some_left : 1 ≤ left_on arcs flows r

-- for each node the end of its residual arcs that are not tried yet
pub record IsUntried (n : ℕ) (starts untried : List ℕ) : Type 0 where
  pub untried_len : length untried ≡ n + 1
  pub within : (v : ℕ) → v ≤ n → slice_index untried v ≤ slice_index starts (v + 1)

-- a number that falls with each step of a search from v
abbrev pub to_try : ℕ → List ℕ → List ℕ → ℕ → ℕ
to_try n level untried v = sum untried * (n + 2) + (n + 1 - slice_index level v)
