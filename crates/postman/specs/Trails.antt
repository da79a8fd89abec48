-- A circuit that is being laid over the crossings that are left. No public contract speaks of this.
use Rattle.std.specs.Prelude.{◌≡◌, ◌≢◌, ℕ, zero, suc, ◌+◌, ◌-◌, ◌*◌, ◌%◌, ◌<◌, ◌≤◌, ◌==◌, ◌&&◌, Bool, not, List, [], ◌∷◌, ◌++◌, Option, None, Some, MatchOption, IsTrue, count_by, length, nat_le, slice_index, sum_by, if◌then◌else◌}
use Rattle.std.specs.List.{AllByRecursion}
use Rattle.carp_base.specs.Problem.{Problem, IsEdgeNumber, IsRequired, IsVertex, edge_at, required_cost, tail_of}
use Rattle.plan_model.specs.declared.step.Step.{Step}
use Rattle.plan_model.specs.Plans.{IsWalk, Leads, walk_cost}
use Rattle.plan_model.specs.Sums.{sum_to}
use Rattle.road_network.specs.Incidence.{has_end, incident}
use Rattle.edge_components.specs.Parts.{parts_of, parts_over}
use Rattle.matching_duals.specs.Joins.{join_cost}
use Rattle.postman.specs.Rounds.{IsRound, idles}

-- a required edge has one service
abbrev pub one_service : Problem → ℕ → ℕ
one_service p e = if nat_le e p.required then 1 else 0

-- the first end of a required edge has the depot's label
abbrev pub HasLabel : Problem → List ℕ → ℕ → Type 0
HasLabel p labels e = IsRequired p e → slice_index labels (edge_at p e).u ≡ slice_index labels p.depot

-- the least required edge of which the first end has not
pub record IsFirstOther (p : Problem) (labels : List ℕ) (e : ℕ) : Type 0 where
  pub required : IsRequired p e
  pub other : slice_index labels (edge_at p e).u ≢ slice_index labels p.depot
  pub before : (d : ℕ) → d < e → HasLabel p labels d

-- of so many crossings of an edge that are left, the next one serves it
abbrev pub is_service : Problem → ℕ → ℕ → Bool
is_service p e n = nat_le e p.required && (n == 1)

-- the step over an edge from a vertex, where so many crossings are left
abbrev pub crossing : Problem → ℕ → ℕ → ℕ → Step
crossing p v e n = record { edge = e; forward = (edge_at p e).u == v; served = is_service p e n }

-- the same crossing in the other direction
abbrev pub turned : Step → Step
turned s = record { edge = s.edge; forward = not s.forward; served = s.served }

-- what so many crossings of an edge are worth
abbrev pub worth : Problem → (ℕ → Bool → ℕ) → ℕ → ℕ → ℕ
worth p f e zero = 0
worth p f e (suc n) = f e (is_service p e (suc n)) + worth p f e n

-- what all crossings that are left are worth
abbrev pub worth_left : Problem → (ℕ → Bool → ℕ) → List ℕ → ℕ
worth_left p f left = sum_to (length p.edges) (λ e. worth p f e (parts_of left e))

-- what steps are worth
abbrev pub worth_of : (ℕ → Bool → ℕ) → List Step → ℕ
worth_of f steps = sum_by (λ s. f s.edge s.served) steps

-- each step is worth one
abbrev pub one_each : ℕ → Bool → ℕ
one_each e served = 1

-- no crossings are left at the vertex
abbrev pub IsSpent : Problem → List ℕ → ℕ → Type 0
IsSpent p left v = (e : ℕ) → IsEdgeNumber p e → IsTrue (has_end v (edge_at p e)) → parts_of left e ≡ 0

-- the crossings that are left at the vertex
abbrev pub left_at : Problem → List ℕ → ℕ → ℕ
left_at p left v = parts_over p left (λ w. w == v)

abbrev pub one_if : Bool → ℕ
one_if b = if b then 1 else 0

-- the steps of the stack lead to the vertex at hand, those of the walk lead to `back`, and none is left at the vertices that these
-- leave. An odd number of crossings is left at just these two vertices, where they are different
pub record IsTrail (p : Problem) (left next : List ℕ) (stack walk : List Step) (hand : ℕ) : Type 0 where
  pub long : length left ≡ length p.edges
  pub wide : length next ≡ p.vertices + 1
  pub gone : (v i : ℕ) → IsVertex p v → i < slice_index next v → parts_of left (slice_index (incident p v) i) ≡ 0
  pub vertex : IsVertex p hand
  pub leads : Leads p p.depot stack hand
  pub back : ℕ
  pub returns : Leads p p.depot walk back
  pub even : (v : ℕ) → IsVertex p v → (left_at p left v + one_if (hand == v) + one_if (back == v)) % 2 ≡ 0
  pub passed : AllByRecursion (λ s. IsSpent p left (tail_of (edge_at p s.edge) s.forward)) walk
  pub few : worth_of one_each stack + worth_of one_each walk + worth_left p one_each left ≤ p.required + length p.edges

-- the walk is closed, and no crossings are left at its vertices
pub record IsCircuit (p : Problem) (left : List ℕ) (stack walk : List Step) : Type 0 where
  pub empty : stack ≡ []
  pub closed : IsWalk p walk
  pub passed : AllByRecursion (λ s. IsSpent p left (tail_of (edge_at p s.edge) s.forward)) walk
  pub at_depot : IsSpent p left p.depot

-- with the vertex at hand, or with none at the end
abbrev pub Stands : Problem → List ℕ → List ℕ → List Step → List Step → Option ℕ → Type 0
Stands p left next stack walk hand = MatchOption hand (IsCircuit p left stack walk) (IsTrail p left next stack walk)

-- what was left and stands now on the stack or the walk is worth the same
abbrev pub Spends : Problem → List ℕ → List Step → List Step → List ℕ → List Step → List Step → Type 0
Spends p left stack walk left' stack' walk' = (f : ℕ → Bool → ℕ) →
    worth_of f stack' + worth_of f walk' + worth_left p f left' ≡ worth_of f stack + worth_of f walk + worth_left p f left

-- the last step of the stack was moved to the walk
pub record IsMoved (p : Problem) (stack walk stack' walk' : List Step) (to : ℕ) : Type 0 where
  pub step : Step
  pub was : stack ≡ stack' ++ (step ∷ [])
  pub now : walk' ≡ walk ++ (turned step ∷ [])
  pub start : to ≡ tail_of (edge_at p step.edge) step.forward

-- there was none
pub record IsUnmoved (stack walk stack' walk' : List Step) : Type 0 where
  pub was : stack ≡ []
  pub still : stack' ≡ []
  pub now : walk' ≡ walk

abbrev pub IsTurned : Problem → List Step → List Step → List Step → List Step → Option ℕ → Type 0
IsTurned p stack walk stack' walk' to = MatchOption to (IsUnmoved stack walk stack' walk') (IsMoved p stack walk stack' walk')

-- a bound on the steps to come
abbrev pub work_left : Problem → List Step → List Step → Option ℕ → ℕ
work_left p stack walk None = 0
work_left p stack walk (Some v) = suc (2 * (p.required + length p.edges) - length stack - 2 * length walk)

-- one step on from the vertex at hand to the next one, or to the end
pub record Advances (p : Problem) (left : List ℕ) (stack walk : List Step) (v : ℕ) (left' next' : List ℕ) (stack' walk' : List Step) (to : Option ℕ) : Type 0 where
  pub stands : Stands p left' next' stack' walk' to
  pub spends : Spends p left stack walk left' stack' walk'
  pub less : work_left p stack' walk' to < work_left p stack walk (Some v)

-- crossings from which a circuit is laid: they make each vertex even
pub record IsStart (p : Problem) (left next : List ℕ) : Type 0 where
  pub long : length left ≡ length p.edges
  pub wide : length next ≡ p.vertices + 1
  pub fresh : (v : ℕ) → slice_index next v ≡ 0
  pub even : (v : ℕ) → IsVertex p v → left_at p left v % 2 ≡ 0
  pub few : worth_left p one_each left ≤ p.required + length p.edges

-- a circuit, and what is left
pub record IsLaid (p : Problem) (start left : List ℕ) (walk : List Step) : Type 0 where
  pub closed : IsWalk p walk
  pub passed : AllByRecursion (λ s. IsSpent p left (tail_of (edge_at p s.edge) s.forward)) walk
  pub at_depot : IsSpent p left p.depot
  pub spends : (f : ℕ → Bool → ℕ) → worth_of f walk + worth_left p f left ≡ worth_left p f start
  pub few : length walk ≤ p.required + length p.edges

-- a round over some of these deadheads, which is empty if no edge is required
pub record IsCheapRound (p : Problem) (deadheads : List ℕ) (walk : List Step) : Type 0 where
  pub is_round : IsRound p walk
  pub cheap : walk_cost p walk ≤ required_cost p + join_cost p deadheads
  pub few : length walk ≤ p.required + length p.edges
  pub once_idle : (e : ℕ) → count_by (idles e) walk ≤ 1
  pub idle : p.required ≡ 0 → walk ≡ []
