-- The sets of a matching as odd sets of vertices, the smaller ones first. No public contract speaks of this.
use Rattle.std.specs.Prelude.{◌≡◌, ℕ, zero, suc, ◌+◌, ◌-◌, ◌*◌, ◌<◌, ◌≤◌, ◌==◌, min, List, [], ◌∷◌, ◌++◌, if◌then◌else◌, length, slice_index}
use Rattle.std.specs.List.{AllByRecursion}
use Rattle.carp_base.specs.Problem.{Problem, IsVertex}
use Rattle.cut_pool.specs.declared.shore.Weighted.{Weighted}
use Rattle.blossom_match.specs.declared.costs.Costs.{Costs}
use Rattle.blossom_match.specs.declared.least.Matching.{Matching}
use Rattle.blossom_match.specs.Answer.{IsListed, IsMatching, halves_in, len_in, member_in, sets_in}
use Rattle.blossom_match.specs.Table.{IsTable, cost}
use Rattle.matching_duals.specs.OddSets.{OddSet, IsFamily, IsOddSized, enclosing_weight, set_halves}
use Rattle.matching_duals.specs.Levels.{AreLevels, AreJoined}
use Rattle.matching_duals.specs.Paths.{reach}

-- the costs between the odd vertices are their distances
pub record AreCosts (p : Problem) (odd table : List ℕ) (costs : Costs) : Type 0 where
  pub size : costs.size ≡ length odd
  pub is_table : IsTable costs
  pub between : (u v : ℕ) → u < length odd → v < length odd → cost costs u v ≡ reach p table (slice_index odd u) (slice_index odd v)

-- the costs of the pairs among the first a odd vertices are set
pub record HasRows (p : Problem) (odd table : List ℕ) (a : ℕ) (costs : Costs) : Type 0 where
  pub size : costs.size ≡ length odd
  pub is_table : IsTable costs
  pub own : (u : ℕ) → u < length odd → cost costs u u ≡ 0
  pub set : (u v : ℕ) → u < a → v < u → cost costs u v ≡ reach p table (slice_index odd u) (slice_index odd v)

-- and those of the next one with the first b
pub record HasCells (p : Problem) (odd table : List ℕ) (a b : ℕ) (costs : Costs) : Type 0 where
  pub rows : HasRows p odd table a costs
  pub cells : (v : ℕ) → v < b → cost costs a v ≡ reach p table (slice_index odd a) (slice_index odd v)

-- the first k members of a set, as vertices
abbrev pub members_of : List ℕ → Matching → ℕ → ℕ → List ℕ
members_of odd m i zero = []
members_of odd m i (suc k) = members_of odd m i k ++ (slice_index odd (member_in m i k - 1) ∷ [])

-- a set of the matching
abbrev pub set_of : List ℕ → Matching → ℕ → OddSet
set_of odd m i = record { members = members_of odd m i (len_in m i); halves = halves_in m i }

-- of the sets below i those of a size, the last one first, before others
abbrev pub sets_of_size : List ℕ → Matching → ℕ → List OddSet → ℕ → List OddSet
sets_of_size odd m size others zero = others
sets_of_size odd m size others (suc i) = if len_in m i == size then set_of odd m i ∷ sets_of_size odd m size others i else sets_of_size odd m size others i

-- the sets of fewer members than this, larger ones first
abbrev pub sets_below : List ℕ → Matching → ℕ → List OddSet
sets_below odd m zero = []
sets_below odd m (suc size) = sets_of_size odd m size (sets_below odd m size) (sets_in m)

-- those, and of the sets below i those of this size
abbrev pub sets_to : List ℕ → Matching → ℕ → ℕ → List OddSet
sets_to odd m size i = sets_of_size odd m size (sets_below odd m size) i

-- odd sets that pack, of which the weights are bounded
pub record IsBounded (p : Problem) (table : List ℕ) (sets : List OddSet) : Type 0 where
  pub family : IsFamily p (reach p table) sets
  pub sized : AllByRecursion (IsOddSized p) sets
  pub small : set_halves sets ≤ 4000000000000000

-- a matching of the odd vertices whose sets are such
pub record AreSets (p : Problem) (odd table : List ℕ) (m : Matching) : Type 0 where
  pub made : IsMatching m
  pub listed : (i : ℕ) → i < sets_in m → IsListed (length odd) (len_in m i) (member_in m i)
  pub vertices : (k : ℕ) → k < length odd → IsVertex p (slice_index odd k)
  pub bounded : (size i : ℕ) → i ≤ sets_in m → IsBounded p table (sets_to odd m size i)

-- the levels of these sets are laid, and the weights round each vertex are known
pub record AreLaid (p : Problem) (table : List ℕ) (sets : List OddSet) (enclosing : List ℕ) (shores : List Weighted) : Type 0 where
  pub long : length enclosing ≡ p.vertices + 1
  pub each_enclosing : (v : ℕ) → IsVertex p v → slice_index enclosing v ≡ enclosing_weight sets v
  pub levels : AreLevels p (reach p table) sets shores
  pub joined : AreJoined shores

-- the least over the members of twice the distance of the vertex whose row starts here, less the weights round the member
abbrev pub depth_by : List ℕ → ℕ → List ℕ → ℕ → List ℕ → ℕ
depth_by table start enclosing most [] = most
depth_by table start enclosing most (v ∷ members) = min (2 * slice_index table (start + v) - slice_index enclosing v) (depth_by table start enclosing most members)

-- the depth of each vertex for a set
pub record AreDepths (p : Problem) (table enclosing members : List ℕ) (most : ℕ) (depths : List ℕ) : Type 0 where
  pub long : length depths ≡ p.vertices + 1
  pub each : (x : ℕ) → IsVertex p x → slice_index depths x ≡ depth_by table (x * (p.vertices + 1)) enclosing most members
  pub low : (k : ℕ) → slice_index depths k ≤ most
