-- Odd sets of a matching with their weights, and how deep a vertex lies in them (Edmonds and Johnson 1973). No public contract speaks of this.
use Rattle.std.specs.Prelude.{◌≡◌, ℕ, zero, suc, ◌+◌, ◌-◌, ◌*◌, ◌%◌, ◌≤◌, Bool, true, false, not, ◌==◌, ◌⊎◌, List, [], ◌∷◌, ◌++◌, if◌then◌else◌, length, min, nat_le, sum_by}
use Rattle.std.specs.List.{list_any, AllByRecursion}
use Rattle.carp_base.specs.declared.edge.Edge.{Edge}
use Rattle.carp_base.specs.Problem.{Problem, IsVertex, IsEdgeNumber, edge_at}
use Rattle.plan_model.specs.Plans.{crosses}
use Rattle.cut_pool.specs.Shores.{required_crossings}

-- an odd set: its members, and its weight in halves
pub record OddSet : Type 0 where
  pub members : List ℕ
  pub halves : ℕ

-- the set holds the vertex
abbrev pub holds : OddSet → ℕ → Bool
holds s v = list_any (λ x. x == v) s.members

-- the number of required edges that end at the vertex
abbrev pub degree : Problem → ℕ → ℕ
degree p v = required_crossings p (λ w. w == v)

-- an odd number of required edges ends at the vertex
abbrev pub is_odd : Problem → ℕ → Bool
is_odd p v = degree p v % 2 == 1

-- the set holds one of the two
abbrev pub separates : OddSet → ℕ → ℕ → Bool
separates s u v = if holds s u then not (holds s v) else holds s v

-- the weights of the sets that hold the vertex
abbrev pub enclosing_weight : List OddSet → ℕ → ℕ
enclosing_weight [] v = 0
enclosing_weight (s ∷ sets) v = (if holds s v then s.halves else 0) + enclosing_weight sets v

-- the weights of the sets that separate the two
abbrev pub weight_between : List OddSet → ℕ → ℕ → ℕ
weight_between [] u v = 0
weight_between (s ∷ sets) u v = (if separates s u v then s.halves else 0) + weight_between sets u v

-- the weights of all sets
abbrev pub set_halves : List OddSet → ℕ
set_halves sets = sum_by (λ s. s.halves) sets

-- each member of r is one of s; no member of r is one of s
pub record LiesIn (s r : OddSet) : Type 0 where
  pub inside : (v : ℕ) → holds r v ≡ true → holds s v ≡ true

pub record LiesOutside (s r : OddSet) : Type 0 where
  pub outside : (v : ℕ) → holds r v ≡ true → holds s v ≡ false

-- each set of the list stands before those that lie in it, and shares no member with the others after it
abbrev pub AreNested : List OddSet → Type 0
AreNested [] = Unit {0}
AreNested (s ∷ sets) = AllByRecursion (λ r. LiesIn s r ⊎ LiesOutside s r) sets × AreNested sets

-- the members pass the test
pub record IsAmong (test : ℕ → Bool) (s : OddSet) : Type 0 where
  pub each : (v : ℕ) → holds s v ≡ true → test v ≡ true

-- distances from the odd vertices to all vertices, as far as the packing speaks of them
pub record AreDistances (p : Problem) (d : ℕ → ℕ → ℕ) : Type 0 where
  pub same : (v : ℕ) → is_odd p v ≡ true → d v v ≡ 0
  pub meet : (u v x : ℕ) → is_odd p u ≡ true → is_odd p v ≡ true → IsVertex p x → d u v ≤ d u x + d v x
  pub forth : (v e : ℕ) → is_odd p v ≡ true → IsEdgeNumber p e → d v (edge_at p e).v ≤ d v (edge_at p e).u + (edge_at p e).cost
  pub back : (v e : ℕ) → is_odd p v ≡ true → IsEdgeNumber p e → d v (edge_at p e).u ≤ d v (edge_at p e).v + (edge_at p e).cost

-- for each pair of odd vertices, the weights of the sets that separate it sum to at most twice the distance
pub record PackSets (p : Problem) (d : ℕ → ℕ → ℕ) (sets : List OddSet) : Type 0 where
  pub pair : (u v : ℕ) → is_odd p u ≡ true → is_odd p v ≡ true → weight_between sets u v ≤ 2 * d u v

-- odd sets of a matching, larger ones first, with weights that pack
pub record IsFamily (p : Problem) (d : ℕ → ℕ → ℕ) (sets : List OddSet) : Type 0 where
  pub distances : AreDistances p d
  pub nested : AreNested sets
  pub odd : AllByRecursion (IsAmong (is_odd p)) sets
  pub packs : PackSets p d sets

-- different members, an odd number of them, all of them vertices
abbrev pub AreDistinct : List ℕ → Type 0
AreDistinct [] = Unit {0}
AreDistinct (v ∷ vs) = (list_any (λ x. x == v) vs ≡ false) × AreDistinct vs

pub record IsOddSized (p : Problem) (s : OddSet) : Type 0 where
  pub distinct : AreDistinct s.members
  pub vertices : AllByRecursion (IsVertex p) s.members
  pub odd : length s.members % 2 ≡ 1

-- the depth of a vertex for a set, cut off below at 0 and above at the weight; `smaller` are the sets after it
abbrev pub least_depth : (ℕ → ℕ → ℕ) → List OddSet → ℕ → ℕ → List ℕ → ℕ
least_depth d smaller x most [] = most
least_depth d smaller x most (v ∷ members) = min (2 * d v x - enclosing_weight smaller v) (least_depth d smaller x most members)

abbrev pub depth : (ℕ → ℕ → ℕ) → OddSet → List OddSet → ℕ → ℕ
depth d s smaller x = least_depth d smaller x s.halves s.members

-- the shore of a level from 0 below the weight
abbrev pub level : (ℕ → ℕ → ℕ) → OddSet → List OddSet → ℕ → ℕ → Bool
level d s smaller t x = nat_le (depth d s smaller x) t

-- how many numbers below n pass the test
abbrev pub count_below : ℕ → (ℕ → Bool) → ℕ
count_below zero test = 0
count_below (suc n) test = (if test n then 1 else 0) + count_below n test

-- how many of all levels of all sets the edge crosses
abbrev pub levels_over : (ℕ → ℕ → ℕ) → List OddSet → Edge → ℕ
levels_over d [] x = 0
levels_over d (s ∷ sets) x = count_below s.halves (λ t. crosses (level d s sets t) x) + levels_over d sets x

-- the set with those that come after it is the rest of the list from some place on
pub record StandsIn (sets : List OddSet) (s : OddSet) (smaller : List OddSet) : Type 0 where
  pub before : List OddSet
  pub split : sets ≡ before ++ (s ∷ smaller)

-- the side of a set that lacks the depot
abbrev pub side_of : Problem → (ℕ → Bool) → ℕ → Bool
side_of p inside v = if inside p.depot then not (inside v) else inside v
