-- Bonds: places where a tour serves two edges of one group one directly after the other, and how many of them a plan can have.
use Rattle.std.specs.Prelude.{◌≡◌, ℕ, ◌+◌, ◌-◌, ◌*◌, ◌≤◌, ℤ, pos, ◌+ℤ◌, ◌*ℤ◌, Bool, false, ◌&&◌, ◌==◌, ◌⊎◌, List, [], ◌∷◌, length, slice_index_or, if◌then◌else◌, sum_by}
use Rattle.std.specs.List.{list_any, All, AllByRecursion}
use Rattle.std.specs.List.Sorted.{IsStrictlyIncreasing}
use Rattle.carp_base.specs.Problem.{Problem, IsRequired, edge_at}
use Rattle.plan_model.specs.declared.step.Step.{Step}
use Rattle.cut_pool.specs.Shores.{vehicles}
use Rattle.decision_chains.specs.Neighbours.{served_edges}
use Rattle.branch_rules.specs.Sums.{signed_sum}

-- a group: two or more required edges by their numbers, in rising order
pub record IsGroup (p : Problem) (group : List ℕ) : Type 0 where
  pub two : 2 ≤ length group
  pub rising : IsStrictlyIncreasing group
  pub required : All (IsRequired p) group

-- the edge is of the group
abbrev pub is_of : List ℕ → ℕ → Bool
is_of group e = list_any (λ x. x == e) group

-- 1 if both edges are of the group, and 0 if one is not
abbrev pub bond : List ℕ → ℕ → ℕ → ℕ
bond group e f = if is_of group e && is_of group f then 1 else 0

-- the bonds of the group if these edges are served in this order after an edge
abbrev pub bonds_after : List ℕ → ℕ → List ℕ → ℕ
bonds_after group e [] = 0
bonds_after group e (f ∷ es) = bond group e f + bonds_after group f es

-- the bonds of the group if these edges are served in this order: the places where two edges of it follow each other directly
abbrev pub bonds : List ℕ → List ℕ → ℕ
bonds group [] = 0
bonds group (e ∷ es) = bonds_after group e es

-- the bonds of a plan, over all its walks
abbrev pub plan_bonds : List ℕ → List (List Step) → ℕ
plan_bonds group plan = sum_by (λ walk. bonds group (served_edges walk)) plan

-- the demand of a group
abbrev pub group_demand : Problem → List ℕ → ℕ
group_demand p group = sum_by (λ e. (edge_at p e).demand) group

-- the room of a group: how many bonds there can be, since each vehicle that its demand takes begins the group anew
abbrev pub room : Problem → List ℕ → ℕ
room p group = length group - vehicles p (group_demand p group)

-- a weight on the bonds of a group: above 0 it is charged for each bond; below 0 it stands on a pair, and its size is gained for each bond
pub record GroupWeight : Type 0 where
  pub edges : List ℕ
  pub weight : ℤ

-- what the bonds of edges that are served in this order weigh: for each group its weight times its bonds
abbrev pub bond_weight : List GroupWeight → List ℕ → ℤ
bond_weight groups es = signed_sum (λ w. w.weight *ℤ pos (bonds w.edges es)) groups

-- what two edges that follow each other weigh: the sum of the weights of the groups that both are of
abbrev pub surcharge : List GroupWeight → ℕ → ℕ → ℤ
surcharge groups e f = signed_sum (λ w. w.weight *ℤ pos (bond w.edges e f)) groups

-- the surcharges of edges that are served in this order after an edge: one for each edge that follows another
abbrev pub surcharges_after : (ℕ → ℕ → ℤ) → ℕ → List ℕ → ℤ
surcharges_after s e [] = pos 0
surcharges_after s e (f ∷ es) = s e f +ℤ surcharges_after s f es

-- the surcharges of edges that are served in this order
abbrev pub surcharges : (ℕ → ℕ → ℤ) → List ℕ → ℤ
surcharges s [] = pos 0
surcharges s (e ∷ es) = surcharges_after s e es

-- the number for a pair of edges in a table of m rows of m numbers; an empty table has 0 for each pair
abbrev pub entry : ℕ → List ℤ → ℕ → ℕ → ℤ
entry m table e f = slice_index_or table ((e - 1) * m + (f - 1)) (pos 0)

-- a table has the surcharge of each pair of the first m edges; if all surcharges are 0 it may be empty
pub record IsSurchargeTable (m : ℕ) (groups : List GroupWeight) (table : List ℤ) : Type 0 where
  pub long : (length table ≡ m * m) ⊎ (length table ≡ 0)
  pub same : (e f : ℕ) → 1 ≤ e → e ≤ m → 1 ≤ f → f ≤ m → entry m table e f ≡ surcharge groups e f

-- the edge is of none of the groups
abbrev pub IsApart : List GroupWeight → ℕ → Type 0
IsApart groups e = AllByRecursion (λ w. is_of w.edges e ≡ false) groups
