-- Laws over all lawful plans of an instance, over branches, price sets and trees.
use Rattle.std.specs.Prelude.{◌≡◌, ℕ, ◌+◌, ◌-◌, ◌*◌, ◌/◌, ◌^◌, ◌<◌, ◌≤◌, ◌↔◌, pos, ◌-ℤ◌, ◌*ℤ◌, ◌≤ℤ◌, ◌<ℤ◌, List, [], ◌∷◌, length, IsTrue, false}
use Rattle.std.specs.List.{AllByRecursion}
use Rattle.carp_base.specs.Problem.{Problem, IsValid}
use Rattle.plan_model.specs.Plans.{IsLawful, plan_cost, deadheads_over}
use Rattle.plan_model.specs.Laws.{IsLowerBound}
use Rattle.plan_model.specs.declared.step.Step.{Step}
use Rattle.cut_pool.specs.Shores.{is_in, vehicles}
use Rattle.branch_rules.specs.Bonds.{GroupWeight, IsApart, bond_weight, group_demand, plan_bonds, surcharge, surcharges}
use Rattle.decision_chains.specs.Neighbours.{AreNeighbours}
use Rattle.branch_rules.specs.Prices.{Prices, Fits, KeepsRules, value_of}
use Rattle.cut_pool.specs.Pools.{shore_at}
use Rattle.branch_rules.specs.Decisions.{MeetsAll, IsVoid, IsFixed, Spells, is_yes_pair, rules_of}
use Rattle.decision_chains.specs.Exclusions.{Excluded}
use Rattle.decision_chains.specs.FixedValue.{HasFixedValue}
use Rattle.branch_rules.specs.Trees.{Tree, preorder, Support, Shows, NodesShow, IsSoundSupport, IsLean, HasTurns, PairsIn}
use Rattle.decision_chains.specs.declared.decision.Decision.{Decision}

-- no shore of the pool has the depot
abbrev pub NoDepot : Problem → List (List ℕ) → Type 0
NoDepot p pool = AllByRecursion (λ shore. is_in shore p.depot ≡ false) pool

-- a lawful plan of a valid instance that meets a branch, and no shore of the pool has the depot
pub record IsMet (p : Problem) (pool : List (List ℕ)) (branch : List Decision) (plan : List (List Step)) : Type 0 where
  pub valid : IsValid p
  pub no_depot : NoDepot p pool
  pub lawful : IsLawful p plan
  pub meets : MeetsAll p pool plan branch

-- no lawful plan has more bonds in a group than there is room for; so it is of any list of edges
abbrev pub BondsAreBounded : Type 0
BondsAreBounded = (p : Problem) (group : List ℕ) (plan : List (List Step)) →
    IsValid p → IsLawful p plan → plan_bonds group plan + vehicles p (group_demand p group) ≤ length group

-- a lawful plan that meets a branch has exactly one bond in each pair that the branch says yes to
abbrev pub YesPairsHaveOneBond : Type 0
YesPairsHaveOneBond = (p : Problem) (pool : List (List ℕ)) (branch : List Decision) (group : List ℕ) (plan : List (List Step)) →
    IsValid p → IsLawful p plan → MeetsAll p pool plan branch → IsTrue (is_yes_pair branch group) → plan_bonds group plan ≡ 1

-- what the bonds of a tour weigh is the sum of the surcharges of its edges that follow each other
abbrev pub SurchargesAreBondWeights : Type 0
SurchargesAreBondWeights = (groups : List GroupWeight) (es : List ℕ) → bond_weight groups es ≡ surcharges (surcharge groups) es

-- a surcharge is the same in either order
abbrev pub SurchargeIsSymmetric : Type 0
SurchargeIsSymmetric = (groups : List GroupWeight) (e f : ℕ) → surcharge groups e f ≡ surcharge groups f e

-- an edge of no group has no surcharge
abbrev pub ApartHasNoSurcharge : Type 0
ApartHasNoSurcharge = (groups : List GroupWeight) (e f : ℕ) → IsApart groups e → surcharge groups e f ≡ pos 0

-- no excluded pair are neighbours in a lawful plan that meets the branch
abbrev pub ExcludedAreApart : Type 0
ExcludedAreApart = (p : Problem) (pool : List (List ℕ)) (branch : List Decision) (plan : List (List Step)) →
    IsLawful p plan → MeetsAll p pool plan branch → (a b : ℕ) → Excluded p branch a b → ¬ (AreNeighbours plan a b)

-- the deadheads of a lawful plan that meets the branch keep within the numbers of each shore
abbrev pub NumbersAreKept : Type 0
NumbersAreKept = (p : Problem) (pool : List (List ℕ)) (branch : List Decision) (plan : List (List Step)) →
    IsMet p pool branch plan → (shore : ℕ) → KeepsRules (rules_of p pool branch) shore (deadheads_over p (is_in (shore_at pool shore)) plan)

-- no lawful plan meets a void branch
abbrev pub VoidIsMetByNone : Type 0
VoidIsMetByNone = (p : Problem) (pool : List (List ℕ)) (branch : List Decision) (plan : List (List Step)) →
    IsVoid p pool branch → ¬ (IsMet p pool branch plan)

-- a lawful plan whose neighbours are exactly the yes pairs costs at least the fixed value
abbrev pub FixedValueBounds : Type 0
FixedValueBounds = (p : Problem) (branch : List Decision) (value : ℕ) (plan : List (List Step)) →
    IsLawful p plan → Spells branch plan → HasFixedValue p branch value → value ≤ plan_cost p plan

-- a lawful plan that meets a fixed branch costs at least the fixed value
abbrev pub FixedBranchBounds : Type 0
FixedBranchBounds = (p : Problem) (pool : List (List ℕ)) (branch : List Decision) (value : ℕ) (plan : List (List Step)) →
    IsLawful p plan → MeetsAll p pool plan branch → IsFixed p pool branch → HasFixedValue p branch value → value ≤ plan_cost p plan

-- a set that fits under the branch, with a price for each required edge
pub record FitsBranch (p : Problem) (pool : List (List ℕ)) (branch : List Decision) (set : Prices) : Type 0 where
  pub one_each : length set.services ≡ p.required
  pub fits : Fits p pool (rules_of p pool branch) (λ a b. ¬ (Excluded p branch a b)) set

-- its value is at most the denominator times the cost of each lawful plan that meets the branch
abbrev pub ValueIsBelow : Type 0
ValueIsBelow = (p : Problem) (pool : List (List ℕ)) (branch : List Decision) (set : Prices) (plan : List (List Step)) →
    FitsBranch p pool branch set → IsMet p pool branch plan →
    value_of (rules_of p pool branch) set ≤ℤ pos (set.unit * plan_cost p plan)

-- if it is above the denominator times a bound less 1, each such plan costs at least the bound
abbrev pub PricesBound : Type 0
PricesBound = (p : Problem) (pool : List (List ℕ)) (branch : List Decision) (set : Prices) (bound : ℕ) (plan : List (List Step)) →
    FitsBranch p pool branch set → (pos set.unit *ℤ (pos bound -ℤ pos 1)) <ℤ value_of (rules_of p pool branch) set →
    IsMet p pool branch plan → bound ≤ plan_cost p plan

-- a tree that shows a bound shows it for every lawful plan
abbrev pub TreeBounds : Type 0
TreeBounds = (c : Support) (bound : ℕ) (tree : Tree) → IsSoundSupport c → Shows c [] bound tree → IsLowerBound c.problem bound

-- a lean tree of at most four cuts on a path has few turns, whatever the cost
abbrev pub LeanIsSmall : Type 0
LeanIsSmall = (c : Support) (cost : ℕ) (tree : Tree) (n : ℕ) →
    IsLean c [] 4 tree → PairsIn c.problem tree → HasTurns c [] cost tree n →
    n < 2 ^ (c.problem.required * (c.problem.required - 1) / 2 + 5)

-- the nodes of a tree in preorder show what the tree shows
abbrev pub NodesShowTree : Type 0
NodesShowTree = (c : Support) (bound : ℕ) (tree : Tree) → NodesShow c bound (preorder tree) ([] ∷ []) ↔ Shows c [] bound tree
