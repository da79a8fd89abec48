-- The one spelling of a certificate.
use Rattle.std.specs.Prelude.{◌≡◌, ℕ, ◌^◌, ◌≤◌, ◌<◌, Bool, true, false, IsTrue, List, [], ◌∷◌, ◌++◌, length, map, Option, Some, None, IfSome, IsSome}
use Rattle.std.specs.List.{All, flat_map, sum_by}
use Rattle.std.specs.List.Sorted.{IsStrictlyIncreasing}
use Rattle.plan_model.specs.declared.step.Step.{Step}
use Rattle.cut_pool.specs.Pools.{IsShoreNumber, AreDifferent}
use Rattle.branch_rules.specs.Prices.{Prices}
use Rattle.branch_rules.specs.Limits.{IsPriceSet}
use Rattle.branch_rules.specs.Trees.{Tree, preorder}
use Rattle.branch_rules.specs.declared.node.Node.{Node}
use Rattle.branch_rules.specs.declared.node.Node.TheVariants.{Pair, Cut, Price, Void, Fixed}
use Rattle.cert_lines.specs.declared.counts.Counts.{Counts}
use Rattle.cert_lines.specs.Lines.{Line, version, counts, cost, bound, tours, tour, shores, shore, sets, prices, weights, bonds, nodes, node, end, nothing, line_text}
use Rattle.cert_lines.specs.Order.{LatestFirst, next_of, follows}
use Rattle.cert_lines.specs.Certificates.{Certificate, has_groups}
use Rattle.cert_lines.specs.Ranges.{IsWithin, AreCountsInRange, IsInRange}
use Rattle.cert_lines.specs.Agreement.{Agrees}

-- version 1 without the numbers of the instance; with them version 4 if some price set has a group, and else version 2
abbrev pub version_lines : Option Counts → (grouped : Bool) → List Line
version_lines None grouped = version 1 ∷ []
version_lines (Some c) false = version 2 ∷ counts c ∷ []
version_lines (Some c) true = version 4 ∷ counts c ∷ []

abbrev pub tour_line : List Step → Line
tour_line steps = tour (length steps) steps

abbrev pub shore_line : List ℕ → Line
shore_line vertices = shore (length vertices) vertices

-- the line of the groups of a price set, if some price set has one
abbrev pub group_lines : (grouped : Bool) → Prices → List Line
group_lines false set = []
group_lines true set = bonds (length set.groups) set.groups nothing ∷ []

-- the lines of a price set
abbrev pub set_lines : (grouped : Bool) → Prices → List Line
set_lines grouped set =
    prices set.unit (length set.services) set.services ∷ weights (length set.weights) set.weights ∷ group_lines grouped set

-- the lines of a certificate, in their order
abbrev pub lines_of : Certificate → List Line
lines_of c =
    version_lines c.counts (has_groups c.sets)
    ++ cost c.cost ∷ bound c.bound ∷ tours (length c.plan) ∷ map tour_line c.plan
    ++ shores (length c.shores) ∷ map shore_line c.shores
    ++ sets (length c.sets) ∷ flat_map (set_lines (has_groups c.sets)) c.sets
    ++ nodes (length c.nodes) ∷ map node c.nodes
    ++ end ∷ []

-- a line and its LF
abbrev pub whole_line : Line → List ℕ
whole_line line = line_text line ++ 10 ∷ []

-- the text of a certificate
abbrev pub text_of : Certificate → List ℕ
text_of c = flat_map whole_line (lines_of c)

-- the lines follow each other, their numbers are in range, and what they say agrees
abbrev pub AreGood : LatestFirst → List Line → Type 0
AreGood said [] = Unit {0}
AreGood said (line ∷ lines) = IsTrue (follows (next_of said) line) × IsInRange said line × Agrees said line × AreGood (line ∷ said) lines

-- a certificate with a group has the numbers of the instance, too
abbrev pub HasCountsForGroups : Certificate → Type 0
HasCountsForGroups c = IsTrue (has_groups c.sets) → IsSome c.counts

-- a certificate that can be spelled: its lines follow each other, their numbers are in range, what they say agrees, and without the
-- numbers of the instance it has no group
pub record IsSpellable (c : Certificate) : Type 0 where
  pub lines : AreGood [] (lines_of c)
  pub counted : HasCountsForGroups c

-- a rising list of 1 to 999 vertices
pub record IsFineShore (vertices : List ℕ) : Type 0 where
  pub size : IsWithin 1 999 (length vertices)
  pub vertices_in : All (IsWithin 1 1000) vertices
  pub rising : IsStrictlyIncreasing vertices

-- a price set whose weights are on shores of the pool, and whose groups are of edges from 1 to 600
pub record IsFineSet (pool : List (List ℕ)) (set : Prices) : Type 0 where
  pub prices : IsPriceSet set
  pub shores : All (λ w. IsShoreNumber pool w.shore) set.weights
  pub group_edges : All (λ w. All (IsWithin 1 600) w.edges) set.groups

-- a node, if there are so many shores (borders) and so many price sets (units)
abbrev pub IsFineNode : (borders units : ℕ) → Node → Type 0
IsFineNode borders units (Pair a b) = (1 ≤ a) × (a < b) × (b ≤ 600)
IsFineNode borders units (Cut border k) = IsWithin 1 borders border × (k ≤ 1000000)
IsFineNode borders units (Price set) = IsWithin 1 units set
IsFineNode borders units Void = Unit {0}
IsFineNode borders units Fixed = Unit {0}

-- the numbers of a certificate are in their ranges, its shores rise and are different, the weights of its price sets rise and are not 0,
-- it has the numbers of the instance if it has a group, its pairs have the lesser edge first, and its nodes are those of a tree in preorder
pub record IsFine (c : Certificate) : Type 0 where
  pub counts_in : IfSome c.counts AreCountsInRange
  pub cost_in : c.cost < 10 ^ 18
  pub bound_in : c.bound < 10 ^ 18
  pub few_tours : length c.plan ≤ 100000
  pub few_steps : sum_by length c.plan ≤ 2000000
  pub edges_in : All (All (λ s. IsWithin 1 4000 s.edge)) c.plan
  pub few_shores : length c.shores ≤ 2000
  pub shores_fine : All IsFineShore c.shores
  pub different : AreDifferent c.shores
  pub few_sets : length c.sets ≤ 256
  pub sets_fine : All (IsFineSet c.shores) c.sets
  pub counted : HasCountsForGroups c
  pub few_nodes : length c.nodes ≤ 2097153
  pub nodes_fine : All (IsFineNode (length c.shores) (length c.sets)) c.nodes
  pub tree : Tree
  pub in_preorder : c.nodes ≡ preorder tree
