-- The ranges of the numbers of a line, after the lines before it.
use Rattle.std.specs.Prelude.{ℕ, ◌+◌, ◌^◌, ◌≤◌, ◌<◌, List, length, sum_by}
use Rattle.std.specs.List.{All}
use Rattle.branch_rules.specs.Bonds.{GroupWeight}
use Rattle.branch_rules.specs.Limits.{IsPriceNumber}
use Rattle.branch_rules.specs.declared.weight.Weight.{Weight}
use Rattle.branch_rules.specs.declared.node.Node.{Node}
use Rattle.branch_rules.specs.declared.node.Node.TheVariants.{Pair, Cut, Price, Void, Fixed}
use Rattle.cert_lines.specs.declared.counts.Counts.{Counts}
use Rattle.cert_lines.specs.Lines.{Line, version, counts, cost, bound, tours, tour, shores, shore, sets, prices, weights, bonds, nodes, node, end}
use Rattle.cert_lines.specs.Lines.{Remainder, nothing, weight_alone, short_of, stated_size}
use Rattle.cert_lines.specs.Order.{LatestFirst}
use Rattle.cert_lines.specs.Certificates.{steps_of, shores_of, sets_of}

-- the number is one of those from the first to the last
pub record IsWithin (first last n : ℕ) : Type 0 where
  pub from_first : first ≤ n
  pub to_last : n ≤ last

-- the numbers of an instance
pub record AreCountsInRange (c : Counts) : Type 0 where
  pub vertices : IsWithin 1 1000 c.vertices
  pub edges : c.edges ≤ 4000
  pub required : c.required ≤ 600
  pub capacity : IsWithin 1 30000 c.capacity
  pub demand : c.demand ≤ 18000000

-- a weight on one of so many shores
pub record IsWeightInRange (borders : ℕ) (w : Weight) : Type 0 where
  pub shore : IsWithin 1 borders w.shore
  pub weight : IsPriceNumber w.weight

-- a complete group with its weight
pub record IsGroupInRange (w : GroupWeight) : Type 0 where
  pub weight : IsPriceNumber w.weight
  pub size : IsWithin 2 600 (length w.edges)
  pub edges : All (IsWithin 1 600) w.edges

-- an incomplete group, as far as it stands there
abbrev pub IsRemainderInRange : Remainder → Type 0
IsRemainderInRange nothing = Unit {0}
IsRemainderInRange (weight_alone w) = IsPriceNumber w
IsRemainderInRange (short_of missing w edges) = IsPriceNumber w × IsWithin 2 600 (stated_size missing edges) × All (IsWithin 1 600) edges

-- the size that an incomplete group states
abbrev pub remainder_size : Remainder → ℕ
remainder_size nothing = 0
remainder_size (weight_alone w) = 0
remainder_size (short_of missing w edges) = stated_size missing edges

-- the groups of a price set: the sizes that they state are at most 60,000 together
pub record AreGroupsInRange (n : ℕ) (groups : List GroupWeight) (rest : Remainder) : Type 0 where
  pub few : n ≤ 2000
  pub each : All IsGroupInRange groups
  pub behind : IsRemainderInRange rest
  pub few_edges : sum_by (λ (w : GroupWeight). length w.edges) groups + remainder_size rest ≤ 60000

-- a node, if there are so many shores (borders) and so many price sets (units)
abbrev pub IsNodeInRange : (borders units : ℕ) → Node → Type 0
IsNodeInRange borders units (Pair a b) = IsWithin 1 600 a × IsWithin 1 600 b
IsNodeInRange borders units (Cut border k) = IsWithin 1 borders border × (k ≤ 1000000)
IsNodeInRange borders units (Price set) = IsWithin 1 units set
IsNodeInRange borders units Void = Unit {0}
IsNodeInRange borders units Fixed = Unit {0}

-- each number of the line is in its range
abbrev pub IsInRange : LatestFirst → Line → Type 0
IsInRange said (version n) = Unit {0}
IsInRange said (counts c) = AreCountsInRange c
IsInRange said (cost n) = n < 10 ^ 18
IsInRange said (bound n) = n < 10 ^ 18
IsInRange said (tours n) = n ≤ 100000
IsInRange said (tour n steps) = (steps_of said + n ≤ 2000000) × All (λ s. IsWithin 1 4000 s.edge) steps
IsInRange said (shores n) = n ≤ 2000
IsInRange said (shore n vertices) = IsWithin 1 999 n × All (IsWithin 1 1000) vertices
IsInRange said (sets n) = n ≤ 256
IsInRange said (prices unit n services) = IsWithin 1 1000000 unit × (n ≤ 600) × All IsPriceNumber services
IsInRange said (weights n items) = (n ≤ length (shores_of said)) × All (IsWeightInRange (length (shores_of said))) items
IsInRange said (bonds n groups rest) = AreGroupsInRange n groups rest
IsInRange said (nodes n) = IsWithin 1 2097153 n
IsInRange said (node x) = IsNodeInRange (length (shores_of said)) (length (sets_of said)) x
IsInRange said end = Unit {0}
