-- What has to agree on a line, after the lines before it.
use Rattle.std.specs.Prelude.{◌≡◌, ◌≢◌, ◌↔◌, ℕ, ◌≤◌, ◌<◌, pos, ◌<ℤ◌, IsTrue, List, ◌∷◌, length, map}
use Rattle.std.specs.List.{All}
use Rattle.std.specs.List.Sorted.{IsStrictlyIncreasing}
use Rattle.branch_rules.specs.Bonds.{GroupWeight}
use Rattle.branch_rules.specs.Prices.{Prices}
use Rattle.branch_rules.specs.declared.weight.Weight.{Weight}
use Rattle.branch_rules.specs.declared.node.Node.{Node}
use Rattle.branch_rules.specs.declared.node.Node.TheVariants.{Pair, Cut, Price, Void, Fixed}
use Rattle.cert_lines.specs.Lines.{Line, version, counts, cost, bound, tours, tour, shores, shore, sets, prices, weights, bonds, nodes, node, end}
use Rattle.cert_lines.specs.Lines.{Remainder, nothing}
use Rattle.cert_lines.specs.Order.{LatestFirst, version_of, next_of, left_of, open_of, open_after}
use Rattle.cert_lines.specs.Certificates.{shores_of, sets_of, has_groups}

-- so many vertices, in rising order, which are no earlier shore
pub record IsNewShore (earlier : List (List ℕ)) (n : ℕ) (vertices : List ℕ) : Type 0 where
  pub stated : length vertices ≡ n
  pub rising : IsStrictlyIncreasing vertices
  pub new : All (λ other. other ≢ vertices) earlier

-- so many weights, on shores of rising numbers, and none is 0
pub record AreWeights (n : ℕ) (items : List Weight) : Type 0 where
  pub stated : length items ≡ n
  pub rising : IsStrictlyIncreasing (map (λ w. w.shore) items)
  pub some : All (λ w. w.weight ≢ pos 0) items

-- the edges of a group rise, and its weight is not 0; if the weight is negative, the group is a pair
pub record IsGroupInOrder (w : GroupWeight) : Type 0 where
  pub rising : IsStrictlyIncreasing w.edges
  pub some : w.weight ≢ pos 0
  pub pair : w.weight <ℤ pos 0 → length w.edges ≡ 2

-- so many groups, each complete and in order
pub record AreGroups (n : ℕ) (groups : List GroupWeight) (rest : Remainder) : Type 0 where
  pub stated : length groups ≡ n
  pub complete : rest ≡ nothing
  pub in_order : All IsGroupInOrder groups

-- if no set is to come after this one, some set has a group
abbrev pub SomeSetHasGroups : ℕ → List Prices → Type 0
SomeSetHasGroups left all = left ≡ 1 → IsTrue (has_groups all)

-- the first edge of a pair is the lesser
abbrev pub IsPairInOrder : Node → Type 0
IsPairInOrder (Pair a b) = a < b
IsPairInOrder (Cut border k) = Unit {0}
IsPairInOrder (Price set) = Unit {0}
IsPairInOrder Void = Unit {0}
IsPairInOrder Fixed = Unit {0}

-- if so many nodes and so many whole subtrees are to come, the tree becomes whole with this node exactly if it is the last
abbrev pub BecomesWhole : (left subtrees : ℕ) → Node → Type 0
BecomesWhole left subtrees x = (open_after subtrees x ≡ 0) ↔ (left ≡ 1)

-- what the line says agrees
abbrev pub Agrees : LatestFirst → Line → Type 0
Agrees said (version n) = Unit {0}
Agrees said (counts c) = Unit {0}
Agrees said (cost n) = Unit {0}
Agrees said (bound n) = Unit {0}
Agrees said (tours n) = Unit {0}
Agrees said (tour n steps) = length steps ≡ n
Agrees said (shores n) = Unit {0}
Agrees said (shore n vertices) = IsNewShore (shores_of said) n vertices
Agrees said (sets n) = version_of said ≡ 4 → 1 ≤ n
Agrees said (prices unit n services) = length services ≡ n
Agrees said (weights n items) = AreWeights n items
Agrees said (bonds n groups rest) = AreGroups n groups rest × SomeSetHasGroups (left_of (next_of said)) (sets_of (bonds n groups rest ∷ said))
Agrees said (nodes n) = Unit {0}
Agrees said (node x) = IsPairInOrder x × BecomesWhole (left_of (next_of said)) (open_of (next_of said)) x
Agrees said end = Unit {0}
