-- Small trees of the examples, and of the tests.
use Rattle.std.specs.Prelude.{◌≡◌, ℕ, pos, List, [], ◌∷◌, length}
use Rattle.std.specs.List.{All}
use Rattle.branch_rules.specs.Trees.{Tree, pair, cut, price, void, fixed}
use Rattle.branch_rules.specs.declared.node.Node.TheVariants as nodes
use Rattle.grown_trees.specs.Growth.{Fraction, Growth}
use Rattle.grown_trees.specs.Places.{IsFineNode}
use Rattle.grown_trees.specs.Stands.{Stand}
use Rattle.grown_trees.specs.declared.growing.GrowingNode.{GrowingNode}

-- a pair, whose first child is a cut
abbrev pub low_tree : Tree
low_tree = pair 1 2 (cut 1 3 (price 1) void) fixed

-- the same with a pair in place of its last leaf
abbrev pub high_tree : Tree
high_tree = pair 1 2 (cut 1 3 (price 1) void) (pair 1 3 void (price 2))

-- a leaf of a price set, and the greatest bound that it shows
abbrev pub price_entry : (set shows : ℕ) → GrowingNode
price_entry set shows = record { node = nodes.Price set; shows = shows }

-- the leaves of a tree of three nodes show so much
abbrev pub entries_showing : (first second : ℕ) → List GrowingNode
entries_showing first second = record { node = nodes.Pair 1 2; shows = 9 } ∷ price_entry 1 first ∷ price_entry 2 second ∷ []

-- the root is a cut of the first shore
abbrev pub cut_root : ℕ → Stand
cut_root k = record { branch = []; node = nodes.Cut 1 k }

abbrev pub cut_entry : (k shows : ℕ) → GrowingNode
cut_entry k shows = record { node = nodes.Cut 1 k; shows = shows }

-- a whole number
abbrev pub whole : ℕ → Fraction
whole n = record { unit = 1; value = pos n }

-- three nodes
pub record IsSmall (tree : Growth) : Type 0 where
  pub long : length tree.nodes ≡ 3
  pub fine : All (λ entry. IsFineNode entry.node) tree.nodes
