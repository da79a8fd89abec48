-- What packing trees say of all packings, and what bundles are.
use Rattle.std.specs.Prelude.{◌≡◌, ℕ, ◌≤◌, ◌↔◌, List}
use Rattle.std.specs.List.{All}
use Rattle.carp_base.specs.Problem.{Problem, IsValid}
use Rattle.carp_base.specs.Packings.{IsPacking}
use Rattle.packing_trees.specs.declared.node.PackChoice.{PackChoice}
use Rattle.packing_trees.specs.declared.node.PackNode.{PackNode}
use Rattle.packing_trees.specs.Bundles.{IsChoice, MeetsBranch, AreBundled, bundle_of}
use Rattle.packing_trees.specs.Trees.{PackTree, PairsIn, Shows, IsPackProof}

-- a packing that meets a branch has at least as many groups as a tree shows there
abbrev pub TreesBoundPackings : Type 0
TreesBoundPackings =
    (p : Problem) (branch : List PackChoice) (tree : PackTree) (bound : ℕ) (groups : List ℕ) (count : ℕ) → IsValid p → All (IsChoice p) branch → PairsIn p tree →
    Shows p branch bound tree → IsPacking p groups count → MeetsBranch groups branch → bound ≤ count

-- so a proof bounds every packing
abbrev pub ProofsBoundPackings : Type 0
ProofsBoundPackings =
    (p : Problem) (nodes : List PackNode) (bound : ℕ) (groups : List ℕ) (count : ℕ) → IsValid p → IsPackProof p nodes bound → IsPacking p groups count → bound ≤ count

-- two edges have one bundle's number exactly where together choices join them, and the number is the least edge of the bundle
abbrev pub BundlesAreJoined : Type 0
BundlesAreJoined = (branch : List PackChoice) (a b : ℕ) → (bundle_of branch a ≡ bundle_of branch b) ↔ AreBundled branch a b

abbrev pub BundlesAreNamedByTheLeast : Type 0
BundlesAreNamedByTheLeast = (branch : List PackChoice) (a : ℕ) → AreBundled branch a (bundle_of branch a) × ((b : ℕ) → AreBundled branch a b → bundle_of branch a ≤ b)
