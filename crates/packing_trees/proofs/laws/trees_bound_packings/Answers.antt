use Rattle.std.proofs.Common.{[]}
use Rattle.std.proofs.lemmas.List.Elements.{All-nil}
use Rattle.packing_trees.specs.Bundles.{IsChoice, MeetsChoice}
use Rattle.packing_trees.proofs.Bounding.{tree_bounds}
use Rattle.packing_trees.proofs.laws.trees_bound_packings.Goals as goal

pub returns : goal.returns
returns c = record {
  trees = λ p branch tree bound groups count valid fits pairs shows packing meets. tree_bounds p groups count bound valid packing tree branch fits pairs shows meets;
  proofs = λ p nodes bound groups count valid proof packing.
      tree_bounds p groups count bound valid packing proof.tree [] (All-nil (IsChoice p)) proof.pairs proof.shows (All-nil (MeetsChoice groups));
}
