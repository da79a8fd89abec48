use Rattle.std.proofs.Common.{◌+◌, [], ◌∷◌, drop}
use Rattle.std.specs.List.{All}
use Rattle.packing_trees.specs.declared.reason.PackReason.{PackReason}
use Rattle.packing_trees.specs.Bundles.{IsChoice}
use Rattle.packing_trees.specs.Layers.{AreRight, seconds_of}
use Rattle.packing_trees.specs.Reasons.{FirstNodeFails}
use Rattle.packing_trees.proofs.walking.nodes_reason.Given as goal

abbrev pub invariant-loop-i : goal.invariant-loop-i
invariant-loop-i l = record {
  choices : All (IsChoice l.inst) l.branch.items;
  fails : (reason : PackReason) → FirstNodeFails l.inst l.bound (l.i + 1) (drop l.i l.nodes) (l.branch.items ∷ seconds_of l.branch.items) reason → FirstNodeFails l.inst l.bound 1 l.nodes ([] ∷ []) reason;
  right : AreRight l.inst l.bound (drop l.i l.nodes) (l.branch.items ∷ seconds_of l.branch.items) → AreRight l.inst l.bound l.nodes ([] ∷ []);
}
