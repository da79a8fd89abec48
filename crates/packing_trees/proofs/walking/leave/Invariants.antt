use Rattle.std.proofs.Common.{◌≡◌, vec_len}
use Rattle.std.specs.List.{All}
use Rattle.carp_base.specs.Problem.{Problem}
use Rattle.packing_trees.specs.Bundles.{IsChoice}
use Rattle.packing_trees.specs.Layers.{seconds_of}
use Rattle.packing_trees.proofs.walking.leave.Given as goal

abbrev pub invariant-loop-choice : goal.invariant-loop-choice
invariant-loop-choice l = record {
  waits : seconds_of l.initial.branch.items ≡ seconds_of l.branch.items;
  choices : (p : Problem) → All (IsChoice p) l.initial.branch.items → All (IsChoice p) l.branch.items;
}

abbrev pub decreases-loop-choice : goal.decreases-loop-choice
decreases-loop-choice l = vec_len l.branch
