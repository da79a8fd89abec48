use Rattle.std.proofs.Common.{◌≡◌, ℕ, ◌-◌, ◌≤◌, List}
use Rattle.packing_trees.specs.Tables.{over_labels}
use Rattle.packing_trees.proofs.shares.count_bundles.Given as goal

abbrev pub invariant-loop-bundle : goal.invariant-loop-bundle
invariant-loop-bundle l = record {
  all : (weights : List ℕ) → l.count ≡ over_labels l.labels weights (l.bundle - 1) (λ w. 1);
  few : l.count ≤ l.bundle - 1;
}
