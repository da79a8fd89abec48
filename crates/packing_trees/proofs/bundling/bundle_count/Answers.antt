use Rattle.std.proofs.Common.{arith, ◌∙◌}
use Rattle.packing_trees.proofs.Weighing.{over_same}
use Rattle.packing_trees.proofs.bundling.bundle_count.Goals as goal

pub returns : goal.returns
returns c = λ branch are.
    let labels = c.args.bundles.now.labels.items in
    let weights = c.args.bundles.now.weights.items in
    let count = rw c.deref.ensures.value at (c.count_bundles.ensures weights) in
    count ∙ over_same c.args.inst.now branch labels weights _ (omega (arith, are.label_each)) are (λ w. 1)
