use Rattle.packing_trees.proofs.Weighing.{are_bundles, labels_within}
use Rattle.packing_trees.proofs.bundling.bundles_of.Goals as goal

pub weights_of-requires-clause-within : goal.weights_of-requires-clause-within
weights_of-requires-clause-within c = rw c.deref.ensures.value (labels_within c.args.branch.now c.in_ok-labels.labels.items c.in_ok-labels.ensures.own)

pub returns-clause-bundles : goal.returns-clause-bundles
returns-clause-bundles c =
    let labels = c.in_ok-labels.labels.items in
    are_bundles c.args.inst.now c.args.branch.now labels _ c.requires c.in_ok-labels.ensures.long c.in_ok-labels.ensures.own c.in_ok-weights.ensures.long (rw c.deref.ensures.value at c.in_ok-weights.ensures.each)

pub returns-clause-some : goal.returns-clause-some
returns-clause-some c =
    let labels = c.in_ok-labels.labels.items in
    record {
      branch = c.args.branch.now;
      choices = c.requires;
      are = are_bundles c.args.inst.now c.args.branch.now labels _ c.requires c.in_ok-labels.ensures.long c.in_ok-labels.ensures.own c.in_ok-weights.ensures.long (rw c.deref.ensures.value at c.in_ok-weights.ensures.each);
    }
