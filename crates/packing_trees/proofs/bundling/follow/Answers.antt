use Rattle.std.proofs.Common.{arith}
use Rattle.packing_trees.proofs.Weighing.{labels_joined, labels_kept}
use Rattle.packing_trees.proofs.bundling.follow.Goals as goal

pub returns-in-Together : goal.returns-in-Together
returns-in-Together c = λ branch own.
    let below = rw c.in-Together.is at c.requires in
    rw c.in-Together.is (labels_joined branch c.in-Together.a c.in-Together.b c.args.labels.now c.join.new.labels (omega (arith, below.1, below.2)) below.2 own c.join.ensures)

pub returns-in-Apart : goal.returns-in-Apart
returns-in-Apart c = λ branch own. rw c.in-Apart.is (labels_kept branch c.in-Apart.a c.in-Apart.b c.args.labels.now own)
