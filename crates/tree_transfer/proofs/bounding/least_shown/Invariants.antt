use Rattle.tree_transfer.specs.Bounding.{BoundsAt, support_in}
use Rattle.tree_transfer.proofs.bounding.least_shown.Given as goal

abbrev pub invariant-loop-place : goal.invariant-loop-place
invariant-loop-place l = BoundsAt (support_in l.given) l.tree.nodes l.place l.path l.least
