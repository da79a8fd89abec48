use Rattle.std.proofs.Common.{◌-◌, length}
use Rattle.tree_transfer.specs.Carrying.{CarriesAt}
use Rattle.tree_transfer.proofs.carrying.carry_tree.Given as goal

abbrev pub invariant-loop-place : goal.invariant-loop-place
invariant-loop-place l = CarriesAt l.fn.inst l.fn.pool l.fn.tree.nodes l.place l.path l.carried

abbrev pub decreases-loop-place : goal.decreases-loop-place
decreases-loop-place l = length l.fn.tree.nodes - l.place
