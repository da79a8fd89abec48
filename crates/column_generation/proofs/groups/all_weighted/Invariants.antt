use Rattle.column_generation.specs.Groups.{AreOffered}
use Rattle.column_generation.proofs.groups.all_weighted.Given as goal

abbrev pub invariant-loop-place : goal.invariant-loop-place
invariant-loop-place l = AreOffered l.inst l.groups.items
