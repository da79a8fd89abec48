use Rattle.std.proofs.Common.{◌<◌, All, length}
use Rattle.shore_program.proofs.packing.ranks_by_need.Given as goal

abbrev pub invariant-loop-place : goal.invariant-loop-place
invariant-loop-place l = All (λ x. x.place < length l.cuts) l.ranks.items
