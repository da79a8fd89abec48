use Rattle.std.proofs.Common.{◌≡◌, take, replicate}
use Rattle.flow_cut.proofs.layers.forget.Given as goal

abbrev pub invariant-loop-depth : goal.invariant-loop-depth
invariant-loop-depth l = take l.depth-index l.level ≡ replicate l.depth-index 0
