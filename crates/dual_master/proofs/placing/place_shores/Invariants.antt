use Rattle.std.proofs.Common.{◌≡◌, length, take}
use Rattle.dual_master.specs.Floors.{shores_of}
use Rattle.dual_master.specs.Pieces.{weights_from}
use Rattle.dual_master.proofs.placing.place_shores.Given as goal

-- the shores so far are placed
abbrev pub invariant-loop-weighted : goal.invariant-loop-weighted
invariant-loop-weighted l = record {
  weights : l.weights.items ≡ weights_from 1 (take (length l.yielded) l.fn.shores.items);
  held : l.pool ≡ shores_of (take (length l.yielded) l.fn.shores.items);
}
