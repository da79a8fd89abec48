use Rattle.std.proofs.Common.{◌≢◌, ℕ, slice_index}
use Rattle.flow_cut.specs.Flows.{IsWithinRooms}
use Rattle.flow_cut.specs.Residual.{Brings, Carries}
use Rattle.flow_cut.specs.Layers.{FitsTo}
use Rattle.flow_cut.proofs.paths.send.Given as goal

abbrev pub invariant-loop-v : goal.invariant-loop-v
invariant-loop-v l = record {
  rooms : IsWithinRooms l.arcs l.flows;
  reached : slice_index l.layers.level.items l.v ≢ 0;
  full : slice_index l.layers.level.items l.full ≢ 0;
  later : l.full ≢ l.ends.source;
  fits : FitsTo l.arcs l.flows l.layers.level.items l.layers.via.items l.amount l.v;
  carries : (value : ℕ) → Brings l.arcs l.ends.source l.ends.target value l.fn.flows → Carries l.arcs l.ends.source l.v l.ends.target value l.amount l.flows;
}

abbrev pub decreases-loop-v : goal.decreases-loop-v
decreases-loop-v l = slice_index l.layers.level.items l.v
