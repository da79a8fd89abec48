use Rattle.std.proofs.Common.{All}
use Rattle.price_points.specs.Weights.{IsWeighted}
use Rattle.price_points.proofs.placed_weights.shores_with_weights.Given as goal

abbrev pub invariant-loop-place : goal.invariant-loop-place
invariant-loop-place l = All (IsWeighted l.inst) l.shores.items
