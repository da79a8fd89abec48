use Rattle.std.proofs.Common.{slice_index}
use Rattle.route_pricing.specs.Partial.{column_task, cell_place}
use Rattle.route_pricing.specs.Retracing.{IsTracing}
use Rattle.route_pricing.proofs.retracing.trace.Given as goal

abbrev pub invariant-loop-load : goal.invariant-loop-load
invariant-loop-load l =
    IsTracing l.grid (column_task l.fn.end.column) l.fn.end.load (slice_index l.cells (cell_place l.grid l.fn.end.load l.fn.end.column)) l.turn l.fn.tasks.items l.load l.column l.tasks.items

abbrev pub decreases-loop-load : goal.decreases-loop-load
decreases-loop-load l = l.load
