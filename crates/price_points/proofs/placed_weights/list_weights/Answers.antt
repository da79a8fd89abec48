use Rattle.std.proofs.Common.{rules}
use Rattle.price_points.proofs.Listed.{one_more, still_listed}
use Rattle.price_points.proofs.placed_weights.list_weights.Goals as goal
use Rattle.price_points.proofs.placed_weights.list_weights.Goals.{then-weight-ne0+in_ok-push, else-weight-ne0}

pub loop-shore-preserved : goal.loop-shore-preserved
loop-shore-preserved c = elim c.if-weight-ne0.branch [
  | then-weight-ne0+in_ok-push w ↦ search (rules, one_more)
  | else-weight-ne0 w ↦ search (rules, still_listed)
]
