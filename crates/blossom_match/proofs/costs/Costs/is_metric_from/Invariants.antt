use Rattle.std.proofs.Common.{ℕ, ◌+◌, ◌<◌, ◌≤◌}
use Rattle.blossom_match.specs.Table.{cost}
use Rattle.blossom_match.proofs.costs.Costs.is_metric_from.Given as goal

abbrev pub invariant-loop-v : goal.invariant-loop-v
invariant-loop-v l = (v w : ℕ) → v < l.v → w < l.self.size → cost l.self l.u w ≤ cost l.self l.u v + cost l.self v w
