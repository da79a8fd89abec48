use Rattle.std.proofs.Common.{ℕ, ◌+◌, ◌<◌, ◌≤◌}
use Rattle.blossom_match.specs.Table.{cost}
use Rattle.blossom_match.proofs.costs.Costs.is_metric.Given as goal

abbrev pub invariant-loop-u : goal.invariant-loop-u
invariant-loop-u l = (u v w : ℕ) → u < l.u → v < l.self.size → w < l.self.size → cost l.self u w ≤ cost l.self u v + cost l.self v w
