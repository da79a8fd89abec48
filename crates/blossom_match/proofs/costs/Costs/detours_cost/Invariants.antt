use Rattle.std.proofs.Common.{ℕ, ◌+◌, ◌<◌, ◌≤◌}
use Rattle.blossom_match.specs.Table.{cost}
use Rattle.blossom_match.proofs.costs.Costs.detours_cost.Given as goal

abbrev pub invariant-loop-w : goal.invariant-loop-w
invariant-loop-w l = (w : ℕ) → w < l.w → cost l.self l.u w ≤ cost l.self l.u l.v + cost l.self l.v w
