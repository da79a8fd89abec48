use Rattle.deadhead_paths.proofs.Walking.{Walked, label_to}
use Rattle.deadhead_paths.proofs.table.Distances.follow.Given as goal

abbrev pub invariant-loop-at : goal.invariant-loop-at
invariant-loop-at l = Walked l.self l.self-inside.labels.items l.from l.to l.at l.fn.walk l.walk

abbrev pub decreases-loop-at : goal.decreases-loop-at
decreases-loop-at l = label_to l.self l.self-inside.labels.items l.to l.at
