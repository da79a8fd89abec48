use Rattle.std.proofs.Common.{◌≡◌, ◌++◌, take}
use Rattle.augment_merge.specs.Joins.{reversed_tour}
use Rattle.augment_merge.proofs.tour.Tour.add_reversed.Given as goal

abbrev pub invariant-loop-i : goal.invariant-loop-i
invariant-loop-i l = l.self ≡ l.fn.self ++ take l.i (reversed_tour l.tasks)
