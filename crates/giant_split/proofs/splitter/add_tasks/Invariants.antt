use Rattle.std.proofs.Common.{◌≡◌, ◌++◌, take}
use Rattle.deadhead_paths.specs.Tours.{tasks_of}
use Rattle.giant_split.proofs.splitter.add_tasks.Given as goal

abbrev pub invariant-loop-i : goal.invariant-loop-i
invariant-loop-i l = l.order.items ≡ l.fn.order.items ++ tasks_of (take l.i l.walk)
