use Rattle.std.proofs.Common.{take}
use Rattle.std.specs.List.{count_by}
use Rattle.plan_model.specs.Plans.{serves}
use Rattle.plan_model.specs.Passes.{CountsMore}
use Rattle.plan_model.proofs.served.count_walk.Given as goal

-- the counts with the steps so far
abbrev pub invariant-loop-i : goal.invariant-loop-i
invariant-loop-i l = CountsMore l.fn.counts (λ e. count_by (serves e) (take l.i l.walk)) l.counts
