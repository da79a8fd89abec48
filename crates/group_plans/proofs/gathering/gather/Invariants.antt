use Rattle.std.proofs.Common.{◌≡◌}
use Rattle.group_plans.specs.Groups.{gathered}
use Rattle.group_plans.proofs.gathering.gather.Given as goal

abbrev pub invariant-loop-place : goal.invariant-loop-place
invariant-loop-place l = l.tasks.items ≡ gathered l.groups l.group l.place
