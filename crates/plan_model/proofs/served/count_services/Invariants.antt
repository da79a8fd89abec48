use Rattle.std.proofs.Common.{◌≡◌, ℕ, ◌+◌, ◌<◌, take, length, min, get_or}
use Rattle.plan_model.specs.Plans.{services_of}
use Rattle.plan_model.proofs.served.count_services.Given as goal

-- the counts of the walks so far
abbrev pub invariant-loop-tour : goal.invariant-loop-tour
invariant-loop-tour l = (k : ℕ) → k < length l.counts → get_or l.counts k 0 ≡ min 2 (services_of (k + 1) (take l.tour l.plan))
