use Rattle.std.proofs.Common.{◌≡◌, take}
use Rattle.cert_format.proofs.draft.walk_of.Given as goal

abbrev pub invariant-loop-step : goal.invariant-loop-step
invariant-loop-step l = l.walk ≡ take l.step-index l.steps
