use Rattle.std.proofs.Common.{ℕ, ◌<◌}
use Rattle.postman.specs.Trails.{HasLabel}
use Rattle.postman.proofs.joined.first_other.Given as goal

abbrev pub invariant-loop-e : goal.invariant-loop-e
invariant-loop-e l = (d : ℕ) → d < l.e → HasLabel l.inst l.labels d
