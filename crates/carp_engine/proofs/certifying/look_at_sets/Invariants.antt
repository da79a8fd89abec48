use Rattle.std.proofs.Common.{ℕ, ◌<◌, get_or}
use Rattle.branch_rules.specs.Limits.{IsPriceSet}
use Rattle.branch_rules.specs.Prices.{Prices}
use Rattle.carp_engine.proofs.certifying.look_at_sets.Given as goal

abbrev pub invariant-loop-set : goal.invariant-loop-set
invariant-loop-set l = (k : ℕ) (d : Prices) → k < l.set-index → IsPriceSet (get_or l.sets k d)
