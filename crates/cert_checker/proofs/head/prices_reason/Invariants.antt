use Rattle.std.proofs.Common.{ℕ, ◌<◌, slice_index_or}
use Rattle.branch_rules.specs.Trees.{no_prices}
use Rattle.cert_format.specs.Good.{HasPriceEach}
use Rattle.cert_checker.proofs.head.prices_reason.Given as goal

abbrev pub invariant-loop-place : goal.invariant-loop-place
invariant-loop-place l = (k : ℕ) → k < l.place → HasPriceEach l.claim.inst.now (slice_index_or l.claim.sets.now k no_prices)
