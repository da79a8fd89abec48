use Rattle.std.proofs.Common.{ℕ, ◌<◌, List}
use Rattle.std.specs.Prelude.{slice_index_or}
use Rattle.cut_pool.specs.Shores.{Belongs}
use Rattle.price_tests.proofs.tight_prices_tests.all_belong.Given as goal

abbrev pub invariant-loop-place : goal.invariant-loop-place
invariant-loop-place l = (k : ℕ) (d : List ℕ) → k < l.place → Belongs l.inst (slice_index_or l.pool k d)
