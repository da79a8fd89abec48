use Rattle.std.proofs.Common.{◌≡◌, ◌<◌, ℕ, true, false}
use Rattle.std.specs.Prelude.{MatchOption, slice_index_or}
use Rattle.augment_merge.specs.Absorbing.{IsDearest}
use Rattle.augment_merge.proofs.augmenting.dearest.Given as goal

abbrev pub invariant-loop-place : goal.invariant-loop-place
invariant-loop-place l = MatchOption l.best ((k : ℕ) → k < l.place → slice_index_or l.flags k false ≡ true) (IsDearest l.costs l.flags l.place)
