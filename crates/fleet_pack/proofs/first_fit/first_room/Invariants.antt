use Rattle.std.proofs.Common.{◌<◌, ℕ, ◌+◌}
use Rattle.std.specs.Prelude.{slice_index}
use Rattle.fleet_pack.proofs.first_fit.first_room.Given as goal

abbrev pub invariant-loop-place : goal.invariant-loop-place
invariant-loop-place l = (k : ℕ) → k < l.place → l.capacity < slice_index l.loads k + l.demand
