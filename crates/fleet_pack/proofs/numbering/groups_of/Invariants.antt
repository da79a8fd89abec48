use Rattle.std.proofs.Common.{◌≡◌, ◌+◌, ◌<◌, length, ℕ}
use Rattle.std.specs.Prelude.{slice_index}
use Rattle.fleet_pack.proofs.numbering.groups_of.Given as goal

abbrev pub invariant-loop-e : goal.invariant-loop-e
invariant-loop-e l = record {
  long : length l.groups.items + 1 ≡ l.e;
  groups : (k : ℕ) → k < length l.groups.items → slice_index l.groups.items k ≡ slice_index l.ranks (slice_index l.labels (k + 1));
}
