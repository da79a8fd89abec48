use Rattle.std.proofs.Common.{◌≡◌, ◌<◌, ◌-◌, length, ℕ}
use Rattle.std.specs.Prelude.{slice_index}
use Rattle.fleet_pack.specs.Ranks.{rank}
use Rattle.fleet_pack.proofs.numbering.ranks_of.Given as goal

abbrev pub invariant-loop-e : goal.invariant-loop-e
invariant-loop-e l = record {
  long : length l.ranks.items ≡ l.e;
  count : l.count ≡ rank l.labels (l.e - 1);
  few : l.count < l.e;
  ranks : (k : ℕ) → k < l.e → slice_index l.ranks.items k ≡ rank l.labels k;
}
