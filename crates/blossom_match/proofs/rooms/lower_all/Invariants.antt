use Rattle.std.proofs.Common.{◌≡◌, ℕ, ◌<◌, ◌≤◌, slice_index}
use Rattle.blossom_match.specs.Views.{label_at}
use Rattle.blossom_match.specs.Rooms.{fallen}
use Rattle.blossom_match.proofs.rooms.lower_all.Given as goal

abbrev pub invariant-loop-v : goal.invariant-loop-v
invariant-loop-v l = record {
  done : (k : ℕ) → k < l.v → slice_index l.least k ≡ fallen (label_at l.label (slice_index l.top k)) (slice_index l.fn.least k) l.amount;
  rest : (k : ℕ) → l.v ≤ k → slice_index l.least k ≡ slice_index l.fn.least k;
}
