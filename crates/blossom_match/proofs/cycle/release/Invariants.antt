use Rattle.std.proofs.Common.{◌≡◌, ℕ, ◌<◌, ◌≤◌, cond, slice_index}
use Rattle.blossom_match.specs.Views.{holds}
use Rattle.blossom_match.proofs.cycle.release.Given as goal

abbrev pub invariant-loop-v : goal.invariant-loop-v
invariant-loop-v l = record {
  done : (k : ℕ) → k < l.v → slice_index l.top k ≡ cond (holds l.size l.held l.part k) l.part (slice_index l.fn.top k);
  rest : (k : ℕ) → l.v ≤ k → slice_index l.top k ≡ slice_index l.fn.top k;
}
