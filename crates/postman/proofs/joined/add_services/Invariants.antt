use Rattle.std.proofs.Common.{◌≡◌, ℕ, ◌+◌, ◌<◌, ◌≤◌, length, get_or}
use Rattle.postman.proofs.joined.add_services.Given as goal

abbrev pub invariant-loop-i : goal.invariant-loop-i
invariant-loop-i l = record {
  long : length l.counts ≡ length l.inst.edges;
  added : (k : ℕ) → k < l.i → get_or l.counts k 0 ≡ get_or l.fn.counts k 0 + 1;
  others : (k : ℕ) → l.i ≤ k → get_or l.counts k 0 ≡ get_or l.fn.counts k 0;
}
