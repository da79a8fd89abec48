use Rattle.std.proofs.Common.{◌≡◌, ◌≤◌, ◌<◌, ◌+◌, ◌-◌, ℕ, length, get_or}
use Rattle.local_moves.specs.Sequences.{IsNoDearer}
use Rattle.local_moves.proofs.settling.close_up.Given as goal

abbrev pub invariant-loop-at : goal.invariant-loop-at
invariant-loop-at l = record {
  one : 1 ≤ l.at;
  no_dearer : IsNoDearer l.board l.fn.sequence.items l.closed.items;
  closed : (k : ℕ) → k + 1 < length l.closed.items → k + 1 < l.at → get_or l.closed.items k 0 ≡ 0 → get_or l.closed.items (k + 1) 0 ≡ 0 → ⊥;
}

abbrev pub decreases-loop-at : goal.decreases-loop-at
decreases-loop-at l = length l.closed.items - l.at
