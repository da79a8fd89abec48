use Rattle.std.proofs.Common.{◌<◌, ◌+◌, ℕ, map, slice_index}
use Rattle.cert_format.proofs.draft.shores_rise.Given as goal

abbrev pub invariant-loop-i : goal.invariant-loop-i
invariant-loop-i l = (k : ℕ) → k + 1 < l.i → slice_index (map (λ w. w.shore) l.weights) k < slice_index (map (λ w. w.shore) l.weights) (k + 1)
