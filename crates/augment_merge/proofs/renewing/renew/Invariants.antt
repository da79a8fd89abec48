use Rattle.std.proofs.Common.{◌≡◌, ◌<◌, ◌≤◌, ℕ, length}
use Rattle.std.specs.Prelude.{None, slice_index_or}
use Rattle.augment_merge.specs.Outlines.{FindsBest, IsRowJoin}
use Rattle.augment_merge.proofs.renewing.renew.Given as goal

abbrev pub invariant-loop-first : goal.invariant-loop-first
invariant-loop-first l = record {
  done : (k : ℕ) → k < l.first → FindsBest (IsRowJoin l.inst l.outlines k (length l.outlines)) (slice_index_or l.rows k None);
  rest : (k : ℕ) → l.first ≤ k → slice_index_or l.rows k None ≡ slice_index_or l.fn.rows k None;
}
