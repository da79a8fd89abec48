use Rattle.std.proofs.Common.{◌≡◌, ℕ, ◌<◌, ◌≤◌, Some, IfSome, IsSomeAnd}
use Rattle.blossom_match.specs.Ways.{way_at}
use Rattle.blossom_match.proofs.ways.find_join.Given as goal

abbrev pub invariant-loop-s : goal.invariant-loop-s
invariant-loop-s l = record {
  at : IfSome l.nearest (λ t. (way_at l.one t.node ≡ Some t.one) × (way_at l.other t.node ≡ Some t.other));
  first : (s j k : ℕ) → s < l.s → way_at l.one s ≡ Some j → way_at l.other s ≡ Some k → IsSomeAnd l.nearest (λ t. t.one ≤ j);
}
