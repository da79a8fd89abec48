use Rattle.std.proofs.Common.{◌≡◌, ◌∙◌, sym, ap, arith, Some, inl, inr}
use Rattle.std.proofs.lemmas.Bool.{cases_eq}
use Rattle.blossom_match.specs.Ways.{way_at}
use Rattle.blossom_match.proofs.Climbing.{one_less, join_is, either_join}
use Rattle.blossom_match.proofs.ways.find_join.Goals as goal

pub loop-s-preserved : goal.loop-s-preserved
loop-s-preserved c = record {
  at = either_join _ _ _ (λ t. (way_at c.args.one.now t.node ≡ Some t.one) × (way_at c.args.other.now t.node ≡ Some t.other)) c.nearer-nearest.ensures.one c.loop-s.invariant.at
      (join_is c.args.one.now c.args.other.now c.loop-s.s _ c.join_at.ensures.at);
  first = λ s j k below one other. elim (cases_eq s c.loop-s.s) [
    | inl same ↦ one_less _ _ j c.nearer-nearest.ensures.second
        (c.join_at.ensures.found j k (ap (λ x. way_at c.args.one.now x) (sym same) ∙ one) (ap (λ x. way_at c.args.other.now x) (sym same) ∙ other))
    | inr differs ↦ one_less _ _ j c.nearer-nearest.ensures.first (c.loop-s.invariant.first s j k (omega (arith, differs, below)) one other)
  ];
}
