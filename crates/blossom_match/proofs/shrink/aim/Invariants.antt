use Rattle.std.proofs.Common.{◌≡◌, ℕ}
use Rattle.blossom_match.specs.declared.state.Label.TheVariants.{Inner}
use Rattle.blossom_match.specs.Views.{label_at, link_at}
use Rattle.blossom_match.specs.Ways.{AreAimed}
use Rattle.blossom_match.proofs.shrink.aim.Given as goal

abbrev pub invariant-loop-s : goal.invariant-loop-s
invariant-loop-s l = record {
  aimed : AreAimed l.s l.mate l.label l.entry;
  inner : (k : ℕ) → label_at l.label k ≡ Inner → link_at l.entry k ≡ link_at l.fn.entry k;
}
