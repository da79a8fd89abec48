use Rattle.std.proofs.Common.{sym, ap, ◌∙◌, arith, slice_index_or, false, inl, inr}
use Rattle.std.proofs.lemmas.Bool.{cases_eq}
use Rattle.blossom_match.specs.Turns.{top_of, label_of}
use Rattle.blossom_match.proofs.rooms.learn_all.Goals as goal

pub loop-u-preserved : goal.loop-u-preserved
loop-u-preserved c = record {
  rooms = c.learn.ensures.rooms;
  all = λ k below outer. elim (cases_eq k c.loop-u.u) [
    | inl same ↦ ap (λ i. slice_index_or c.learn.new.known i false) same ∙ c.learn.ensures.learnt (ap (λ i. label_of c.args.state.now (top_of c.args.state.now i)) (sym same) ∙ outer)
    | inr other ↦ c.learn.ensures.keeps k (c.loop-u.invariant.all k (omega (arith, other, below)) outer)
  ];
}
