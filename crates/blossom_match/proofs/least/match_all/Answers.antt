use Rattle.std.proofs.Common.{◌∙◌, sym, subst, arith, inl, inr}
use Rattle.std.proofs.lemmas.Bool.{cases_eq}
use Rattle.blossom_match.specs.Between.{HasMate}
use Rattle.blossom_match.proofs.least.match_all.Goals as goal

pub loop-v-preserved : goal.loop-v-preserved
loop-v-preserved c = record {
  size = c.match_one.ensures.keeps.size ∙ c.loop-v.invariant.size;
  between = c.match_one.ensures.between;
  treeless = c.match_one.ensures.treeless;
  so_far = λ w below. elim (cases_eq w c.loop-v.v) [
    | inl same ↦ subst (λ x. HasMate c.match_one.new.state x) (sym same) c.match_one.ensures.matched
    | inr other ↦ c.match_one.ensures.keeps.kept w (omega (arith, other, below)) (c.loop-v.invariant.so_far w (omega (arith, other, below)))
  ];
}
