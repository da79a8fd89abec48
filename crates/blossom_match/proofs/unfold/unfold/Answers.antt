use Rattle.std.proofs.Common.{◌<◌, refl, sym, subst, ◌∙◌, arith, inl, inr}
use Rattle.std.proofs.lemmas.Bool.{cases_eq}
use Rattle.blossom_match.specs.Turns.{top_of}
use Rattle.blossom_match.proofs.UnfoldingStates.{unfolding_begin, unfolded_end}
use Rattle.blossom_match.proofs.unfold.unfold.Goals as goal

pub loop-v-init : goal.loop-v-init
loop-v-init c = record {
  so_far = unfolding_begin c.args.costs.now c.args.state.now c.requires.between c.requires.all;
  size = refl;
  singles = λ w below. absurd (omega (arith, below));
}

pub loop-v-preserved : goal.loop-v-preserved
loop-v-preserved c =
    let i = c.loop-v.invariant in
    let o = c.open_around.ensures in
    let v_in : c.loop-v.v < c.loop-v.state.size = omega (arith, c.loop-v-test.true, i.size) in
    record {
      so_far = o.so_far;
      size = o.size ∙ i.size;
      singles = λ w below. elim (cases_eq w c.loop-v.v) [
        | inl same ↦ subst (λ x. top_of c.open_around.new.state x < c.args.state.now.size) (sym same) (omega (arith, o.single, i.size))
        | inr other ↦
            let before : top_of c.loop-v.state w < c.args.state.now.size = i.singles w (omega (arith, below, other)) in
            let after : top_of c.open_around.new.state w < c.loop-v.state.size = o.singles w (omega (arith, below, v_in)) (omega (arith, before, i.size)) in
            omega (arith, after, i.size)
      ];
    }

pub returns : goal.returns
returns c =
    let i = c.loop-v.invariant in
    unfolded_end c.args.costs.now c.loop-v.state i.so_far
    (λ v v_in. (let low : top_of c.loop-v.state v < c.args.state.now.size = i.singles v (omega (arith, v_in, i.size, c.loop-v-test.false)) in omega (arith, low, i.size)))
