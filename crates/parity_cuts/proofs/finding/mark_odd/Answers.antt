use Rattle.std.proofs.Common.{◌≡◌, ◌==◌, ◌&&◌, ◌%◌, false, get_or, set, ap, sym, subst, ◌∙◌, arith, inl, inr}
use Rattle.std.proofs.lemmas.Bool.{cases_eq}
use Rattle.std.proofs.lemmas.List.{length-set, get_or-set_same, get_or-set_other}
use Rattle.edge_components.specs.Labels.{is_free_label, is_kept}
use Rattle.parity_cuts.specs.OddComponents.{is_odd_border}
use Rattle.parity_cuts.proofs.finding.mark_odd.Goals as goal

pub loop-r-preserved : goal.loop-r-preserved
loop-r-preserved c =
    let p = c.args.inst.now in
    let labels = c.args.labels.now in
    let r = c.loop-r.r in
    let loop = c.loop-r.invariant in
    let marks = c.loop-r.marks in
    record {
      long = omega (arith, loop.long, length-set marks r c.is_odd.result);
      marks = λ x k vertex below. elim (cases_eq k r) [
        | inl same ↦
            subst (λ j. get_or (set marks r c.is_odd.result) j false ≡ is_kept p x labels is_odd_border j) (sym same)
            (get_or-set_same marks r c.is_odd.result false (omega (arith, loop.long, c.loop-r-test.true, c.vertices-r-end.ensures.value))
            ∙ c.is_odd.ensures ∙ ap (λ n. is_free_label p labels r && (n % 2 == 1)) (c.requires.crossings r))
        | inr other ↦ get_or-set_other marks r k c.is_odd.result false other ∙ loop.marks x k vertex (omega (arith, below, other))
      ];
    }

pub returns : goal.returns
returns c = λ x. record {
  long = c.loop-r.invariant.long;
  marks = λ r vertex. c.loop-r.invariant.marks x r vertex (omega (arith, vertex.in_range, c.loop-r-test.false, c.vertices-r-end.ensures.value));
}
