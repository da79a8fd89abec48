use Rattle.std.proofs.Common.{◌≡◌, ◌&&◌, ℕ, List, get_or, ap, ◌∙◌, arith}
use Rattle.std.proofs.lemmas.List.{length_push}
use Rattle.cut_pool.specs.Shores.{required_crossings, touched}
use Rattle.edge_components.specs.Labels.{has_label, is_free_label, is_kept}
use Rattle.capacity_cuts.specs.Components.{is_needy_border}
use Rattle.capacity_cuts.proofs.Needy.{marks_more}
use Rattle.capacity_cuts.proofs.components.needy_labels.Goals as goal

pub loop-r-preserved : goal.loop-r-preserved
loop-r-preserved c =
    let p = c.args.inst.now in
    let labels = c.args.labels.now in
    let r = c.loop-r.r in
    let loop = c.loop-r.invariant in
    let marks = c.loop-r.marks.items in
    let needy = c.is_needy_label-needy.result in
    let free = is_free_label p labels r in
    let border = is_needy_border p c.args.unit in
    let crossings : get_or c.deref.result.now r 0 ≡ required_crossings p (has_label labels r) =
    ap (λ (l : List ℕ). get_or l r 0) c.deref.ensures.value ∙ c.in_ok-crossings.ensures.counts r in
    let demand : get_or c.deref-in-loop-r.result.now r 0 ≡ touched p (has_label labels r) =
    ap (λ (l : List ℕ). get_or l r 0) c.deref-in-loop-r.ensures.value ∙ c.in_ok-demand.ensures.sums r in
    let parts = ap (λ (l : List ℕ). get_or l r 0) c.deref-in-loop-r-2.ensures.value ∙ c.in_ok-parts.ensures.sums r in
    let is =
    c.is_needy_label-needy.ensures
    ∙ ap (λ n. free && border n (get_or c.deref-in-loop-r.result.now r 0) (get_or c.deref-in-loop-r-2.result.now r 0)) crossings
    ∙ ap (λ n. free && border (required_crossings p (has_label labels r)) n (get_or c.deref-in-loop-r-2.result.now r 0)) demand
    ∙ ap (λ n. free && border (required_crossings p (has_label labels r)) (touched p (has_label labels r)) n) parts in
    rw c.in_ok-push-2.ensures.items (record {
      long = omega (arith, loop.long, length_push marks needy);
      marks = marks_more p (is_kept p c.args.x.now labels border) marks r needy loop.long loop.marks is;
    })
