use Rattle.std.proofs.Common.{◌≡◌, ℕ, List, Bool, Vec, Global, [], length, subst, sym, ap, ◌∙◌}
use Rattle.std.proofs.lemmas.Result.{IfOk-weaker}
use Rattle.edge_components.specs.Components.{AreAll, PassesTest}
use Rattle.edge_components.specs.Labels.{AreKept, AreLabels, marked_shores}
use Rattle.parity_cuts.specs.OddComponents.{IsOddComponent, is_odd_border}
use Rattle.parity_cuts.proofs.Odd.{odd_ones}
use Rattle.parity_cuts.proofs.finding.find.Goals as goal

pub list_marked-requires-clause-marks : goal.list_marked-requires-clause-marks
list_marked-requires-clause-marks c = ap (λ (l : List Bool). length l) c.deref-3.ensures.value ∙ (c.in_ok-marks.ensures []).long

pub list_marked-requires-clause-roots : goal.list_marked-requires-clause-roots
list_marked-requires-clause-roots c =
    let p = c.args.inst.now in
    let labels : c.deref.result.now ≡ c.deref-2.result.now = c.deref.ensures.value ∙ sym c.deref-2.ensures.value in
    let kept = subst (λ (l : List ℕ). AreKept p [] l is_odd_border c.deref-3.result.now) labels
    (subst (λ (m : List Bool). AreKept p [] c.deref.result.now is_odd_border m) (sym c.deref-3.ensures.value) (c.in_ok-marks.ensures [])) in
    c.kept_labels_are_components.ensures.roots p [] c.deref-2.result.now is_odd_border c.deref-3.result.now kept

pub returns : goal.returns
returns c =
    let p = c.args.inst.now in
    let x = c.args.x.now in
    let labels : c.deref.result.now ≡ c.deref-2.result.now = c.deref.ensures.value ∙ sym c.deref-2.ensures.value in
    let kept = subst (λ (l : List ℕ). AreKept p x l is_odd_border c.deref-3.result.now) labels
    (subst (λ (m : List Bool). AreKept p x c.deref.result.now is_odd_border m) (sym c.deref-3.ensures.value) (c.in_ok-marks.ensures x)) in
    let are = subst (λ (l : List ℕ). AreLabels p x 1 l) (sym c.deref-2.ensures.value) c.in_ok-labels.ensures in
    let all = c.kept_labels_are_components.ensures.components p x 1 c.deref-2.result.now is_odd_border c.deref-3.result.now c.validity.ensures are kept in
    IfOk-weaker c.list_marked.result
    (λ (shores : Vec (List ℕ) Global). shores.items ≡ marked_shores c.deref-2.result.now c.deref-3.result.now p.vertices p.vertices)
    (λ (shores : Vec (List ℕ) Global). AreAll (IsOddComponent p x) shores.items)
    (λ shores is. odd_ones p x shores.items (subst (λ (l : List (List ℕ)). AreAll (PassesTest p x 1 is_odd_border) l) (sym is) all))
    c.list_marked.ensures
