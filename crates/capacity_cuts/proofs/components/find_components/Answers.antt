use Rattle.std.proofs.Common.{◌≡◌, ℕ, List, Bool, Vec, Global, length, subst, sym, ap, ◌∙◌}
use Rattle.std.proofs.lemmas.Result.{IfOk-weaker}
use Rattle.edge_components.specs.Components.{AreAll, PassesTest}
use Rattle.edge_components.specs.Labels.{AreKept, AreLabels, marked_shores}
use Rattle.capacity_cuts.specs.Components.{IsNeedyComponent, is_needy_border}
use Rattle.capacity_cuts.proofs.Needy.{needy_ones}
use Rattle.capacity_cuts.proofs.components.find_components.Goals as goal

pub list_marked-requires-clause-marks : goal.list_marked-requires-clause-marks
list_marked-requires-clause-marks c = ap (λ (l : List Bool). length l) c.deref-3.ensures.value ∙ c.in_ok-marks.ensures.long

pub list_marked-requires-clause-roots : goal.list_marked-requires-clause-roots
list_marked-requires-clause-roots c =
    let p = c.args.inst.now in
    let labels : c.deref.result.now ≡ c.deref-2.result.now = c.deref.ensures.value ∙ sym c.deref-2.ensures.value in
    let kept = subst (λ (l : List ℕ). AreKept p c.args.x.now l (is_needy_border p c.args.unit) c.deref-3.result.now) labels
    (subst (λ (m : List Bool). AreKept p c.args.x.now c.deref.result.now (is_needy_border p c.args.unit) m) (sym c.deref-3.ensures.value) c.in_ok-marks.ensures) in
    c.kept_labels_are_components.ensures.roots p c.args.x.now c.deref-2.result.now (is_needy_border p c.args.unit) c.deref-3.result.now kept

pub returns : goal.returns
returns c =
    let p = c.args.inst.now in
    let x = c.args.x.now in
    let labels : c.deref.result.now ≡ c.deref-2.result.now = c.deref.ensures.value ∙ sym c.deref-2.ensures.value in
    let kept = subst (λ (l : List ℕ). AreKept p x l (is_needy_border p c.args.unit) c.deref-3.result.now) labels
    (subst (λ (m : List Bool). AreKept p x c.deref.result.now (is_needy_border p c.args.unit) m) (sym c.deref-3.ensures.value) c.in_ok-marks.ensures) in
    let are = subst (λ (l : List ℕ). AreLabels p x c.args.unit l) (sym c.deref-2.ensures.value) c.in_ok-labels.ensures in
    let all = c.kept_labels_are_components.ensures.components p x c.args.unit c.deref-2.result.now (is_needy_border p c.args.unit) c.deref-3.result.now c.validity.ensures are kept in
    IfOk-weaker c.list_marked.result
    (λ (shores : Vec (List ℕ) Global). shores.items ≡ marked_shores c.deref-2.result.now c.deref-3.result.now p.vertices p.vertices)
    (λ (shores : Vec (List ℕ) Global). AreAll (IsNeedyComponent p c.args.unit x) shores.items)
    (λ shores is. needy_ones p c.args.unit x shores.items (subst (λ (l : List (List ℕ)). AreAll (PassesTest p x c.args.unit (is_needy_border p c.args.unit)) l) (sym is) all))
    c.list_marked.ensures
