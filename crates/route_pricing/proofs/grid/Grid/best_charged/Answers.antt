use Rattle.std.proofs.Common.{◌≡◌, ◌+◌, arith, ◌∙◌, inl, refl, subst, sym}
use Rattle.route_pricing.specs.Partial.{base, column_task, IsLeastJoin}
use Rattle.route_pricing.specs.Labels.{AreSpread, labels_at}
use Rattle.route_pricing.proofs.PartialTours.{column_required}
use Rattle.route_pricing.proofs.Passing.{best_none, best_first, best_second, none_gain, first_required, second_required, first_small_label, second_small_label}
use Rattle.route_pricing.proofs.grid.Grid.best_charged.Goals as goal

pub returns-then-x : goal.returns-then-x
returns-then-x c =
    let g = c.args.self.now in
    let r = c.requires in
    best_none g r.grid c.args.load c.as_slice-layer.result.now (subst (AreSpread g c.args.load) (sym c.as_slice-layer.ensures.value) r.layer) (column_task c.args.column) (column_required g r.grid c.args.column r.column) c.start.result c.start.ensures.value (omega (arith, c.if-x.true))

pub label_joined-first-requires-clause-value : goal.label_joined-first-requires-clause-value
label_joined-first-requires-clause-value c =
    let g = c.args.self.now in
    let r = c.requires in
    first_small_label g r.grid c.args.load c.as_slice-layer.result.now (subst (AreSpread g c.args.load) (sym c.as_slice-layer.ensures.value) r.layer) (column_task c.args.column) (column_required g r.grid c.args.column r.column) c.start.result c.start.ensures.value r.load c.if-x.false

pub label_joined-first-requires-clause-edge : goal.label_joined-first-requires-clause-edge
label_joined-first-requires-clause-edge c =
    let g = c.args.self.now in
    let r = c.requires in
    first_required g r.grid c.args.load c.as_slice-layer.result.now (subst (AreSpread g c.args.load) (sym c.as_slice-layer.ensures.value) r.layer) (column_task c.args.column) (column_required g r.grid c.args.column r.column) c.start.result c.start.ensures.value c.if-x.false

pub returns-then-first-second : goal.returns-then-first-second
returns-then-first-second c =
    let g = c.args.self.now in
    let r = c.requires in
    let n = c.label_joined-first.result in
    best_first g r.grid c.args.load c.as_slice-layer.result.now (subst (AreSpread g c.args.load) (sym c.as_slice-layer.ensures.value) r.layer) (column_task c.args.column) (column_required g r.grid c.args.column r.column) c.start.result c.start.ensures.value
    n c.label_joined-first.ensures n (omega arith) (inl refl)
    (none_gain g r.grid c.args.load c.as_slice-layer.result.now (subst (AreSpread g c.args.load) (sym c.as_slice-layer.ensures.value) r.layer) (column_task c.args.column) (column_required g r.grid c.args.column r.column) c.start.result c.start.ensures.value r.charged n) c.if-x.false (omega (arith, c.if-first-second.true, c.saturating_add-second.ensures))

pub label_joined-requires-clause-value : goal.label_joined-requires-clause-value
label_joined-requires-clause-value c =
    let g = c.args.self.now in
    let r = c.requires in
    second_small_label g r.grid c.args.load c.as_slice-layer.result.now (subst (AreSpread g c.args.load) (sym c.as_slice-layer.ensures.value) r.layer) (column_task c.args.column) (column_required g r.grid c.args.column r.column) c.start.result c.start.ensures.value r.load (omega (arith, c.if-first-second.false, c.label_joined-first.type_inv, c.saturating_add-second.ensures))

pub label_joined-requires-clause-edge : goal.label_joined-requires-clause-edge
label_joined-requires-clause-edge c =
    let g = c.args.self.now in
    let r = c.requires in
    second_required g r.grid c.args.load c.as_slice-layer.result.now (subst (AreSpread g c.args.load) (sym c.as_slice-layer.ensures.value) r.layer) (column_task c.args.column) (column_required g r.grid c.args.column r.column) c.start.result c.start.ensures.value (λ same. absurd (omega (arith, same, c.if-first-second.false, c.label_joined-first.type_inv, c.saturating_add-second.ensures)))

pub returns-then-label_joined-second : goal.returns-then-label_joined-second
returns-then-label_joined-second c =
    let g = c.args.self.now in
    let r = c.requires in
    let n = c.label_joined-first.result in
    let below = c.if-first-second.false in
    let small = second_small_label g r.grid c.args.load c.as_slice-layer.result.now (subst (AreSpread g c.args.load) (sym c.as_slice-layer.ensures.value) r.layer) (column_task c.args.column) (column_required g r.grid c.args.column r.column) c.start.result c.start.ensures.value r.load (omega (arith, below, c.label_joined-first.type_inv, c.saturating_add-second.ensures)) in
    let exact : c.saturating_add-second.result ≡ (labels_at c.as_slice-layer.result.now c.start.result).second + base = omega (arith, c.saturating_add-second.ensures, small) in
    subst (IsLeastJoin g c.args.load (column_task c.args.column)) c.if-label_joined-second.true
    (best_second g r.grid c.args.load c.as_slice-layer.result.now (subst (AreSpread g c.args.load) (sym c.as_slice-layer.ensures.value) r.layer) (column_task c.args.column) (column_required g r.grid c.args.column r.column) c.start.result c.start.ensures.value
    n c.label_joined-first.ensures n (omega arith) (inl refl)
    (none_gain g r.grid c.args.load c.as_slice-layer.result.now (subst (AreSpread g c.args.load) (sym c.as_slice-layer.ensures.value) r.layer) (column_task c.args.column) (column_required g r.grid c.args.column r.column) c.start.result c.start.ensures.value r.charged n)
    (omega (arith, exact, below)) c.label_joined.result c.label_joined.ensures (c.if-label_joined-second.true ∙ exact))
