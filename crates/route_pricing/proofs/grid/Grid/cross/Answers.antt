use Rattle.std.proofs.Common.{◌≡◌, ◌-◌, ◌≤◌, arith, ap, subst, sym, ◌∙◌, slice_index}
use Rattle.std.proofs.lemmas.List.{get_or_read}
use Rattle.carp_base.specs.Problem.{IsVertex, IsReached}
use Rattle.road_network.specs.Incidence.{far_end}
use Rattle.route_pricing.specs.Partial.{between}
use Rattle.route_pricing.specs.Labels.{Passes, labels_at}
use Rattle.route_pricing.proofs.Marking.{far_in, far_reached, crossed_more, work_marked, marked_before}
use Rattle.route_pricing.proofs.grid.Grid.cross.Goals as goal

pub pass-requires-clause-reached : goal.pass-requires-clause-reached
pass-requires-clause-reached c = λ reached.
    let g = c.args.self.now in
    let n = c.index-length.result.now in
    let is : n ≡ slice_index g.lengths.items (c.args.number - 1) = get_or_read g.lengths.items _ _ (omega (arith, c.requires.grid.lengths_long, c.requires.number.from_one, c.requires.number.in_range)) c.index-length.ensures 0 in
    let to_is = c.far_end-to.ensures ∙ ap (far_end c.args.from) c.edge.ensures in
    subst (λ h. IsReached g.inst h × (between g c.args.from h ≤ n)) (sym to_is) (far_reached g c.requires.grid c.args.number c.args.from n c.requires.number c.requires.there is reached)

pub returns-then-pass-clause-work : goal.returns-then-pass-clause-work
returns-then-pass-clause-work c =
    let g = c.args.self.now in
    let to_is = c.far_end-to.ensures ∙ ap (far_end c.args.from) c.edge.ensures in
    let to_in = subst (IsVertex g.inst) (sym to_is) (far_in g c.requires.grid c.args.number c.args.from c.requires.number c.requires.there) in
    work_marked c.args.marks.now c.far_end-to.result (omega (arith, to_in.in_range, c.requires.marks)) c.args.layer.now c.pass.new.layer (c.pass.ensures.fewer c.if-pass.true)

pub returns-then-pass-clause-passed : goal.returns-then-pass-clause-passed
returns-then-pass-clause-passed c = λ place at before.
    let g = c.args.self.now in
    let n = c.index-length.result.now in
    let is : n ≡ slice_index g.lengths.items (c.args.number - 1) = get_or_read g.lengths.items _ _ (omega (arith, c.requires.grid.lengths_long, c.requires.number.from_one, c.requires.number.in_range)) c.index-length.ensures 0 in
    let to_is = c.far_end-to.ensures ∙ ap (far_end c.args.from) c.edge.ensures in
    let to_in = subst (IsVertex g.inst) (sym to_is) (far_in g c.requires.grid c.args.number c.args.from c.requires.number c.requires.there) in
    crossed_more g c.requires.grid c.args.layer.now c.pass.new.layer c.args.marks.now _ c.args.from c.args.number place n c.pass.ensures.on c.requires.number is
    (λ h none.
    let m = marked_before c.args.marks.now c.far_end-to.result (omega (arith, to_in.in_range, c.requires.marks)) h none in
    (m.1, c.pass.ensures.others h m.0))
    (subst (λ h. Passes (labels_at c.args.layer.now c.args.from) n (labels_at c.pass.new.layer h)) to_is c.pass.ensures.passes) at before

pub returns-else-pass-clause-passed : goal.returns-else-pass-clause-passed
returns-else-pass-clause-passed c = λ place at before.
    let g = c.args.self.now in
    let n = c.index-length.result.now in
    let is : n ≡ slice_index g.lengths.items (c.args.number - 1) = get_or_read g.lengths.items _ _ (omega (arith, c.requires.grid.lengths_long, c.requires.number.from_one, c.requires.number.in_range)) c.index-length.ensures 0 in
    let to_is = c.far_end-to.ensures ∙ ap (far_end c.args.from) c.edge.ensures in
    crossed_more g c.requires.grid c.args.layer.now c.pass.new.layer c.args.marks.now c.args.marks.now c.args.from c.args.number place n c.pass.ensures.on c.requires.number is
    (λ h none. (none, ap (λ l. labels_at l h) (c.pass.ensures.still c.if-pass.false)))
    (subst (λ h. Passes (labels_at c.args.layer.now c.args.from) n (labels_at c.pass.new.layer h)) to_is c.pass.ensures.passes) at before
