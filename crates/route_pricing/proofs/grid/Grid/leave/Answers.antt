use Rattle.std.proofs.Common.{◌≡◌, ℕ, true, get_or, length, arith, ap, subst, sym, ◌∙◌}
use Rattle.std.specs.List.{Contains}
use Rattle.carp_base.specs.Problem.{IsEdgeNumber, edge_at}
use Rattle.road_network.specs.Incidence.{has_end, incident}
use Rattle.route_pricing.proofs.Marking.{carries_none, carries_more, crossed_none, crossed_all, none_marked}
use Rattle.route_pricing.proofs.grid.Grid.leave.Goals as goal

pub returns-then-layer-from-clause-marked : goal.returns-then-layer-from-clause-marked
returns-then-layer-from-clause-marked c = λ but.
    none_marked c.args.self.now c.requires.grid c.args.layer.now c.args.marks.now c.args.from c.requires.layer c.if-layer-from.true but

pub loop-place-init : goal.loop-place-init
loop-place-init c =
    let g = c.args.self.now in
    let v = c.args.from in
    let complete : (e : ℕ) → IsEdgeNumber g.inst e → has_end v (edge_at g.inst e) ≡ true → Contains (incident g.inst v) e =
    subst (λ q. (e : ℕ) → IsEdgeNumber q e → has_end v (edge_at q e) ≡ true → Contains (incident q v) e) c.requires.grid.net c.degree-place-end.ensures.complete in
    record {
      degree = c.degree-place-end.ensures.value ∙ ap (λ q. length (incident q v)) c.requires.grid.net;
      on = carries_none g c.args.layer.now c.requires.layer;
      marks = c.requires.marks;
      work = omega arith;
      marked = crossed_none g c.requires.grid c.args.layer.now c.args.marks.now v complete;
    }

pub loop-place-preserved : goal.loop-place-preserved
loop-place-preserved c =
    let g = c.args.self.now in
    let v = c.args.from in
    let loop = c.loop-place.invariant in
    let one = c.cross.ensures in
    let at : get_or (incident g.inst v) c.loop-place.place 0 ≡ c.edge_at-number.result = sym (c.edge_at-number.ensures.value ∙ ap (λ q. get_or (incident q v) c.loop-place.place 0) c.requires.grid.net) in
    record {
      degree = loop.degree;
      on = carries_more g c.args.layer.now c.loop-place.layer c.cross.new.layer loop.on one.on;
      marks = one.marks;
      work = omega (arith, one.work, loop.work);
      marked = λ but. one.passed c.loop-place.place at (loop.marked but);
    }

pub returns-clause-marked : goal.returns-clause-marked
returns-clause-marked c = λ but.
    let loop = c.loop-place.invariant in
    crossed_all c.args.self.now c.requires.grid c.loop-place.layer c.loop-place.marks c.args.from c.loop-place.place (omega (arith, loop.degree, c.loop-place-test.false, c.loop-place.auto.place-end)) (loop.marked but)
