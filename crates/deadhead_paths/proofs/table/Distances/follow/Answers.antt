use Rattle.std.proofs.Common.{length, arith, ap, subst, ◌∙◌}
use Rattle.carp_base.specs.Problem.{edge_at}
use Rattle.deadhead_paths.specs.Table.{IsTable}
use Rattle.deadhead_paths.proofs.Reading.{next_place}
use Rattle.deadhead_paths.proofs.Walking.{walk_none, walk_done, step_number, step_room, step_more}
use Rattle.deadhead_paths.proofs.table.Distances.follow.Goals as goal

pub loop-at-init : goal.loop-at-init
loop-at-init c =
    let inside = c.self.inside in
    let table = subst (λ y. IsTable y inside.labels.items inside.nexts.items) c.self.view_is c.self.invariant in
    walk_none c.args.self.now inside.labels.items inside.nexts.items table c.args.from c.args.to c.requires.to c.args.walk.now c.requires.from c.requires.linked

pub place-requires-clause-from : goal.place-requires-clause-from
place-requires-clause-from c = c.loop-at.invariant.at_in

pub index-next-requires : goal.index-next-requires
index-next-requires c =
    let inside = c.self.inside in
    let table = subst (λ y. IsTable y inside.labels.items inside.nexts.items) c.self.view_is c.self.invariant in
    omega (
      arith,
      inside.nexts.ok.0,
      next_place c.args.self.now inside.labels.items inside.nexts.items table c.args.to c.loop-at.at c.place.result c.requires.to c.loop-at.invariant.at_in c.place.ensures,
    )

pub edge-edge-requires-clause-from_one : goal.edge-edge-requires-clause-from_one
edge-edge-requires-clause-from_one c =
    let inside = c.self.inside in
    let table = subst (λ y. IsTable y inside.labels.items inside.nexts.items) c.self.view_is c.self.invariant in
    (step_number c.args.self.now inside.labels.items inside.nexts.items table c.args.from c.args.to c.requires.to c.loop-at.at c.args.walk.now c.loop-at.walk
    c.loop-at.invariant c.loop-at-test.true c.place.result c.index-next.result.now c.place.ensures c.index-next.ensures).from_one

pub edge-edge-requires-clause-in_range : goal.edge-edge-requires-clause-in_range
edge-edge-requires-clause-in_range c =
    let inside = c.self.inside in
    let table = subst (λ y. IsTable y inside.labels.items inside.nexts.items) c.self.view_is c.self.invariant in
    let number = step_number c.args.self.now inside.labels.items inside.nexts.items table c.args.from c.args.to c.requires.to c.loop-at.at c.args.walk.now c.loop-at.walk
    c.loop-at.invariant c.loop-at-test.true c.place.result c.index-next.result.now c.place.ensures c.index-next.ensures in
    omega (arith, number.in_range, ap (λ y. length y.problem.edges) c.self.view_is)

pub push-requires : goal.push-requires
push-requires c =
    let inside = c.self.inside in
    let table = subst (λ y. IsTable y inside.labels.items inside.nexts.items) c.self.view_is c.self.invariant in
    step_room c.args.self.now inside.labels.items inside.nexts.items table c.args.from c.args.to c.requires.to c.loop-at.at c.args.walk.now c.loop-at.walk
    c.loop-at.invariant c.loop-at-test.true c.place.result c.index-next.result.now c.place.ensures c.index-next.ensures c.requires.room

pub loop-at-smaller : goal.loop-at-smaller
loop-at-smaller c =
    let inside = c.self.inside in
    let table = subst (λ y. IsTable y inside.labels.items inside.nexts.items) c.self.view_is c.self.invariant in
    (step_more c.args.self.now inside.labels.items inside.nexts.items table c.args.from c.args.to c.requires.to c.loop-at.at c.args.walk.now c.loop-at.walk
    c.loop-at.invariant c.loop-at-test.true c.place.result c.index-next.result.now c.place.ensures c.index-next.ensures
    c.edge-edge.result c.far_end-at.result c.push.new.self (c.edge-edge.ensures ∙ ap (λ y. edge_at y.problem c.index-next.result.now) c.self.view_is) c.far_end-at.ensures c.in_ok-push.ensures.ok).1

pub loop-at-preserved : goal.loop-at-preserved
loop-at-preserved c =
    let inside = c.self.inside in
    let table = subst (λ y. IsTable y inside.labels.items inside.nexts.items) c.self.view_is c.self.invariant in
    (step_more c.args.self.now inside.labels.items inside.nexts.items table c.args.from c.args.to c.requires.to c.loop-at.at c.args.walk.now c.loop-at.walk
    c.loop-at.invariant c.loop-at-test.true c.place.result c.index-next.result.now c.place.ensures c.index-next.ensures
    c.edge-edge.result c.far_end-at.result c.push.new.self (c.edge-edge.ensures ∙ ap (λ y. edge_at y.problem c.index-next.result.now) c.self.view_is) c.far_end-at.ensures c.in_ok-push.ensures.ok).0

pub returns : goal.returns
returns c =
    let inside = c.self.inside in
    let table = subst (λ y. IsTable y inside.labels.items inside.nexts.items) c.self.view_is c.self.invariant in
    walk_done c.args.self.now inside.labels.items inside.nexts.items table c.args.from c.args.to c.requires.to c.loop-at.at c.args.walk.now c.loop-at.walk
    c.requires.from c.loop-at.invariant c.loop-at-test.false
