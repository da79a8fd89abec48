use Rattle.std.proofs.Common.{◌≡◌, length, get_or, arith, ap, subst, sym, ◌∙◌, true, false}
use Rattle.carp_base.specs.Problem.{IsVertex, IsReached}
use Rattle.road_network.specs.Incidence.{far_end}
use Rattle.road_network.proofs.Searching.{found_more, number_at, far_vertex, far_reached, joined_more, reaches_all, Grows-trans}
use Rattle.road_network.proofs.reach.find_neighbours.Goals as goal

pub edge-edge-requires-clause-from_one : goal.edge-edge-requires-clause-from_one
edge-edge-requires-clause-from_one c =
    (number_at c.args.inst.now c.requires.valid c.args.v c.args.edges.now c.requires.edges c.loop-e.e-index c.loop-e-test.true).from_one

pub edge-edge-requires-clause-in_range : goal.edge-edge-requires-clause-in_range
edge-edge-requires-clause-in_range c =
    (number_at c.args.inst.now c.requires.valid c.args.v c.args.edges.now c.requires.edges c.loop-e.e-index c.loop-e-test.true).in_range

pub find-requires : goal.find-requires
find-requires c =
    let vertex = far_vertex c.args.inst.now c.requires.valid c.args.v c.args.edges.now c.requires.edges c.loop-e.e-index c.loop-e-test.true in
    omega (arith, c.far_end.ensures ∙ ap (far_end c.args.v) c.edge-edge.ensures, vertex.in_range, c.loop-e.invariant.found.long)

pub loop-e-preserved : goal.loop-e-preserved
loop-e-preserved c =
    let p = c.args.inst.now in
    let v = c.args.v in
    let es = c.args.edges.now in
    let k = c.loop-e.e-index in
    let loop = c.loop-e.invariant in
    let is = c.far_end.ensures ∙ ap (far_end v) c.edge-edge.ensures in
    let vertex = subst (IsVertex p) (sym is) (far_vertex p c.requires.valid v es c.requires.edges k c.loop-e-test.true) in
    let from = subst (IsReached p) (sym is) (far_reached p c.requires.valid v es c.requires.edges k c.loop-e-test.true c.requires.from) in
    let more = found_more p c.loop-e.reached.items c.loop-e.found.items c.far_end.result loop.found vertex from
    c.find.new.reached.items c.find.new.found.items c.in_ok-find.ensures.reached c.in_ok-find.ensures.found in
    record {
      found = more.0;
      grows = Grows-trans _ _ _ _ _ _ loop.grows more.1;
      joined = joined_more p c.requires.valid v es c.requires.edges k c.loop-e-test.true c.loop-e.reached.items c.find.new.reached.items more.1.marks
          (subst (λ w. get_or c.find.new.reached.items w false ≡ true) is more.2) loop.joined;
    }

pub returns : goal.returns
returns c =
    let loop = c.loop-e.invariant in
    let all : c.loop-e.e-index ≡ length c.args.edges.now = omega arith in
    record {
      found = loop.found;
      grows = loop.grows;
      all = reaches_all c.args.inst.now c.args.v c.args.edges.now c.requires.edges c.loop-e.reached.items (λ i forward below. loop.joined i forward (omega (arith, below)));
    }
