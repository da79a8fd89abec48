use Rattle.std.proofs.Common.{◌≤◌, length, arith}
use Rattle.carp_base.specs.Problem.{IsEdgeNumber, edge_at}
use Rattle.cut_pool.specs.Shores.{demand_inside, touches}
use Rattle.edge_components.specs.Labels.{has_label}
use Rattle.edge_components.proofs.Tallying.{one_more, part_most, demand_small}
use Rattle.edge_components.proofs.tallies.sum_demand.Goals as goal

pub loop-e-preserved : goal.loop-e-preserved
loop-e-preserved c =
    let p = c.args.inst.now in
    let labels = c.args.labels.now in
    let e = c.loop-e.e in
    let loop = c.loop-e.invariant in
    let most : e ≤ length p.edges = omega (arith, loop.valid.required_in, c.loop-e-test.true, c.required-e-end.ensures.value) in
    let number : IsEdgeNumber p e = record { from_one = c.loop-e.auto.e; in_range = most } in
    let added = rw c.edge-edge.ensures at c.add_at_ends.ensures in
    record {
      valid = loop.valid;
      long = omega (arith, loop.long, c.add_at_ends.auto.tallies);
      sums = λ r. omega (arith, added r, loop.sums r, one_more p (demand_inside (has_label labels r)) e c.loop-e.auto.e most);
      small = λ r. omega (
        arith,
        added r,
        loop.small r,
        part_most (touches (has_label labels r) (edge_at p e)) (edge_at p e).demand,
        demand_small p e loop.valid number,
        c.loop-e.auto.e,
      );
    }
