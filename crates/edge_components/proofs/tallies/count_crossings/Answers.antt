use Rattle.std.proofs.Common.{◌≤◌, cond, length, arith}
use Rattle.carp_base.specs.Problem.{edge_at}
use Rattle.plan_model.specs.Plans.{crosses}
use Rattle.edge_components.specs.Labels.{has_label}
use Rattle.edge_components.proofs.Tallying.{one_more, part_most}
use Rattle.edge_components.proofs.tallies.count_crossings.Goals as goal

pub loop-e-preserved : goal.loop-e-preserved
loop-e-preserved c =
    let p = c.args.inst.now in
    let labels = c.args.labels.now in
    let e = c.loop-e.e in
    let loop = c.loop-e.invariant in
    let most : e ≤ length p.edges = omega (arith, loop.valid.required_in, c.loop-e-test.true, c.required-e-end.ensures.value) in
    let added = rw c.edge-edge.ensures at c.add_across.ensures in
    record {
      valid = loop.valid;
      long = omega (arith, loop.long, c.add_across.auto.tallies);
      counts = λ r. omega (arith, added r, loop.counts r, one_more p (λ y. cond (crosses (has_label labels r) y) 1 0) e c.loop-e.auto.e most);
      few = λ r. omega (arith, added r, loop.few r, part_most (crosses (has_label labels r) (edge_at p e)) 1, c.loop-e.auto.e);
    }
