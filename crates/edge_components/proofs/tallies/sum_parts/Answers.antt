use Rattle.std.proofs.Common.{◌+◌, ◌≤◌, length, get_or, ap, arith}
use Rattle.std.specs.Prelude.{if◌then◌else◌}
use Rattle.carp_base.specs.Problem.{IsEdgeNumber, edge_at}
use Rattle.plan_model.specs.Plans.{crosses}
use Rattle.edge_components.specs.Parts.{parts_of}
use Rattle.edge_components.specs.Labels.{has_label}
use Rattle.edge_components.proofs.Tallying.{sum_next, parts_next, part_most}
use Rattle.edge_components.proofs.tallies.sum_parts.Goals as goal

pub add_across-requires-clause-small : goal.add_across-requires-clause-small
add_across-requires-clause-small c = λ r.
    let i = c.loop-i.i in
    let below : i + 1 ≤ length c.args.inst.now.edges = omega (arith, c.loop-i-test.true, c.edge_count-i-end.ensures.value) in
    omega (
      arith,
      c.loop-i.invariant.small r,
      c.requires.parts.small (i + 1) (record { from_one = omega arith; in_range = below }),
      parts_next c.args.x.now i,
      below,
      c.loop-i.invariant.valid.few_edges,
    )

pub loop-i-preserved : goal.loop-i-preserved
loop-i-preserved c =
    let p = c.args.inst.now in
    let labels = c.args.labels.now in
    let x = c.args.x.now in
    let i = c.loop-i.i in
    let loop = c.loop-i.invariant in
    let below : i + 1 ≤ length p.edges = omega (arith, c.loop-i-test.true, c.edge_count-i-end.ensures.value) in
    let number : IsEdgeNumber p (i + 1) = record { from_one = omega arith; in_range = below } in
    let added = rw c.edge-edge.ensures at c.add_across.ensures in
    record {
      valid = loop.valid;
      long = omega (arith, loop.long, c.add_across.auto.tallies);
      sums = λ r. omega (
        arith,
        added r,
        loop.sums r,
        sum_next (λ e. if crosses (has_label labels r) (edge_at p e) then parts_of x e else 0) i,
        ap (λ n. if crosses (has_label labels r) (edge_at p (i + 1)) then n else 0) (parts_next x i),
      );
      small = λ r. omega (
        arith,
        added r,
        loop.small r,
        part_most (crosses (has_label labels r) (edge_at p (i + 1))) (get_or x i 0),
        c.requires.parts.small (i + 1) number,
        parts_next x i,
      );
    }
