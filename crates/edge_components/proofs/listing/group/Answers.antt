use Rattle.std.proofs.Common.{get_or, arith}
use Rattle.std.proofs.lemmas.List.{length-set}
use Rattle.carp_base.specs.Problem.{IsVertex}
use Rattle.edge_components.proofs.Grouping.{grouped_more}
use Rattle.edge_components.proofs.listing.group.Goals as goal

pub loop-v-preserved : goal.loop-v-preserved
loop-v-preserved c =
    let p = c.args.inst.now in
    let labels = c.args.labels.now in
    let v = c.loop-v.v in
    let loop = c.loop-v.invariant in
    let vertex : IsVertex p v = record { from_one = c.loop-v.auto.v; in_range = omega (arith, c.loop-v-test.true, c.vertices-v-end.ensures.value) } in
    record {
      long = omega (arith, loop.long, length-set c.loop-v.groups.items (get_or labels v 0) c.push.new.self);
      lists =
          grouped_more labels p.vertices v c.loop-v.groups.items c.index_mut.result.now c.push.new.self c.loop-v.auto.v loop.long loop.lists
          (c.requires.within v vertex).in_range c.index_mut.ensures.value c.in_ok-push.ensures.items;
    }
