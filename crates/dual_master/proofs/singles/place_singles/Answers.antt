use Rattle.std.proofs.Common.{rules}
use Rattle.carp_base.specs.Problem.{IsVertex}
use Rattle.dual_master.proofs.PlacedSingles.{one_vertex_more, tried_belongs}
use Rattle.dual_master.proofs.singles.place_singles.Goals as goal

pub loop-v-preserved : goal.loop-v-preserved
loop-v-preserved c =
    let p = c.args.inst.now in
    let v = c.loop-v.v in
    let vertex : IsVertex p v = search rules in
    record {
      singles = one_vertex_more p c.args.pool.now c.loop-v.pool c.place_single.new.pool v vertex.from_one c.loop-v.invariant.singles c.in_ok-place_single.ensures.ok;
      belong = tried_belongs p c.loop-v.pool c.place_single.new.pool v vertex c.in_ok-place_single.ensures.ok c.loop-v.invariant.belong;
    }
