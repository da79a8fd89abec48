use Rattle.std.proofs.Common.{◌-◌, ◌<◌, length, get_or, arith}
use Rattle.std.specs.Prelude.{vec_len}
use Rattle.cut_pool.proofs.Rising.{rises, mark_more}
use Rattle.cut_pool.proofs.shore.marks_of.Goals as goal

pub index_mut-requires : goal.index_mut-requires
index_mut-requires c =
    let list = c.args.list.now in
    omega (arith, c.loop-vertex.invariant.room, rises list c.requires.rising c.loop-vertex.vertex-index (length list - 1) (omega (arith, c.loop-vertex-test.true)) (omega (arith, c.loop-vertex-test.true)))

pub loop-vertex-preserved : goal.loop-vertex-preserved
loop-vertex-preserved c =
    let list = c.args.list.now in
    let room : get_or list c.loop-vertex.vertex-index 0 < vec_len c.loop-vertex.marks =
    omega (arith, c.loop-vertex.invariant.room, rises list c.requires.rising c.loop-vertex.vertex-index (length list - 1) (omega (arith, c.loop-vertex-test.true)) (omega (arith, c.loop-vertex-test.true))) in
    record {
      room = c.loop-vertex.invariant.room;
      marks = mark_more list c.loop-vertex.marks.items c.loop-vertex.vertex-index c.loop-vertex-test.true (omega (arith, room, c.loop-vertex.marks.ok)) c.loop-vertex.invariant.marks;
    }
