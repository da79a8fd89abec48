use Rattle.std.proofs.Common.{arith}
use Rattle.cut_pool.proofs.Rising.{vertices_between}
use Rattle.cut_pool.proofs.shore.Shore.is_within.Goals as goal

pub returns-then-vertex-ge1 : goal.returns-then-vertex-ge1
returns-then-vertex-ge1 c =
    let last = rw c.len.ensures.value at c.vertex-greatest.ensures in
    vertices_between c.args.inst.now c.args.self.now c.vertex-greatest.result c.vertices.result c.len.ensures.shore last c.vertices.ensures.value (omega (arith, c.if-vertex-ge1.true, c.vertex.ensures))
