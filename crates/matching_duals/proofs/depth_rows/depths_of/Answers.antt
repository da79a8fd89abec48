use Rattle.std.proofs.Common.{◌+◌, ◌*◌, ap, ◌∙◌}
use Rattle.matching_duals.specs.Sets.{depth_by}
use Rattle.matching_duals.proofs.Rows.{depths_more}
use Rattle.matching_duals.proofs.depth_rows.depths_of.Goals as goal

pub loop-x-preserved : goal.loop-x-preserved
loop-x-preserved c =
    let table = c.args.table.now in
    let enclosing = c.args.enclosing.now in
    let members = c.args.members.now in
    rw c.in_ok-push-2.ensures.items
    (depths_more c.args.inst.now table enclosing members c.args.weight c.loop-x.x c.depth_of.result c.loop-x.depths.items c.loop-x.invariant
    (c.depth_of.ensures ∙ ap (λ n. depth_by table (c.loop-x.x * (n + 1)) enclosing c.args.weight members) c.vertices.ensures.value))
