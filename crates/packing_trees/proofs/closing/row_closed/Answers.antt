use Rattle.packing_trees.proofs.Parting.{row_from}
use Rattle.packing_trees.proofs.closing.row_closed.Goals as goal

pub returns-clause-closed : goal.returns-clause-closed
returns-clause-closed c =
    let row = row_from c.args.labels.now c.args.one c.args.capacity c.args.weights.now c.mark_parted.new.marks c.args.branch.now c.mark_parted.ensures.marked in
    ((λ is. row.0 (c.row_marked.ensures.0 is)), (λ closed. c.row_marked.ensures.1 (row.1 closed)))
