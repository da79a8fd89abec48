use Rattle.packing_trees.proofs.Weighing.{small_table}
use Rattle.packing_trees.proofs.Parting.{labels_in, all_from, rows_from}
use Rattle.packing_trees.proofs.closing.all_closed.Goals as goal

pub rows_closed-requires-clause-table : goal.rows_closed-requires-clause-table
rows_closed-requires-clause-table c = rw (c.deref.ensures.value, c.deref-2.ensures.value) (small_table c.args.inst.now c.args.branch.now _ _ c.capacity-capacity.ensures.valid c.requires.bundles)

pub rows_closed-requires-clause-within : goal.rows_closed-requires-clause-within
rows_closed-requires-clause-within c = rw c.deref.ensures.value (labels_in c.args.inst.now c.args.branch.now _ _ c.requires.bundles c.requires.choices)

pub returns : goal.returns
returns c =
    let p = c.args.inst.now in
    let rows = rw (c.deref.ensures.value, c.deref-2.ensures.value, c.capacity-capacity.ensures.value) at c.rows_closed.ensures in (
      (λ is. all_from p c.args.branch.now c.args.bundles.now.labels.items c.args.bundles.now.weights.items c.requires.bundles c.requires.choices (rows.0 is)),
      (λ all. rows.1 (rows_from p c.args.branch.now c.args.bundles.now.labels.items c.args.bundles.now.weights.items c.requires.bundles c.requires.choices all)),
    )
