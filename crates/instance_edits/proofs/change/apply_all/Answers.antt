use Rattle.instance_edits.proofs.Changes.{change_small}
use Rattle.instance_edits.proofs.change.apply_all.Goals as goal

pub apply-requires-clause-room : goal.apply-requires-clause-room
apply-requires-clause-room c = λ e below. change_small _ c.args.edits.now c.loop-edit.edit-index e _ c.requires.applied c.requires.few (c.loop-edit.invariant.table e below)

pub returns-clause-at_most : goal.returns-clause-at_most
returns-clause-at_most c = λ e below. change_small _ c.args.edits.now c.loop-edit.edit-index e _ c.requires.applied c.requires.few (c.loop-edit.invariant.table e below)
