use Rattle.tree_transfer.specs.Bounding.{support_in}
use Rattle.tree_transfer.specs.Noting.{NotesAt}
use Rattle.tree_transfer.proofs.noting.note_all.Given as goal

abbrev pub invariant-loop-place : goal.invariant-loop-place
invariant-loop-place l = NotesAt (support_in l.given) l.tree.nodes l.place l.path l.entries.items
