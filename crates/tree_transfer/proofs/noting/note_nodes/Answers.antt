use Rattle.std.proofs.Common.{◌∙◌}
use Rattle.std.proofs.lemmas.Result.{IfOk-weaker}
use Rattle.tree_transfer.proofs.Entries.{tree_noted}
use Rattle.tree_transfer.proofs.StandIns.{noted_tree}
use Rattle.tree_transfer.proofs.noting.note_nodes.Goals as goal

pub returns-clause-noted : goal.returns-clause-noted
returns-clause-noted c = IfOk-weaker c.note_all.result _ _ (λ entries noted. tree_noted _ c.args.tree.now.nodes entries.items noted) c.note_all.ensures

pub returns-clause-nodes : goal.returns-clause-nodes
returns-clause-nodes c =
    IfOk-weaker c.note_all.result _ _
    (λ entries noted.
    noted_tree _ c.requires.nodes.tree entries.items (tree_noted _ c.args.tree.now.nodes entries.items noted c.requires.nodes.tree c.requires.nodes.in_preorder) ∙ c.requires.nodes.in_preorder)
    c.note_all.ensures
