use Rattle.tree_transfer.proofs.Nodes.{greatest}
use Rattle.tree_transfer.proofs.bounding.greatest_bound.Goals as goal

pub returns : goal.returns
returns c = greatest c.nodes_show_their_tree.ensures _ c.args.tree.now.nodes c.args.cost c.in_ok-least.least c.min.result c.requires.small c.in_ok-least.ensures c.min.ensures
