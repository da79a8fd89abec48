use Rattle.std.proofs.Common.{◌≡◌, [], ◌∙◌, sym, arith}
use Rattle.packing_trees.specs.Trees.{PackTree, pair, share, settled, preorder}
use Rattle.fleet_pack.proofs.examples.what_a_tree_of_an_answer_is.Goals as goal

pub returns-clause-nothing : goal.returns-clause-nothing
returns-clause-nothing c found nodes count bound turns = record {
  tree = share 0;
  nodes_are = sym nodes;
  pairs = tt;
  lean = tt;
  shows = (omega arith, omega (arith, bound));
  most = omega (arith, bound);
  greatest = λ b le shown. omega (arith, le, count);
  turns_are = rw count turns;
}

some_node : (tree : PackTree) → preorder tree ≡ [] → ⊥
some_node (pair a b together apart) none = cc
some_node (share s) none = cc
some_node settled none = cc

pub returns-clause-no_node : goal.returns-clause-no_node
returns-clause-no_node c found none has = some_node has.tree (has.nodes_are ∙ none)
