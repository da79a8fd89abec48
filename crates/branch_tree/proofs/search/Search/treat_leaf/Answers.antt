use Rattle.std.proofs.Common.{subst}
use Rattle.branch_tree.specs.Leaves.{IsOfKind}
use Rattle.branch_tree.specs.Searches.{state_of}
use Rattle.branch_tree.specs.declared.kinds.Kind.{Kind}
use Rattle.branch_tree.proofs.Standing.{leaf_pairs, leaf_shores}
use Rattle.branch_tree.proofs.search.Search.treat_leaf.Goals as goal

pub kind_of-requires-clause-pairs : goal.kind_of-requires-clause-pairs
kind_of-requires-clause-pairs g c = leaf_pairs c.known_laws.ensures c.args.inst.now (state_of c.args.self.now) c.requires.search.held c.args.place c.args.branch.now c.requires.at

pub kind_of-requires-clause-shores : goal.kind_of-requires-clause-shores
kind_of-requires-clause-shores g c = leaf_shores c.known_laws.ensures c.args.inst.now (state_of c.args.self.now) c.requires.search.held c.args.place c.args.branch.now c.requires.at

pub close_void-requires-clause-void : goal.close_void-requires-clause-void
close_void-requires-clause-void g c = subst (λ (kind : Kind). IsOfKind c.args.inst.now c.args.self.now.pool c.args.branch.now kind) c.in-Void.is c.in_ok-kind.ensures

pub treat_open-requires-clause-not_void : goal.treat_open-requires-clause-not_void
treat_open-requires-clause-not_void g c = (subst (λ (kind : Kind). IsOfKind c.args.inst.now c.args.self.now.pool c.args.branch.now kind) c.in-Open.is c.in_ok-kind.ensures).0
