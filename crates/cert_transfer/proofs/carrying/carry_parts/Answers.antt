use Rattle.std.proofs.Common.{sym, subst, ◌∙◌}
use Rattle.tree_transfer.specs.Shown.{AreCarried, AreTreeNodes}
use Rattle.cert_transfer.proofs.carrying.carry_parts.Goals as goal

pub carry_tree-requires : goal.carry_tree-requires
carry_tree-requires c =
    subst (λ pool. AreTreeNodes c.args.inst.now pool c.args.cert.now.tree.nodes) (sym c.in_ok-copies.ensures.shores) c.requires.nodes

pub greatest_bound-requires-clause-shows : goal.greatest_bound-requires-clause-shows
greatest_bound-requires-clause-shows c =
    let same_sets = c.deref.ensures.value ∙ c.in_ok-copies.ensures.sets in
    let carried = subst (λ pool. AreCarried c.args.inst.now pool c.args.cert.now.tree.nodes c.in_ok-tree.tree.nodes) c.in_ok-copies.ensures.shores c.in_ok-tree.ensures.carried in
    rw (c.in_ok-copies.ensures.shores, same_sets) (c.requires.shows c.in_ok-tree.tree.nodes carried)

pub greatest_bound-requires-clause-shores : goal.greatest_bound-requires-clause-shores
greatest_bound-requires-clause-shores c =
    let same_sets = c.deref.ensures.value ∙ c.in_ok-copies.ensures.sets in
    rw (c.in_ok-copies.ensures.shores, same_sets) c.requires.shores

pub returns-clause-carried : goal.returns-clause-carried
returns-clause-carried c =
    subst (λ pool. AreCarried c.args.inst.now pool c.args.cert.now.tree.nodes c.in_ok-tree.tree.nodes) c.in_ok-copies.ensures.shores c.in_ok-tree.ensures.carried

pub returns-clause-greatest : goal.returns-clause-greatest
returns-clause-greatest c =
    let same_sets = c.deref.ensures.value ∙ c.in_ok-copies.ensures.sets in
    rw (c.in_ok-copies.ensures.shores, same_sets) at c.in_ok-bound.ensures
