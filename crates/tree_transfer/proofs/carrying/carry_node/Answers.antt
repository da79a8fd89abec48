use Rattle.std.proofs.Common.{subst, sym, ◌∙◌}
use Rattle.std.proofs.lemmas.Bool.{false≢true}
use Rattle.branch_rules.specs.Limits.{IsNodeIn}
use Rattle.tree_transfer.proofs.Moving.{at_place, gives_at, keeps_at}
use Rattle.tree_transfer.proofs.carrying.carry_node.Goals as goal

pub returns-then-branch-clause-at : goal.returns-then-branch-clause-at
returns-then-branch-clause-at c =
    gives_at c.args.inst.now c.args.pool.now c.args.tree.now.nodes c.args.place c.args.path.now c.args.carried.now c.requires.at c.requires.place c.behind.result _ _
    c.branch-path.ensures c.node-node.ensures (c.in_ok-gives_way.ensures.0 c.if-branch.true) c.behind.ensures.behind c.behind.ensures.within c.behind.ensures.on

pub returns-clause-at : goal.returns-clause-at
returns-clause-at c =
    keeps_at c.args.inst.now c.args.pool.now c.args.tree.now.nodes c.args.place c.args.path.now c.args.carried.now c.requires.at c.requires.place c.pass.new.self c.put_node.new.self _ _
    c.branch-path.ensures c.node-node.ensures (λ gives. false≢true (sym c.if-branch.false ∙ c.in_ok-gives_way.ensures.1 gives)) c.requires.inside c.requires.fine
    c.in_ok-pass.ensures.path
    (c.in_ok-pass.ensures.inside _ c.requires.at.path_in
    (subst (IsNodeIn c.args.inst.now c.args.pool.now) (sym c.node-node.ensures) (at_place (IsNodeIn c.args.inst.now c.args.pool.now) c.args.tree.now.nodes c.args.place c.requires.place c.requires.inside)))
    c.in_ok-pass.ensures.waits c.put_node.ensures
