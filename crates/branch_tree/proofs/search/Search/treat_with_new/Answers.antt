use Rattle.std.proofs.Common.{ℕ, ◌<◌, ◌≤◌, ap, subst}
use Rattle.branch_tree.specs.Searches.{State}
use Rattle.branch_tree.proofs.Turns.{closed_turn, middle_may, middle_names, middle_search, raise_failed, raised_some, split_turn}
use Rattle.branch_tree.proofs.search.Search.treat_with_new.Goals as goal

pub returns-in_err-raised : goal.returns-in_err-raised
returns-in_err-raised g c =
    raise_failed c.known_laws.ensures c.args.inst.now c.args.self.now c.raise_leaf.new.self c.args.place c.args.branch.now c.args.number c.requires.search c.requires.names c.raise_leaf.ensures.framed
    c.raise_leaf.ensures.state c.raise_leaf.ensures.grown c.raise_leaf.ensures.belong c.from_residual.result c.from_residual.ensures.0

pub shown_under-shown-requires-clause-some : goal.shown_under-shown-requires-clause-some
shown_under-shown-requires-clause-some g c =
    raised_some c.known_laws.ensures c.args.inst.now c.args.self.now c.raise_leaf.new.self c.args.place c.args.branch.now c.args.number c.requires.search c.requires.names c.raise_leaf.ensures.framed
    c.raise_leaf.ensures.state c.raise_leaf.ensures.grown c.raise_leaf.ensures.belong c.in_ok-raised.raised.set c.in_ok-raised.ensures.raised c.requires.few

pub split_with_new-requires-clause-search : goal.split_with_new-requires-clause-search
split_with_new-requires-clause-search g c =
    middle_search c.known_laws.ensures c.args.inst.now c.args.self.now c.raise_leaf.new.self c.args.place c.args.branch.now c.args.number c.requires.search c.requires.names c.raise_leaf.ensures.framed
    c.raise_leaf.ensures.state c.raise_leaf.ensures.grown c.raise_leaf.ensures.belong

pub split_with_new-requires-clause-names : goal.split_with_new-requires-clause-names
split_with_new-requires-clause-names g c =
    middle_names c.known_laws.ensures c.args.inst.now c.args.self.now c.raise_leaf.new.self c.args.place c.args.branch.now c.args.number c.requires.search c.requires.names c.raise_leaf.ensures.framed
    c.raise_leaf.ensures.state c.raise_leaf.ensures.grown c.raise_leaf.ensures.belong

pub split_with_new-requires-clause-may : goal.split_with_new-requires-clause-may
split_with_new-requires-clause-may g c =
    middle_may c.known_laws.ensures c.args.inst.now c.args.self.now c.raise_leaf.new.self c.args.place c.args.branch.now c.args.number c.requires.search c.requires.names c.raise_leaf.ensures.framed
    c.raise_leaf.ensures.state c.raise_leaf.ensures.grown c.raise_leaf.ensures.belong c.in_ok-raised.raised.set c.in_ok-raised.ensures.raised c.requires.few c.shown_under-shown.ensures.unit

pub returns-then-self-shown : goal.returns-then-self-shown
returns-then-self-shown g c =
    closed_turn c.known_laws.ensures c.args.inst.now c.args.self.now c.raise_leaf.new.self c.args.place c.args.branch.now c.args.number c.requires.search c.requires.names c.raise_leaf.ensures.framed
    c.raise_leaf.ensures.state c.raise_leaf.ensures.grown c.raise_leaf.ensures.belong c.in_ok-raised.raised.set c.in_ok-raised.ensures.raised c.requires.few c.shown_under-shown.result c.shown_under-shown.ensures.unit c.shown_under-shown.ensures.shown
    c.close_with.new.self c.close_with.ensures.framed (subst (λ (n : ℕ). n ≤ c.shown_under-shown.result) (ap (λ (s : State). s.cost) c.raise_leaf.ensures.state) c.if-self-shown.true)
    c.close_with.result c.close_with.ensures.ok c.close_with.ensures.err

pub returns-else-self-shown : goal.returns-else-self-shown
returns-else-self-shown g c =
    split_turn c.known_laws.ensures c.args.inst.now c.args.self.now c.raise_leaf.new.self c.args.place c.args.branch.now c.args.number c.requires.search c.requires.names c.raise_leaf.ensures.framed
    c.raise_leaf.ensures.state c.raise_leaf.ensures.grown c.raise_leaf.ensures.belong c.in_ok-raised.raised.set c.in_ok-raised.ensures.raised c.requires.few c.shown_under-shown.result c.shown_under-shown.ensures.unit c.shown_under-shown.ensures.shown
    c.split_with_new.new.self c.split_with_new.ensures.framed (subst (λ (n : ℕ). c.shown_under-shown.result < n) (ap (λ (s : State). s.cost) c.raise_leaf.ensures.state) c.if-self-shown.false)
    c.split_with_new.result c.split_with_new.ensures.ok c.split_with_new.ensures.err
