use Rattle.std.proofs.Common.{List, ◌++◌, ◌∷◌, [], subst, sym}
use Rattle.branch_rules.specs.Decisions.{rules_of}
use Rattle.branch_rules.specs.Prices.{value_of}
use Rattle.grown_trees.specs.Values.{IsMostShown, IsShown}
use Rattle.decision_chains.specs.declared.decision.Decision.{Decision}
use Rattle.grown_trees.specs.Laws.{IsOpenDecision}
use Rattle.branch_tree.proofs.Decisions.{first_open, second_open}
use Rattle.branch_tree.proofs.children.children_show.Goals as goal

pub shown_after-requires-clause-undecided : goal.shown_after-requires-clause-undecided
shown_after-requires-clause-undecided c =
    subst (λ (d : Decision). IsOpenDecision c.args.inst.now c.args.branch.now d) (sym c.first_decision.ensures)
    (first_open c.args.inst.now c.args.pool.now c.args.branch.now c.args.node.now c.requires.node)

pub shown_after-requires-2-clause-undecided : goal.shown_after-requires-2-clause-undecided
shown_after-requires-2-clause-undecided c =
    subst (λ branch. IsOpenDecision c.args.inst.now branch c.second_decision.result) (sym c.shown_after.ensures.same)
    (subst (λ (d : Decision). IsOpenDecision c.args.inst.now c.args.branch.now d) (sym c.second_decision.ensures)
    (second_open c.args.inst.now c.args.pool.now c.args.branch.now c.args.node.now c.requires.node))

pub shown_after-requires-2-clause-some : goal.shown_after-requires-2-clause-some
shown_after-requires-2-clause-some c = λ some.
    let set = c.args.set.now in
    subst (λ (branch : List Decision). IsShown set.unit (value_of (rules_of c.args.inst.now c.args.pool.now branch) set) 0) (sym c.shown_after.ensures.same) (c.requires.some some)

pub returns-clause-shown : goal.returns-clause-shown
returns-clause-shown c =
    let p = c.args.inst.now in
    let pool = c.args.pool.now in
    let branch = c.args.branch.now in
    let set = c.args.set.now in
    record {
      first =
          subst (λ (d : Decision). IsMostShown set.unit (value_of (rules_of p pool (branch ++ d ∷ [])) set) c.in_ok-first.first) c.first_decision.ensures c.in_ok-first.ensures.shown;
      second =
          subst (λ (d : Decision). IsMostShown set.unit (value_of (rules_of p pool (branch ++ d ∷ [])) set) c.in_ok-second.second) c.second_decision.ensures
          (subst (λ (before : List Decision). IsMostShown set.unit (value_of (rules_of p pool (before ++ c.second_decision.result ∷ [])) set) c.in_ok-second.second) c.shown_after.ensures.same
          c.in_ok-second.ensures.shown);
    }
