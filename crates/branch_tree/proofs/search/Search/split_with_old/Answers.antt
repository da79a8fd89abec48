use Rattle.std.proofs.Common.{List, subst, sym, refl, arith, ◌≤◌}
use Rattle.branch_rules.specs.Decisions.{rules_of}
use Rattle.branch_rules.specs.Prices.{Prices, value_of}
use Rattle.grown_trees.specs.Values.{IsShown}
use Rattle.branch_tree.specs.Leaves.{IsSplitBy, MayBegin}
use Rattle.branch_tree.specs.Searches.{set_in, state_of}
use Rattle.branch_tree.specs.declared.search.Turn.TheVariants.{Split}
use Rattle.branch_tree.proofs.Standing.{leaf_shores, may_begin, named_some}
use Rattle.branch_tree.proofs.Turning.{splits_old}
use Rattle.branch_tree.proofs.Turns.{as_before_same, turn_failed, turn_framed}
use Rattle.branch_tree.proofs.search.Search.split_with_old.Goals as goal

pub choose_halves_of-requires-clause-begins : goal.choose_halves_of-requires-clause-begins
choose_halves_of-requires-clause-begins c =
    subst (λ (sets : List Prices). MayBegin c.args.inst.now c.args.self.now.pool c.args.branch.now sets c.args.number) (sym c.deref.ensures.value)
    (may_begin c.known_laws.ensures c.args.inst.now (state_of c.args.self.now) c.requires.search.held c.args.place c.args.branch.now c.requires.names.at c.args.number c.requires.names)

pub choose_halves_of-requires-clause-shores : goal.choose_halves_of-requires-clause-shores
choose_halves_of-requires-clause-shores c = leaf_shores c.known_laws.ensures c.args.inst.now (state_of c.args.self.now) c.requires.search.held c.args.place c.args.branch.now c.requires.names.at

pub choose_halves_of-requires-clause-some : goal.choose_halves_of-requires-clause-some
choose_halves_of-requires-clause-some c =
    subst (λ (sets : List Prices). 1 ≤ (set_in sets c.args.number).unit → IsShown (set_in sets c.args.number).unit (value_of (rules_of c.args.inst.now c.args.self.now.pool c.args.branch.now) (set_in sets c.args.number)) 0) (sym c.deref.ensures.value)
    (named_some c.known_laws.ensures c.args.inst.now (state_of c.args.self.now) c.requires.search.held c.args.place c.args.branch.now c.requires.names.at c.args.number c.requires.names)

pub returns-in_err-halves : goal.returns-in_err-halves
returns-in_err-halves c =
    turn_failed c.args.inst.now c.args.self.now c.args.self.now c.from_residual.result c.from_residual.ensures.0 c.requires.search refl refl (as_before_same (state_of c.args.self.now))

pub put_split-requires-clause-room : goal.put_split-requires-clause-room
put_split-requires-clause-room c = omega (arith, c.requires.search.held.few_nodes, c.requires.search.room, c.requires.left)

pub returns : goal.returns
returns c =
    turn_framed c.args.inst.now c.args.self.now c.put_split.new.self Split _ c.requires.search c.put_split.ensures.framed c.put_split.ensures.state
    (splits_old c.known_laws.ensures c.args.inst.now (state_of c.args.self.now) c.requires.search.held c.args.place c.args.branch.now c.args.number c.requires.names
    (subst (λ (sets : List Prices). 1 ≤ (set_in sets c.args.number).unit) c.deref.ensures.value c.in_ok-halves.ensures.some_unit) c.in_ok-halves.halves.node c.in_ok-halves.halves.children
    (subst (λ (sets : List Prices). IsSplitBy c.args.inst.now c.args.self.now.pool c.args.branch.now (set_in sets c.args.number) c.in_ok-halves.halves.node c.in_ok-halves.halves.children)
    c.deref.ensures.value c.in_ok-halves.ensures.split) c.requires.full)
