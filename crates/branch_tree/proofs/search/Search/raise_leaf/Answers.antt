use Rattle.std.proofs.Common.{◌≤◌, List, length, subst, sym}
use Rattle.branch_rules.specs.Decisions.{rules_of}
use Rattle.branch_rules.specs.Prices.{Prices, value_of}
use Rattle.grown_trees.specs.Values.{IsShown}
use Rattle.branch_tree.specs.Leaves.{MayBegin}
use Rattle.branch_tree.specs.Searches.{set_in, state_of}
use Rattle.branch_tree.proofs.Standing.{leaf_shores, may_begin, named_some}
use Rattle.branch_tree.proofs.search.Search.raise_leaf.Goals as goal

pub raise_and_propose-requires-clause-begins : goal.raise_and_propose-requires-clause-begins
raise_and_propose-requires-clause-begins g c =
    subst (λ (sets : List Prices). MayBegin c.args.inst.now c.args.self.now.pool c.args.branch.now sets c.args.number) (sym c.deref.ensures.value)
    (may_begin c.known_laws.ensures c.args.inst.now (state_of c.args.self.now) c.requires.search.held c.args.place c.args.branch.now c.requires.names.at c.args.number c.requires.names)

pub raise_and_propose-requires-clause-shores : goal.raise_and_propose-requires-clause-shores
raise_and_propose-requires-clause-shores g c =
    leaf_shores c.known_laws.ensures c.args.inst.now (state_of c.args.self.now) c.requires.search.held c.args.place c.args.branch.now c.requires.names.at

pub raise_and_propose-requires-clause-some : goal.raise_and_propose-requires-clause-some
raise_and_propose-requires-clause-some g c =
    subst (λ (sets : List Prices). 1 ≤ (set_in sets c.args.number).unit → IsShown (set_in sets c.args.number).unit (value_of (rules_of c.args.inst.now c.args.self.now.pool c.args.branch.now) (set_in sets c.args.number)) 0)
    (sym c.deref.ensures.value)
    (named_some c.known_laws.ensures c.args.inst.now (state_of c.args.self.now) c.requires.search.held c.args.place c.args.branch.now c.requires.names.at c.args.number c.requires.names)

pub raise_and_propose-requires-clause-few : goal.raise_and_propose-requires-clause-few
raise_and_propose-requires-clause-few g c = subst (λ (sets : List Prices). length sets ≤ 256) (sym c.deref.ensures.value) c.requires.search.held.few_sets

pub raise_and_propose-requires-clause-leaf : goal.raise_and_propose-requires-clause-leaf
raise_and_propose-requires-clause-leaf g c =
    let begins : MayBegin c.args.inst.now c.args.self.now.pool c.args.branch.now c.args.self.now.sets.items c.args.number =
    may_begin c.known_laws.ensures c.args.inst.now (state_of c.args.self.now) c.requires.search.held c.args.place c.args.branch.now c.requires.names.at c.args.number c.requires.names in
    record { valid = c.validity.ensures; net = c.requires.search.net; pairs = begins.pairs }
