use Rattle.std.proofs.Common.{◌+◌, List, subst}
use Rattle.std.proofs.lemmas.Result.{on_ok_weaker}
use Rattle.decision_chains.specs.declared.decision.Decision.{Decision}
use Rattle.cert_checker.specs.Claims.{support_in}
use Rattle.cert_checker.specs.Leaves.{NodeSays}
use Rattle.cert_checker.specs.Nodes.{NodeFails, NodeStands}
use Rattle.branch_rules.specs.Paths.{branch_of}
use Rattle.cert_checker.proofs.Walking.{both, node_in, walked_fails, walked_stands}
use Rattle.cert_checker.proofs.checker.Checker.test.Goals as goal

pub returns-in-Some-clause-walked : goal.returns-in-Some-clause-walked
returns-in-Some-clause-walked c = λ taken walked.
    let old = c.args.self.now in
    let s = support_in c.args.claim.now in
    walked_fails s c.args.claim.now.bound taken old c.args.node.now c.in-Some.reason c.requires.none c.requires.goes
    (subst (λ (branch : List Decision). NodeFails s c.args.claim.now.bound (old.taken + 1) branch c.args.node.now c.in-Some.reason) c.branch-branch.ensures
    (subst (NodeSays s c.args.claim.now.bound (old.taken + 1) c.branch-branch.result.now c.args.node.now) c.in-Some.is c.in_ok-reason.ensures.says))
    walked

pub returns-in-None-clause-checker : goal.returns-in-None-clause-checker
returns-in-None-clause-checker c =
    let old = c.args.self.now in
    let s = support_in c.args.claim.now in
    let stands = subst (λ (branch : List Decision). NodeStands s c.args.claim.now.bound branch c.args.node.now) c.branch-branch.ensures
    (subst (NodeSays s c.args.claim.now.bound (old.taken + 1) c.branch-branch.result.now c.args.node.now) c.in-None.is c.in_ok-reason.ensures.says) in
    let inside = on_ok_weaker c.pass.result (λ kept. kept s c.requires.checker.path_in (node_in s c.args.claim.now.bound (branch_of old.path) c.args.node.now c.requires.backed c.requires.read stands)) c.pass.ensures.inside in
    both c.pass.result (λ path path_in. record { leaves = c.in_ok-reason.ensures.leaves; path = path; path_in = path_in }) c.pass.ensures.path inside

pub returns-in-None-clause-walked : goal.returns-in-None-clause-walked
returns-in-None-clause-walked c =
    let old = c.args.self.now in
    let s = support_in c.args.claim.now in
    let stands = subst (λ (branch : List Decision). NodeStands s c.args.claim.now.bound branch c.args.node.now) c.branch-branch.ensures
    (subst (NodeSays s c.args.claim.now.bound (old.taken + 1) c.branch-branch.result.now c.args.node.now) c.in-None.is c.in_ok-reason.ensures.says) in
    on_ok_weaker c.pass.result (λ waits taken walked. walked_stands s c.args.claim.now.bound taken old c.args.node.now _ c.requires.none c.requires.goes stands waits walked) c.pass.ensures.waits
