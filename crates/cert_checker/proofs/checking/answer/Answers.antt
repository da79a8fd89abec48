use Rattle.std.proofs.Common.{refl, subst}
use Rattle.cert_checker.specs.Claims.{claimed, support_in}
use Rattle.cert_checker.specs.Layers.{LayerSays}
use Rattle.cert_checker.specs.Reasons.{HeadIsRight}
use Rattle.cert_checker.specs.Walks.{TreeSays}
use Rattle.cert_checker.proofs.Accepting.{backed_by, first_from, good_from}
use Rattle.cert_checker.proofs.Spelled.{spelled_is}
use Rattle.cert_checker.proofs.checking.answer.Goals as goal

pub head_reason-requires : goal.head_reason-requires
head_reason-requires c =
    let claim = c.args.claim.now in
    (spelled_is c.spellable_is_fine.ensures (support_in claim) (claimed claim c.args.tree.now.nodes) refl refl c.requires).sets_read

pub returns-in-Some-clause-answer : goal.returns-in-Some-clause-answer
returns-in-Some-clause-answer c = subst (LayerSays HeadIsRight c.args.claim.now) c.in-Some.is c.in_ok-reason.ensures c.args.tree.now.nodes

pub tree_reason-requires-clause-backed : goal.tree_reason-requires-clause-backed
tree_reason-requires-clause-backed c =
    let claim = c.args.claim.now in
    let head = subst (LayerSays HeadIsRight claim) c.in_default.is c.in_ok-reason.ensures c.args.tree.now.nodes in
    backed_by claim.inst.now (claimed claim c.args.tree.now.nodes) head (spelled_is c.spellable_is_fine.ensures (support_in claim) (claimed claim c.args.tree.now.nodes) refl refl c.requires).sets_read

pub tree_reason-requires-clause-read : goal.tree_reason-requires-clause-read
tree_reason-requires-clause-read c =
    let claim = c.args.claim.now in
    (spelled_is c.spellable_is_fine.ensures (support_in claim) (claimed claim c.args.tree.now.nodes) refl refl c.requires).read

pub tree_reason-requires-clause-whole : goal.tree_reason-requires-clause-whole
tree_reason-requires-clause-whole c =
    let claim = c.args.claim.now in
    (spelled_is c.spellable_is_fine.ensures (support_in claim) (claimed claim c.args.tree.now.nodes) refl refl c.requires).whole

pub returns-in-Some-2-clause-answer : goal.returns-in-Some-2-clause-answer
returns-in-Some-2-clause-answer c =
    let claim = c.args.claim.now in
    let all = c.args.tree.now.nodes in
    let head = subst (LayerSays HeadIsRight claim) c.in_default.is c.in_ok-reason.ensures all in
    first_from claim.inst.now (claimed claim all) c.in-Some-2.reason head (subst (TreeSays (support_in claim) claim.bound all) c.in-Some-2.is c.in_ok-reason-2.ensures)

pub returns-in-None : goal.returns-in-None
returns-in-None c =
    let claim = c.args.claim.now in
    let all = c.args.tree.now.nodes in
    let head = subst (LayerSays HeadIsRight claim) c.in_default.is c.in_ok-reason.ensures all in
    let good = good_from claim.inst.now (claimed claim all) head (spelled_is c.spellable_is_fine.ensures (support_in claim) (claimed claim all) refl refl c.requires).whole (subst (TreeSays (support_in claim) claim.bound all) c.in-None.is c.in_ok-reason-2.ensures) in
    record { answer = good; proof = c.good_is_proof.ensures claim.inst.now (claimed claim all) c.validity.ensures good }
