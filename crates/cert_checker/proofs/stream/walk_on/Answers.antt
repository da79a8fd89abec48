use Rattle.std.proofs.Common.{ℕ, ◌+◌, ◌≤◌, ◌∷◌, ◌++◌, List, OnOk, [], sym, subst, arith, length-append}
use Rattle.branch_rules.specs.Trees.{Support}
use Rattle.branch_rules.specs.declared.node.Node.{Node}
use Rattle.cert_checker.specs.Claims.{IsBacked, IsNodeRead, support_in}
use Rattle.cert_checker.specs.Streams.{head_with}
use Rattle.cert_checker.specs.Walks.{HasWalked, IsChecker}
use Rattle.cert_checker.proofs.Accepting.{backed_by}
use Rattle.cert_checker.proofs.Filling.{goes_so_far}
use Rattle.cert_checker.proofs.Walking.{both}
use Rattle.cert_checker.proofs.stream.walk_on.Goals as goal

pub take-requires-clause-checker : goal.take-requires-clause-checker
take-requires-clause-checker c = subst (λ (s : Support). IsChecker s c.args.checker.now) (sym (c.claim_of-claim.ensures.support c.requires.nodes)) c.requires.walks.keeps

pub take-requires-clause-backed : goal.take-requires-clause-backed
take-requires-clause-backed c =
    let nodes = c.requires.nodes in
    subst IsBacked (sym (c.claim_of-claim.ensures.support nodes)) (backed_by c.args.inst.now (head_with c.args.head.now nodes) (c.requires.walks.head nodes) c.requires.sets_read)

pub take-requires-clause-read : goal.take-requires-clause-read
take-requires-clause-read c = subst (λ (s : Support). IsNodeRead s c.args.node.now) (sym (c.claim_of-claim.ensures.support c.requires.nodes)) c.requires.read

pub take-requires-clause-goes : goal.take-requires-clause-goes
take-requires-clause-goes c = λ none. goes_so_far _ _ c.requires.nodes c.args.node.now c.args.checker.now c.requires.fits c.requires.walks.walked none

pub returns : goal.returns
returns c = λ nodes walks.
    let new = c.take.new.self in
    let claim = c.claim_of-claim.result in
    let more = nodes ++ c.args.node.now ∷ [] in
    let same = c.claim_of-claim.ensures.support nodes in
    let before = subst (λ (b : ℕ). HasWalked (support_in claim) b c.args.checker.now nodes) (sym c.claim_of-claim.ensures.bound)
    (subst (λ (s : Support). HasWalked s c.args.head.now.bound c.args.checker.now nodes) (sym same) walks.walked) in
    let both_are : OnOk c.take.result ((new.taken ≤ c.args.checker.now.taken + 1) × ((taken : List Node) → HasWalked (support_in claim) claim.bound c.args.checker.now taken → HasWalked (support_in claim) claim.bound new (taken ++ c.args.node.now ∷ [])))
    = both c.take.result (λ few walked. (few, walked)) c.take.ensures.count c.take.ensures.walked in
    both c.take.result
    (λ keeps rest. record {
      head = walks.head;
      keeps = subst (λ (s : Support). IsChecker s new) same keeps;
      walked = subst (λ (s : Support). HasWalked s c.args.head.now.bound new more) same
          (subst (λ (b : ℕ). HasWalked (support_in claim) b new more) c.claim_of-claim.ensures.bound (rest.1 nodes before));
      few = omega (arith, rest.0, walks.few, length-append nodes (c.args.node.now ∷ []));
    })
    c.take.ensures.checker both_are
