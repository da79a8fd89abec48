use Rattle.std.proofs.Common.{◌≡◌, ◌+◌, ◌<◌, ◌++◌, ◌∷◌, [], length, take, sym, ap, ◌∙◌, subst, arith, List}
use Rattle.std.proofs.lemmas.List.{take_more}
use Rattle.std.proofs.Math.Seq.{take-length}
use Rattle.branch_rules.specs.declared.node.Node.{Node}
use Rattle.branch_rules.specs.declared.node.Node.TheVariants.{Void}
use Rattle.cert_checker.specs.Claims.{support_in}
use Rattle.cert_checker.specs.Walks.{HasWalked}
use Rattle.cert_checker.proofs.Filling.{goes_on}
use Rattle.cert_checker.proofs.Walking.{tree_says}
use Rattle.cert_checker.proofs.checking.take_all.Goals as goal

pub take-requires-clause-goes : goal.take-requires-clause-goes
take-requires-clause-goes c = goes_on (support_in c.args.claim.now) c.args.claim.now.bound c.args.tree.now.nodes c.loop-place.place c.loop-place.checker c.requires.whole (omega (arith, c.loop-place-test.true)) c.loop-place.invariant.walked

pub loop-place-preserved : goal.loop-place-preserved
loop-place-preserved c =
    let s = support_in c.args.claim.now in
    let all = c.args.tree.now.nodes in
    let place = c.loop-place.place in
    let less : place < length all = omega (arith, c.loop-place-test.true, c.len-place-end.ensures) in
    let more : take place all ++ c.node.result ∷ [] ≡ take (place + 1) all = ap (λ (x : Node). take place all ++ x ∷ []) c.node.ensures ∙ sym (take_more all place Void less) in
    record {
      checker = c.in_ok-take.ensures.checker;
      count = omega (arith, c.in_ok-take.ensures.count, c.loop-place.invariant.count);
      walked = subst (λ (xs : List Node). HasWalked s c.args.claim.now.bound c.take.new.self xs) more (c.in_ok-take.ensures.walked (take place all) c.loop-place.invariant.walked);
    }

pub returns : goal.returns
returns c =
    let s = support_in c.args.claim.now in
    let all = c.args.tree.now.nodes in
    let whole : take c.loop-place.place all ≡ all = ap (λ n. take n all) (omega (arith, c.loop-place-test.false, c.len-place-end.ensures)) ∙ take-length all in
    tree_says s c.args.claim.now.bound all c.loop-place.checker.reason _ _ (subst (λ (xs : List Node). HasWalked s c.args.claim.now.bound c.loop-place.checker xs) whole c.loop-place.invariant.walked)
