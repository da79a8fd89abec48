use Rattle.std.proofs.Common.{◌≡◌, ◌<◌, length, get_or, ◌∙◌, sym, subst, arith, Option, MatchOption}
use Rattle.std.proofs.lemmas.List.{get_or_default}
use Rattle.std.proofs.lemmas.List.Elements.{All-from_get_or}
use Rattle.branch_rules.specs.Prices.{Prices}
use Rattle.branch_rules.specs.Refusals.{IsTooHeavy, NoneTooHeavy}
use Rattle.branch_rules.specs.Trees.{no_prices}
use Rattle.cert_checker.specs.Claims.{claimed}
use Rattle.cert_checker.specs.Reasons.{IsFirstReason}
use Rattle.branch_rules.specs.declared.price_set.TooHeavy.{TooHeavy}
use Rattle.cert_checker.proofs.Firsts.{first_heavy}
use Rattle.cert_checker.proofs.head.deadhead_reason.Goals as goal

pub returns-in-Some : goal.returns-in-Some
returns-in-Some c = λ nodes.
    let p = c.args.claim.now.inst.now in
    let pool = c.args.claim.now.shores.now in
    let sets = c.args.claim.now.sets.now in
    let place = c.loop-place.place in
    let less : place < length sets = omega (arith, c.loop-place-test.true) in
    let is : c.set-item.result ≡ get_or sets place no_prices = c.set-item.is ∙ get_or_default sets place _ no_prices less in
    let found : IsTooHeavy p pool c.set-item.result c.in-Some.heavy =
    subst (λ (o : Option TooHeavy). MatchOption o (NoneTooHeavy p pool c.set-item.result) (IsTooHeavy p pool c.set-item.result)) c.in-Some.is c.in_ok-heavy.ensures in
    subst (IsFirstReason p (claimed c.args.claim.now nodes)) (sym c.too_large.ensures)
    (c.requires.right nodes, first_heavy p (claimed c.args.claim.now nodes) place c.in-Some.heavy less (subst (λ (set : Prices). IsTooHeavy p pool set c.in-Some.heavy) is found) c.loop-place.invariant)

pub returns : goal.returns
returns c = λ nodes. record {
  prices = c.requires.right nodes;
  deadheads = All-from_get_or (NoneTooHeavy c.args.claim.now.inst.now c.args.claim.now.shores.now) c.args.claim.now.sets.now no_prices (λ i less. c.loop-place.invariant i (omega (arith, less, c.loop-place-test.false)));
}
