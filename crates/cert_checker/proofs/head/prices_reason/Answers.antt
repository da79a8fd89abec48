use Rattle.std.proofs.Common.{◌≡◌, ◌<◌, length, get_or, ◌∙◌, ap, arith}
use Rattle.std.proofs.lemmas.List.{get_or_default}
use Rattle.std.proofs.lemmas.List.Elements.{All-from_get_or}
use Rattle.branch_rules.specs.Prices.{Prices}
use Rattle.branch_rules.specs.Trees.{no_prices}
use Rattle.cert_format.specs.Good.{HasPriceEach, support_of}
use Rattle.cert_checker.specs.Claims.{claimed}
use Rattle.cert_checker.proofs.Firsts.{first_set}
use Rattle.cert_checker.proofs.head.prices_reason.Goals as goal

pub returns-then-services-required : goal.returns-then-services-required
returns-then-services-required c = λ nodes.
    let p = c.args.claim.now.inst.now in
    let sets = c.args.claim.now.sets.now in
    let place = c.loop-place.place in
    let less : place < length sets = omega (arith, c.loop-place-test.true) in
    let is : c.set-item.result ≡ get_or sets place no_prices = c.set-item.is ∙ get_or_default sets place _ no_prices less in (
      c.requires nodes,
      first_set (HasPriceEach p) (support_of p (claimed c.args.claim.now nodes)) place less
          (λ has. omega (arith, has, ap (λ (set : Prices). length set.services) is, c.services.ensures.value, c.required-required.ensures.value, c.if-services-required.true)) c.loop-place.invariant,
    )

pub returns : goal.returns
returns c = λ nodes. record {
  shores = c.requires nodes;
  prices = All-from_get_or (HasPriceEach c.args.claim.now.inst.now) c.args.claim.now.sets.now no_prices (λ i less. c.loop-place.invariant i (omega (arith, less, c.loop-place-test.false)));
}
