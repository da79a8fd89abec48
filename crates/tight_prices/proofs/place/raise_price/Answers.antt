use Rattle.std.proofs.Common.{◌≡◌, ◌∙◌, sym, subst}
use Rattle.std.proofs.lemmas.Result.{IfOk-weaker}
use Rattle.branch_rules.specs.Limits.{IsPriceSet}
use Rattle.branch_rules.specs.Prices.{Prices}
use Rattle.tight_prices.specs.Tight.{with_price}
use Rattle.tight_prices.proofs.Adding.{made, same_made}
use Rattle.tight_prices.proofs.Fine.{price_set_fine}
use Rattle.tight_prices.proofs.place.raise_price.Goals as goal

pub rebuilt-requires : goal.rebuilt-requires
rebuilt-requires c =
    let set = c.args.set.now in
    subst IsPriceSet (sym (same_made c.args.set.now (c.deref.ensures.value ∙ c.in_ok-services.ensures) (c.deref-2.ensures.value ∙ c.in_ok-weights.ensures)))
    (price_set_fine set c.args.e c.args.more c.unit.ensures.fine c.requires.within)

pub returns : goal.returns
returns c =
    let set = c.args.set.now in
    IfOk-weaker c.rebuilt.result (λ (s : Prices). s ≡ made c.args.set.now c.deref.result.now c.deref-2.result.now) (λ (s : Prices). s ≡ with_price set c.args.e c.args.more)
    (λ s is. is ∙ same_made c.args.set.now (c.deref.ensures.value ∙ c.in_ok-services.ensures) (c.deref-2.ensures.value ∙ c.in_ok-weights.ensures)) c.rebuilt.ensures
