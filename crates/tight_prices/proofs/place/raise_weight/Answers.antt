use Rattle.std.proofs.Common.{◌≡◌, ◌∙◌, sym, subst}
use Rattle.std.proofs.lemmas.Result.{IfOk-weaker}
use Rattle.branch_rules.specs.Limits.{IsPriceSet}
use Rattle.branch_rules.specs.Prices.{Prices}
use Rattle.tight_prices.specs.Tight.{with_weight}
use Rattle.tight_prices.proofs.Adding.{made, same_made}
use Rattle.tight_prices.proofs.Fine.{weight_set_fine}
use Rattle.tight_prices.proofs.place.raise_weight.Goals as goal

pub rebuilt-requires : goal.rebuilt-requires
rebuilt-requires c =
    subst IsPriceSet (sym (same_made c.args.set.now (c.deref.ensures.value ∙ c.in_ok-services.ensures.value) (c.deref-2.ensures.value ∙ c.in_ok-weights.ensures)))
    (weight_set_fine c.args.pool.now c.args.set.now c.args.s c.args.more c.len.ensures.few c.unit.ensures.fine c.requires.shores c.requires.number c.requires.within)

pub returns : goal.returns
returns c =
    IfOk-weaker c.rebuilt.result (λ (s : Prices). s ≡ made c.args.set.now c.deref.result.now c.deref-2.result.now) (λ (s : Prices). s ≡ with_weight c.args.set.now c.args.s c.args.more)
    (λ s is. is ∙ same_made c.args.set.now (c.deref.ensures.value ∙ c.in_ok-services.ensures.value) (c.deref-2.ensures.value ∙ c.in_ok-weights.ensures)) c.rebuilt.ensures
