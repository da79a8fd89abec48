use Rattle.std.proofs.Common.{All, [], sym, subst, ◌∙◌, arith}
use Rattle.route_pricing.specs.Pricing.{IsServicePrice}
use Rattle.dual_master.proofs.Packed.{costs_small}
use Rattle.branch_rules.specs.Bonds.{IsSurchargeTable}
use Rattle.branch_rules.specs.Limits as limits
use Rattle.dual_master.proofs.Tabled.{costs_servable, none_charged, ratio_from_filled}
use Rattle.dual_master.proofs.ratio.least_ratio.Goals as goal

pub service_prices-requires : goal.service_prices-requires
service_prices-requires c = costs_small c.args.inst.now 1 c.validity.ensures (omega arith)

pub fill-requires-clause-prices : goal.fill-requires-clause-prices
fill-requires-clause-prices c = subst (All IsServicePrice) (sym (c.deref.ensures.value ∙ c.in_ok-services.ensures)) (costs_servable c.args.inst.now c.validity.ensures)

pub fill-requires-clause-surcharges : goal.fill-requires-clause-surcharges
fill-requires-clause-surcharges c =
    none_charged c.args.inst.now.required c.deref-2.result.now
    (subst (λ n. IsSurchargeTable n [] c.deref-2.result.now) c.required.ensures.value
    (subst (IsSurchargeTable c.required.result []) (sym c.deref-2.ensures.value) c.in_ok-surcharges.ensures.table))
    (subst (All limits.IsSurcharge) (sym c.deref-2.ensures.value) c.in_ok-surcharges.ensures.within)

pub returns-clause-value : goal.returns-clause-value
returns-clause-value c =
    ratio_from_filled c.args.inst.now c.in_ok-allowed.allowed c.in_ok-allowed.ensures c.deref-2.result.now
    (subst (λ n. IsSurchargeTable n [] c.deref-2.result.now) c.required.ensures.value
    (subst (IsSurchargeTable c.required.result []) (sym c.deref-2.ensures.value) c.in_ok-surcharges.ensures.table))
    c.validity.ensures c.args.dist.now.prices c.deref.result.now c.requires.costs
    (c.deref.ensures.value ∙ c.in_ok-services.ensures) c.fill.new.self c.fill.ensures.filled c.least_ratio.result c.least_ratio.ensures
