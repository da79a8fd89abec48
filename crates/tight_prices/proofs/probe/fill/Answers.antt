use Rattle.std.proofs.Common.{◌∙◌, sym, subst, List}
use Rattle.branch_rules.specs.Bonds.{GroupWeight, IsSurchargeTable}
use Rattle.route_pricing.specs.Pricing.{AreSurcharges}
use Rattle.tight_prices.proofs.Tabled.{are_surcharges, filled_for}
use Rattle.tight_prices.proofs.probe.fill.Goals as goal

pub fill-requires-clause-surcharges : goal.fill-requires-clause-surcharges
fill-requires-clause-surcharges c =
    subst (λ n. AreSurcharges n c.deref-3.result.now) c.required.ensures.value
    (subst (AreSurcharges c.required.result) (sym c.deref-3.ensures.value)
    (are_surcharges c.surcharges_are_bond_weights.ensures.symmetric c.required.result c.groups.result.now c.in_ok-surcharges.surcharges.items c.in_ok-surcharges.ensures.table
    c.in_ok-surcharges.ensures.within))

pub returns-clause-filled : goal.returns-clause-filled
returns-clause-filled c so =
    let x = c.args.setting.now in
    let charged =
    subst (λ n. IsSurchargeTable n c.args.set.now.groups c.deref-3.result.now) c.required.ensures.value
    (subst (λ (groups : List GroupWeight). IsSurchargeTable c.required.result groups c.deref-3.result.now) c.groups.ensures.value
    (subst (IsSurchargeTable c.required.result c.groups.result.now) (sym c.deref-3.ensures.value) c.in_ok-surcharges.ensures.table)) in
    filled_for x.inst.now x.pool.now x.branch.now c.args.set.now x.allowed.now c.fill.new.self c.in_ok-dist.dist.prices c.unit.result c.deref-2.result.now c.deref-3.result.now
    c.requires.setting.permits (c.in_ok-dist.ensures.prices ∙ c.deref.ensures.value ∙ c.in-Ok.ensures.value) c.unit.ensures.value (c.deref-2.ensures.value ∙ c.in_ok-services.ensures.value) charged
    c.fill.ensures.filled
