use Rattle.std.proofs.Common.{subst}
use Rattle.route_pricing.specs.Pricing.{AreSurcharges}
use Rattle.cert_checker.proofs.Pricing.{are_surcharges}
use Rattle.cert_checker.proofs.leaves.set_surcharges.Goals as goal

pub returns-clause-fit : goal.returns-clause-fit
returns-clause-fit c =
    subst (λ m. AreSurcharges m c.in_ok-table.table.items) c.required.ensures.value
    (are_surcharges c.surcharges_are_bond_weights.ensures.symmetric c.required.result c.groups.result.now c.in_ok-table.table.items c.in_ok-table.ensures.table c.in_ok-table.ensures.within)
