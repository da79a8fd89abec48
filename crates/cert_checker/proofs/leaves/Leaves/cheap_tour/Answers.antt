use Rattle.cert_checker.specs.Claims.{support_in}
use Rattle.cert_checker.specs.Leaves.{pricing_of}
use Rattle.branch_rules.specs.Trees.{set_at}
use Rattle.cert_checker.proofs.Pricing.{least_of, tours_say}
use Rattle.cert_checker.proofs.leaves.Leaves.cheap_tour.Goals as goal

pub returns-clause-says : goal.returns-clause-says
returns-clause-says c =
    let s = support_in c.args.claim.now in
    let f = c.in_ok-fill.ensures.filled in
    tours_say s c.args.branch.now (set_at s c.args.set) c.least.result _
    (least_of c.surcharges_are_bond_weights.ensures.sum s c.args.branch.now c.args.set f.relation f.permits f.surcharges f.charged c.least.result
    (c.least.ensures (pricing_of s c.args.set f.relation f.surcharges) f.filled))
    c.if_negative.ensures
