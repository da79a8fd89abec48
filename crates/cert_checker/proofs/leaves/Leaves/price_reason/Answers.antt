use Rattle.std.proofs.Common.{rules, Option, ap, subst, ◌∙◌, ℤ, to_z, of_z}
use mir.Syntax.{w128}
use Rattle.std.proofs.lemmas.Int.{to_z-of_z}
use Rattle.branch_rules.specs.Prices.{Prices}
use Rattle.branch_rules.specs.Trees.{set_at}
use Rattle.cert_checker.specs.Claims.{support_in}
use Rattle.cert_checker.specs.Leaves.{TourSays}
use Rattle.cert_checker.specs.Nodes.{limit_of}
use Rattle.cert_checker.proofs.PriceLeaves.{price_says}
use Rattle.cert_checker.proofs.leaves.Leaves.price_reason.Goals as goal

pub returns-in-None-clause-says : goal.returns-in-None-clause-says
returns-in-None-clause-says c =
    let s = support_in c.args.claim.now in
    let set = set_at s c.args.set in
    let branch = c.args.branch.now in
    price_says s c.args.claim.now.bound c.args.node branch c.args.set (to_z w128 (of_z w128 c.in-Ok.value)) (to_z w128 (of_z w128 c.limit.result)) c.low_leaf.result c.requires.backed c.requires.set
    c.in-Ok.ensures.needs
    (to_z-of_z w128 c.in-Ok.value (search rules) ∙ c.in-Ok.ensures.value)
    (to_z-of_z w128 c.limit.result (search rules) ∙ c.limit.ensures ∙ ap (λ n. limit_of n c.args.claim.now.bound) (c.unit.ensures.value ∙ ap (λ (x : Prices). x.unit) c.set.ensures))
    (subst (λ (found : Option ℤ). TourSays s branch set found) c.in-None.is c.in_ok-value.ensures.says)
    c.low_leaf.ensures
