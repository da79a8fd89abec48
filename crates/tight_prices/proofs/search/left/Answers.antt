use Rattle.std.proofs.Common.{◌≡◌, ◌⊎◌, subst, arith, pos, ◌≤ℤ◌, to_z, of_z}
use Rattle.std.proofs.lemmas.Int.{ints}
use mir.Syntax.{w128}
use Rattle.tight_prices.proofs.Tabled.{still_most}
use Rattle.tight_prices.proofs.search.left.Goals as goal

pub returns-in-Edge-clause-most : goal.returns-in-Edge-clause-most
returns-in-Edge-clause-most c g set filled long was =
    let same : to_z w128 (of_z w128 c.through.result) ≡ c.through.result = omega (arith, ints, c.through.type_inv) in
    still_most c.surcharges_are_bond_weights.ensures.sum g set c.args.table.now c.args.place c.in-Edge.e c.args.most c.capped.result c.through.result c.in-Edge.is c.requires.edge c.through.ensures c.capped.ensures.low
    (subst (λ z. (c.capped.result ≡ c.args.most) ⊎ (z ≤ℤ pos c.capped.result)) same c.capped.ensures.either) filled long was
