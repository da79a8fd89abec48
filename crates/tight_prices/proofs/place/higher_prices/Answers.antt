use Rattle.std.proofs.Common.{◌≡◌, arith, pos, ◌+ℤ◌, to_z, of_z, w64}
use Rattle.std.proofs.lemmas.Int.{ints}
use Rattle.branch_rules.specs.Prices.{price_in}
use Rattle.tight_prices.proofs.Adding.{price_set}
use Rattle.tight_prices.proofs.place.higher_prices.Goals as goal

pub returns : goal.returns
returns c =
    let set = c.args.set.now in
    let z : to_z w64 (of_z w64 c.higher_price.result) ≡ price_in set c.args.e +ℤ pos c.args.more = omega (arith, ints, c.higher_price.ensures, c.higher_price.type_inv) in
    rw (c.in_ok-services.ensures.value, z) (price_set set c.args.e c.args.more c.requires.from_one)
