use Rattle.std.proofs.Common.{arith}
use Rattle.std.proofs.lemmas.Int.{ints}
use Rattle.branch_rules.proofs.Signed.{product_least, product_most}
use Rattle.branch_rules.proofs.branch.times.Goals as goal

pub overflow_mul-result : goal.overflow_mul-result
overflow_mul-result c =
    let least = product_least c.args.weight.now.weight c.args.number c.requires.within.low c.requires.small in
    let most = product_most c.args.weight.now.weight c.args.number c.requires.within.high c.requires.small in
    grind (arith, ints, least, most, c.from.ensures, c.from-2.ensures, c.requires.within.low, c.requires.within.high)

pub returns-clause-value : goal.returns-clause-value
returns-clause-value c =
    let least = product_least c.args.weight.now.weight c.args.number c.requires.within.low c.requires.small in
    let most = product_most c.args.weight.now.weight c.args.number c.requires.within.high c.requires.small in
    grind (arith, ints, least, most, c.from.ensures, c.from-2.ensures, c.requires.within.low, c.requires.within.high)

pub returns-clause-low : goal.returns-clause-low
returns-clause-low c =
    let least = product_least c.args.weight.now.weight c.args.number c.requires.within.low c.requires.small in
    let most = product_most c.args.weight.now.weight c.args.number c.requires.within.high c.requires.small in
    grind (arith, ints, least, most, c.from.ensures, c.from-2.ensures, c.requires.within.low, c.requires.within.high)

pub returns-clause-high : goal.returns-clause-high
returns-clause-high c =
    let least = product_least c.args.weight.now.weight c.args.number c.requires.within.low c.requires.small in
    let most = product_most c.args.weight.now.weight c.args.number c.requires.within.high c.requires.small in
    grind (arith, ints, least, most, c.from.ensures, c.from-2.ensures, c.requires.within.low, c.requires.within.high)
