use Rattle.std.proofs.Common.{arith}
use Rattle.std.proofs.lemmas.Int.{ints}
use Rattle.dual_master.proofs.Sizes.{product_back}
use Rattle.dual_master.proofs.values.is_no_more.Goals as goal

pub returns-clause-yes : goal.returns-clause-yes
returns-clause-yes c is =
    let own = product_back c.args.other_unit c.args.value c.from.result c.requires.other_unit c.requires.value c.from.ensures in
    let other = product_back c.args.unit c.args.other c.from-2.result c.requires.unit c.requires.other c.from-2.ensures in
    omega (arith, ints, is, own, other)

pub returns-clause-no : goal.returns-clause-no
returns-clause-no c is =
    let own = product_back c.args.other_unit c.args.value c.from.result c.requires.other_unit c.requires.value c.from.ensures in
    let other = product_back c.args.unit c.args.other c.from-2.result c.requires.unit c.requires.other c.from-2.ensures in
    omega (arith, ints, is, own, other)
