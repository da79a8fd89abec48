use Rattle.std.proofs.Common.{lit<, refl, arith}
use Rattle.std.proofs.lemmas.Bool.{false≢true}
use Rattle.std.proofs.lemmas.Int.{ints}
use Rattle.branch_rules.specs.Prices.{no_group}
use Rattle.branch_rules.specs.Trees.{no_prices}
use Rattle.cert_lines.proofs.examples.certificates_that_cannot_be_spelled.Goals as goal

pub returns-clause-group_without_counts : goal.returns-clause-group_without_counts
returns-clause-group_without_counts c fine = false≢true (fine.counted refl)

pub returns-clause-group_without_counts_unspellable : goal.returns-clause-group_without_counts_unspellable
returns-clause-group_without_counts_unspellable c spellable = false≢true (spellable.counted refl)

pub returns-clause-no_group_weight : goal.returns-clause-no_group_weight
returns-clause-no_group_weight c fine = ((fine.sets_fine 0 no_prices (lit< tt)).prices.groups 0 no_group (lit< tt)).some refl

pub returns-clause-falling_group : goal.returns-clause-falling_group
returns-clause-falling_group c fine = omega (arith, ((fine.sets_fine 0 no_prices (lit< tt)).prices.groups 0 no_group (lit< tt)).rising 0 (lit< tt))

pub returns-clause-negative_group_of_three : goal.returns-clause-negative_group_of_three
returns-clause-negative_group_of_three c fine = omega (arith, ((fine.sets_fine 0 no_prices (lit< tt)).prices.groups 0 no_group (lit< tt)).pair (omega (arith, ints)))
