use Rattle.std.proofs.Common.{arith}
use Rattle.tree_transfer.specs.Bounding.{support_in}
use Rattle.tree_transfer.proofs.Values.{fixed_up_to}
use Rattle.tree_transfer.proofs.bounding.fixed_value.Goals as goal

pub returns-clause-shown : goal.returns-clause-shown
returns-clause-shown c =
    fixed_up_to c.fixed_values_compare.ensures.unique (support_in c.args.given.now) c.args.branch.now _ _ c.requires.fixed c.in_ok-plan.ensures.value
    (omega (arith, c.min.ensures, c.from.ensures, c.in_ok-cost.ensures))
