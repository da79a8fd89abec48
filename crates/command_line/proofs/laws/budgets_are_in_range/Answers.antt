use Rattle.command_line.proofs.Budgets.{budget_in}
use Rattle.command_line.proofs.laws.budgets_are_in_range.Goals as goal

pub returns : goal.returns
returns c = budget_in
