use Rattle.task_tours.proofs.Counting.{as_many}
use Rattle.task_tours.proofs.laws.served_once_are_as_many.Goals as goal

pub returns : goal.returns
returns c = as_many
