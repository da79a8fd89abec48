use Rattle.command_inputs.proofs.Pairs.{tried_again}
use Rattle.command_inputs.proofs.gathering.gather_instance.Goals as goal

pub returns-in-Err-clause-tried : goal.returns-in-Err-clause-tried
returns-in-Err-clause-tried g c = tried_again c.in-Err.fail c.in-Err.ensures.read.tried
