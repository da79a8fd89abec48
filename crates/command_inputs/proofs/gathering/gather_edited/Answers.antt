use Rattle.command_inputs.proofs.Pairs.{tried_again, tried_made}
use Rattle.command_inputs.proofs.gathering.gather_edited.Goals as goal

pub returns-in-Ok-clause-tried : goal.returns-in-Ok-clause-tried
returns-in-Ok-clause-tried g c = tried_made _ _ c.in-Ok.ensures.tried

pub returns-in-Err-clause-tried : goal.returns-in-Err-clause-tried
returns-in-Err-clause-tried g c = tried_again c.in-Err.fail c.in-Err.ensures.tried
