use Rattle.command_inputs.proofs.LaidRounds.{no_instance}
use Rattle.command_inputs.proofs.rounds.parse_round.Goals as goal

pub returns-in-Err : goal.returns-in-Err
returns-in-Err c = no_instance c.readings_are_unique.ensures.instance c.readings_are_unique.ensures.apart c.args.bytes.now c.in-Err.fail c.in-Err.ensures
